use Rattle.std.proofs.Common.{◌≡◌, true, Some, slice_get, rules, refl, ap, ◌∙◌, arith}
use Rattle.hcc_core.specs.contracts.machine.Machine.{the_view}
use Rattle.hcc_core.proofs.Opening.{is_lawful}
use Rattle.hcc_core.proofs.ListLemmas.{read_is}
use Rattle.std.proofs.Common.{unwrap_or}
use Rattle.hcc_core.specs.declared.event.Reply.TheVariants as replies
use Rattle.hcc_core.specs.World.{trail_of}
use Rattle.hcc_core.specs.References.{joined, noticed}
use Rattle.hcc_core.specs.Entries.{may_free, client_freeing}
use Rattle.hcc_core.proofs.Readable.{both_charged_fit, freed_slots_few}
use Rattle.hcc_core.proofs.StepLemmas.{free_gives}
use Rattle.hcc_core.proofs.machine.Machine.free.Goals as goal

pub overflow_add-freed : goal.overflow_add-freed
overflow_add-freed c =
    let w = the_view c.self.inside in
    let found = c.in_ok-found.found.now in
    let at_client : slice_get w.clients c.args.client ≡ Some found = search rules in
    let law = is_lawful w (rw c.self.view_is c.requires) in
    let seen = c.in_ok-seen.seen.now in
    let at_slot : slice_get w.slots c.args.slot ≡ Some seen = search rules in
    let fits = both_charged_fit w c.args.slot c.args.client seen found law at_slot at_client in
    let charge = c.charge-charge.ensures in
    omega arith

pub overflow_add-freed_slots : goal.overflow_add-freed_slots
overflow_add-freed_slots c =
    let w = the_view c.self.inside in
    let found = c.in_ok-found.found.now in
    let at_client : slice_get w.clients c.args.client ≡ Some found = search rules in
    let law = is_lawful w (rw c.self.view_is c.requires) in
    let few = freed_slots_few w c.args.client found law at_client in
    omega arith

pub returns : goal.returns
returns c =
    let w = the_view c.self.inside in
    let found = c.in_ok-found.found.now in
    let at_client : slice_get w.clients c.args.client ≡ Some found = search rules in
    let seen = c.in_ok-seen.seen.now in
    let at_slot : slice_get w.slots c.args.slot ≡ Some seen = search rules in
    let slot_is = read_is w.slots c.args.slot _ seen at_slot c.index_mut.ensures.value in
    let client_is = read_is w.clients c.args.client _ found at_client
    c.index_mut-found.ensures.value in
    let may : may_free c.args.client found seen c.args.name ≡ true = search rules in
    let trail : c.into_trail.result ≡ trail_of seen = c.into_trail.ensures
    ∙ ap trail_of (c.replace-taken.ensures.value ∙ slot_is) in
    let list : unwrap_or c.in_ok-dead.dead found.dead ≡ noticed c.args.client seen found.dead =
    c.in_ok-dead.ensures.ok ∙ ap (joined found.dead) c.dead_to.ensures in
    let becomes : c.note.new.self ≡ client_freeing c.args.client c.args.slot seen found =
    rw (c.note.ensures, client_is, list, trail, c.charge-charge.ensures) refl in
    rw (← c.self.view_is)
    (free_gives w c.args.client c.args.slot c.args.name found
    c.note.new.self seen c.replace-taken.new.dest _
    at_slot at_client c.in_ok-found.ensures.found.1 may c.replace-taken.ensures.after
    (ap replies.Freed c.charge-charge.ensures) becomes)
