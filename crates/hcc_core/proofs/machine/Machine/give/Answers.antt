use Rattle.std.proofs.Common.{◌≡◌, Some, slice_get, length, rules, refl, ap, ◌∙◌, arith}
use Rattle.std.proofs.lemmas.Option.{slice_get_read}
use Rattle.hcc_core.specs.contracts.machine.Machine.{the_view}
use Rattle.hcc_core.specs.World.{slot_holding}
use Rattle.hcc_core.proofs.Opening.{is_lawful}
use Rattle.hcc_core.proofs.ListLemmas.{read_is}
use Rattle.hcc_core.specs.References.{joined, slot_given}
use Rattle.hcc_core.proofs.LawfulReferences.{given_bounded}
use Rattle.hcc_core.proofs.Readable.{bounded_weight}
use Rattle.hcc_core.proofs.StepLemmas.{noted, give_gives}
use Rattle.hcc_core.proofs.machine.Machine.give.Goals as goal

pub left-requires : goal.left-requires
left-requires c =
    let w = the_view c.self.inside in
    let found = c.in_ok-found.found.now in
    let at_client : slice_get w.clients c.args.client ≡ Some found = search rules in
    let slot = c.in_ok-slot.slot in
    let holds : slot_holding w.slots c.args.client c.args.name ≡ Some slot = search rules in
    let law = is_lawful w (rw c.self.view_is c.requires) in
    let seen = c.index.result.now in
    let at_slot : slice_get w.slots slot ≡ Some seen =
    slice_get_read w.slots (length w.slots) slot seen refl (search rules) c.index.ensures in
    let slot_is = read_is w.slots slot _ seen at_slot c.index_mut-left.ensures.value in
    let few = given_bounded w.setup c.args.client c.args.name
    seen (law.bounded slot seen at_slot) in
    let fits = bounded_weight w (slot_given c.args.client c.args.name seen) law few in
    rw (c.give.ensures, slot_is) (omega arith)

pub returns : goal.returns
returns c =
    let w = the_view c.self.inside in
    let found = c.in_ok-found.found.now in
    let at_client : slice_get w.clients c.args.client ≡ Some found = search rules in
    let slot = c.in_ok-slot.slot in
    let holds : slot_holding w.slots c.args.client c.args.name ≡ Some slot = search rules in
    let seen = c.index.result.now in
    let at_slot : slice_get w.slots slot ≡ Some seen =
    slice_get_read w.slots (length w.slots) slot seen refl (search rules) c.index.ensures in
    let slot_is = read_is w.slots slot _ seen at_slot c.index_mut-left.ensures.value in
    let client_is = read_is w.clients c.args.client _ found at_client c.index_mut.ensures.value in
    let list = c.in_ok-dead.ensures.ok ∙ ap (joined found.dead) c.dead_to.ensures in
    let becomes = noted found c.index_mut.result.now c.note.new.self
    c.in_ok-dead.dead _ client_is c.note.ensures list in
    let leaves = c.give.ensures ∙ ap (slot_given c.args.client c.args.name) slot_is in
    rw (← c.self.view_is)
    (give_gives w c.args.client c.args.name slot found c.note.new.self
    seen c.give.new.self c.left.result
    at_client c.in_ok-found.ensures.found.1 holds at_slot leaves c.left.ensures becomes)
