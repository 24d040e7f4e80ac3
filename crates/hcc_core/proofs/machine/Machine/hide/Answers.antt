use Rattle.std.proofs.Common.{◌≡◌, Some, slice_get, length, rules, refl, sym, ap, ◌∙◌}
use Rattle.std.proofs.lemmas.Option.{slice_get_read}
use Rattle.hcc_core.specs.contracts.machine.Machine.{the_view}
use Rattle.hcc_core.specs.World.{slot_holding}
use Rattle.hcc_core.proofs.ListLemmas.{read_is}
use Rattle.hcc_core.specs.References.{joined}
use Rattle.hcc_core.specs.Entries.{slot_hidden, hidden}
use Rattle.hcc_core.proofs.StepLemmas.{noted, held_has_client, dead_hidden, hide_gives}
use Rattle.hcc_core.proofs.machine.Machine.hide.Goals as goal

pub returns : goal.returns
returns c =
    let w = the_view c.self.inside in
    let found = c.in_ok-found.found.now in
    let at_client : slice_get w.clients c.args.client ≡ Some found = search rules in
    let slot = c.in_ok-slot.slot in
    let holds : slot_holding w.slots c.args.client c.args.name ≡ Some slot = search rules in
    let seen = c.index-seen.result.now in
    let at_slot : slice_get w.slots slot ≡ Some seen =
    slice_get_read w.slots (length w.slots) slot seen refl
    (search rules) c.index-seen.ensures in
    let slot_is = read_is w.slots slot _ seen at_slot c.index_mut-2.ensures.value in
    let client_is = read_is w.clients c.args.client _ found at_client c.index_mut.ensures.value in
    let has = held_has_client w.slots c.args.client c.args.name slot seen holds at_slot in
    let list = c.in_ok-dead.ensures.ok
    ∙ ap (joined found.dead) (c.stamp.ensures ∙ sym (dead_hidden c.args.client seen has)) in
    let becomes = noted found c.index_mut.result.now c.note.new.self
    c.in_ok-dead.dead _ client_is c.note.ensures list in
    let leaves = c.hide.ensures ∙ ap slot_hidden slot_is in
    let answers : c.if-is_shown.reply ≡ hidden seen = search rules in
    rw (← c.self.view_is)
    (hide_gives w c.args.client c.args.name slot found c.note.new.self
    seen c.hide.new.self c.if-is_shown.reply
    at_client c.in_ok-found.ensures.found.1 holds at_slot leaves answers becomes)
