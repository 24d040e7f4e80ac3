use Rattle.std.proofs.Common.{◌≡◌, Some, slice_get, length, rules, refl, ap, ◌∙◌, arith}
use Rattle.std.proofs.lemmas.Option.{slice_get_read}
use Rattle.hcc_core.specs.contracts.machine.Machine.{the_view}
use Rattle.hcc_core.specs.World.{slot_holding, references_of, reference_in}
use Rattle.hcc_core.proofs.Opening.{is_lawful}
use Rattle.hcc_core.proofs.ListLemmas.{read_is}
use Rattle.hcc_core.specs.References.{joined, slot_used, counting_in}
use Rattle.hcc_core.proofs.LawfulReferences.{used_bounded}
use Rattle.hcc_core.proofs.Keeps.{counting-is}
use Rattle.hcc_core.proofs.Readable.{bounded_weight, used_fits}
use Rattle.hcc_core.proofs.StepLemmas.{noted, use_gives}
use Rattle.hcc_core.proofs.machine.Machine.spend.Goals as goal

pub spend-requires : goal.spend-requires
spend-requires c =
    let w = the_view c.self.inside in
    let found = c.in_ok-found.found.now in
    let at_client : slice_get w.clients c.args.client ≡ Some found = search rules in
    let slot = c.in_ok-slot.slot in
    let holds : slot_holding w.slots c.args.client c.args.name ≡ Some slot = search rules in
    let law = is_lawful w (rw c.self.view_is c.requires) in
    let seen = c.index-seen.result.now in
    let at_slot : slice_get w.slots slot ≡ Some seen =
    slice_get_read w.slots (length w.slots) slot seen refl
    (search rules) c.index-seen.ensures in
    let slot_is = read_is w.slots slot _ seen at_slot c.index_mut-left.ensures.value in
    let there : counting_in c.args.client c.args.name (references_of seen)
    ≡ Some c.in-Some.reference = search rules in
    let counts = counting-is (reference_in c.args.client c.args.name (references_of seen))
    c.in-Some.reference there in
    let fits = used_fits w c.args.client c.args.name c.in-Some.reference
    seen (law.bounded slot seen at_slot) counts.0 counts.1 in
    rw slot_is (omega arith)

pub left-requires : goal.left-requires
left-requires c =
    let w = the_view c.self.inside in
    let found = c.in_ok-found.found.now in
    let at_client : slice_get w.clients c.args.client ≡ Some found = search rules in
    let slot = c.in_ok-slot.slot in
    let holds : slot_holding w.slots c.args.client c.args.name ≡ Some slot = search rules in
    let law = is_lawful w (rw c.self.view_is c.requires) in
    let seen = c.index-seen.result.now in
    let at_slot : slice_get w.slots slot ≡ Some seen =
    slice_get_read w.slots (length w.slots) slot seen refl
    (search rules) c.index-seen.ensures in
    let slot_is = read_is w.slots slot _ seen at_slot c.index_mut-left.ensures.value in
    let there : counting_in c.args.client c.args.name (references_of seen)
    ≡ Some c.in-Some.reference = search rules in
    let counts = counting-is (reference_in c.args.client c.args.name (references_of seen))
    c.in-Some.reference there in
    let bound = used_bounded w.setup c.args.client c.args.name
    c.in-Some.reference seen counts.0 counts.1 (law.bounded slot seen at_slot) in
    let fits = bounded_weight w (slot_used c.args.client c.args.name c.in-Some.reference seen)
    law bound in
    rw (c.spend.ensures, slot_is) (omega arith)

pub returns : goal.returns
returns c =
    let w = the_view c.self.inside in
    let found = c.in_ok-found.found.now in
    let at_client : slice_get w.clients c.args.client ≡ Some found = search rules in
    let slot = c.in_ok-slot.slot in
    let holds : slot_holding w.slots c.args.client c.args.name ≡ Some slot = search rules in
    let seen = c.index-seen.result.now in
    let at_slot : slice_get w.slots slot ≡ Some seen =
    slice_get_read w.slots (length w.slots) slot seen refl
    (search rules) c.index-seen.ensures in
    let slot_is = read_is w.slots slot _ seen at_slot c.index_mut-left.ensures.value in
    let client_is = read_is w.clients c.args.client _ found at_client c.index_mut.ensures.value in
    let there : counting_in c.args.client c.args.name (references_of seen)
    ≡ Some c.in-Some.reference = search rules in
    let list = c.in_ok-dead.ensures.ok ∙ ap (joined found.dead) c.dead_to.ensures in
    let becomes = noted found c.index_mut.result.now c.note.new.self
    c.in_ok-dead.dead _ client_is c.note.ensures list in
    let leaves = c.spend.ensures
    ∙ ap (slot_used c.args.client c.args.name c.in-Some.reference) slot_is in
    rw (← c.self.view_is)
    (use_gives w c.args.client c.args.name slot found c.note.new.self
    seen c.spend.new.self c.in-Some.reference c.left.result
    at_client c.in_ok-found.ensures.found.1 holds at_slot there leaves c.left.ensures becomes)
