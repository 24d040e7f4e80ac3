use Rattle.std.proofs.Common.{◌≡◌, true, Some, slice_get, rules, refl, sym, ap, ◌∙◌, arith}
use Rattle.hcc_core.specs.contracts.machine.Machine.{the_view}
use Rattle.hcc_core.proofs.Opening.{is_lawful}
use Rattle.hcc_core.proofs.ListLemmas.{read_is}
use Rattle.std.proofs.Common.{unwrap_or}
use Rattle.hcc_core.specs.World.{counts_in}
use Rattle.hcc_core.specs.References.{joined, noticed, may_acquire, acquired, new_reference}
use Rattle.hcc_core.specs.References.{slot_acquired, client_acquired}
use Rattle.hcc_core.proofs.LawfulReferences.{may_acquire_parts}
use Rattle.hcc_core.proofs.Readable.{bounded_weight, strays_few}
use Rattle.hcc_core.proofs.StepLemmas.{dead_acquired, acquire_gives}
use Rattle.hcc_core.proofs.machine.Machine.acquire.Goals as goal

pub may_acquire-requires : goal.may_acquire-requires
may_acquire-requires c =
    let w = the_view c.self.inside in
    let found = c.in_ok-found.found.now in
    let at_client : slice_get w.clients c.args.client ≡ Some found = search rules in
    let law = is_lawful w (rw c.self.view_is c.requires) in
    let seen = c.in_ok-seen.seen.now in
    let at_slot : slice_get w.slots c.args.slot ≡ Some seen = search rules in
    let fits = bounded_weight w seen law (law.bounded c.args.slot seen at_slot) in
    omega arith

pub acquire-requires : goal.acquire-requires
acquire-requires c =
    let w = the_view c.self.inside in
    let found = c.in_ok-found.found.now in
    let at_client : slice_get w.clients c.args.client ≡ Some found = search rules in
    let law = is_lawful w (rw c.self.view_is c.requires) in
    let seen = c.in_ok-seen.seen.now in
    let at_slot : slice_get w.slots c.args.slot ≡ Some seen = search rules in
    let slot_is = read_is w.slots c.args.slot _ seen at_slot c.index_mut.ensures.value in
    let may : may_acquire w.setup w.slots c.args.client found
    c.args.slot seen c.args.weight c.args.name ≡ true = search rules in
    let parts = may_acquire_parts w.setup w.slots c.args.client
    found c.args.slot seen c.args.weight c.args.name may in
    let few = parts.few in
    let strays = strays_few w c.args.slot seen law at_slot in
    rw slot_is (omega arith)

pub returns : goal.returns
returns c =
    let w = the_view c.self.inside in
    let found = c.in_ok-found.found.now in
    let at_client : slice_get w.clients c.args.client ≡ Some found = search rules in
    let seen = c.in_ok-seen.seen.now in
    let at_slot : slice_get w.slots c.args.slot ≡ Some seen = search rules in
    let slot_is = read_is w.slots c.args.slot _ seen at_slot c.index_mut.ensures.value in
    let client_is = read_is w.clients c.args.client _ found at_client
    c.index_mut-found.ensures.value in
    let may : may_acquire w.setup w.slots c.args.client found
    c.args.slot seen c.args.weight c.args.name ≡ true = search rules in
    let left = slot_acquired seen (new_reference c.args.client c.args.name c.args.weight seen) in
    let list : unwrap_or c.in_ok-dead.dead found.dead ≡ noticed c.args.client left found.dead =
    c.in_ok-dead.ensures.ok
    ∙ ap (joined found.dead) (c.hidden_stamp.ensures
    ∙ sym (dead_acquired c.args.client c.args.name c.args.weight seen)) in
    let becomes : c.note.new.self ≡ client_acquired c.args.client left found =
    rw (c.note.ensures, client_is, list) refl in
    let leaves : c.acquire.new.self ≡ left =
    rw (c.in_ok-acquire.ensures.ok, slot_is, c.counts-counting.ensures) refl in
    let answers : c.acquired-reply.result ≡ acquired seen (counts_in seen) =
    rw (c.acquired-reply.ensures, c.counts-counting.ensures) refl in
    rw (← c.self.view_is)
    (acquire_gives w c.args.client c.args.slot c.args.weight
    c.args.name found c.note.new.self seen c.acquire.new.self c.acquired-reply.result
    at_slot at_client c.in_ok-found.ensures.found.1 may answers leaves becomes)
