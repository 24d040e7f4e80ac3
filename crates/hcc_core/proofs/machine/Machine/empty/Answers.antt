use Rattle.std.proofs.Common.{◌≡◌, true, Some, slice_get, rules, refl, arith}
use Rattle.std.proofs.lemmas.Option.{slice_get_within}
use Rattle.hcc_core.specs.contracts.machine.Machine.{the_view}
use Rattle.hcc_core.proofs.Opening.{is_lawful}
use Rattle.hcc_core.proofs.ListLemmas.{read_is}
use Rattle.hcc_core.specs.Outcomes.{has_no_member}
use Rattle.hcc_core.specs.Entries.{freed_by}
use Rattle.hcc_core.proofs.LawfulEntries.{owned_there, frees_slot}
use Rattle.hcc_core.proofs.StepLemmas.{empty_gives}
use Rattle.hcc_core.proofs.machine.Machine.empty.Goals as goal

pub index_mut-requires-2 : goal.index_mut-requires-2
index_mut-requires-2 c =
    let w = the_view c.self.inside in
    let found = c.in_ok-found.found.now in
    let at_client : slice_get w.clients c.args.client ≡ Some found = search rules in
    let law = is_lawful w (rw c.self.view_is c.requires) in
    let frees : freed_by found.owned ≡ Some c.in-Some.slot = search rules in
    let there = owned_there w c.args.client c.in-Some.slot found
    law at_client (frees_slot found.owned c.in-Some.slot frees) in
    let within = slice_get_within w.slots c.in-Some.slot there.0 there.1 in
    omega arith

pub returns : goal.returns
returns c =
    let w = the_view c.self.inside in
    let found = c.in_ok-found.found.now in
    let at_client : slice_get w.clients c.args.client ≡ Some found = search rules in
    let client_is = read_is w.clients c.args.client _ found at_client c.index_mut.ensures.value in
    let frees : freed_by found.owned ≡ Some c.in-Some.slot = search rules in
    let back : has_no_member found.trail ≡ true = search rules in
    rw (← c.self.view_is, client_is)
    (empty_gives w c.args.client c.in-Some.slot found _ at_client
    c.in_ok-found.ensures.found.1 frees back refl)
