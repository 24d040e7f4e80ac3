use Rattle.std.proofs.Common.{◌≡◌, true, Some, slice_get, rules, refl, ap, ◌∙◌, arith}
use Rattle.std.proofs.lemmas.Option.{slice_get_within}
use Rattle.hcc_core.specs.contracts.machine.Machine.{the_view}
use Rattle.hcc_core.specs.declared.client.Client.{Client}
use Rattle.hcc_core.proofs.Opening.{is_lawful}
use Rattle.hcc_core.proofs.ListLemmas.{read_is}
use Rattle.hcc_core.specs.Entries.{built_by, may_show, client_shown}
use Rattle.hcc_core.proofs.LawfulEntries.{owned_there, builds_slot}
use Rattle.hcc_core.proofs.StepLemmas.{show_gives}
use Rattle.hcc_core.proofs.machine.Machine.show.Goals as goal

pub index_mut-requires-2 : goal.index_mut-requires-2
index_mut-requires-2 c =
    let w = the_view c.self.inside in
    let found = c.in_ok-found.found.now in
    let at_client : slice_get w.clients c.args.client ≡ Some found = search rules in
    let law = is_lawful w (rw c.self.view_is c.requires) in
    let builds : built_by found.owned ≡ Some c.in-Some.slot = search rules in
    let there = owned_there w c.args.client c.in-Some.slot found
    law at_client (builds_slot found.owned c.in-Some.slot builds) in
    let within = slice_get_within w.slots c.in-Some.slot there.0 there.1 in
    omega arith

pub returns : goal.returns
returns c =
    let w = the_view c.self.inside in
    let found = c.in_ok-found.found.now in
    let at_client : slice_get w.clients c.args.client ≡ Some found = search rules in
    let client_is = read_is w.clients c.args.client _ found at_client c.index_mut.ensures.value in
    let builds : built_by found.owned ≡ Some c.in-Some.slot = search rules in
    let may : may_show w.slots c.args.client found c.args.charge c.args.countdown c.args.name
    ≡ true = search rules in
    let trail_is : c.hand_over-trail.result ≡ found.trail = c.hand_over-trail.ensures.trail
    ∙ ap (λ (k : Client). k.trail) client_is in
    let becomes = c.hand_over-trail.ensures.after ∙ ap (client_shown c.args.charge) client_is in
    rw (← c.self.view_is, trail_is, c.in_ok-references.ensures.ok, c.first_uses.ensures)
    (show_gives w c.args.client c.in-Some.slot c.args.key.0 c.args.key.1
    c.args.charge c.args.countdown c.args.name c.args.value found _ _
    at_client c.in_ok-found.ensures.found.1 builds may refl becomes)
