use Rattle.std.proofs.Common.{◌≡◌, Some, slice_get, rules, refl, arith}
use Rattle.std.specs.List.{find}
use Rattle.hcc_core.specs.contracts.machine.Machine.{the_view}
use Rattle.hcc_core.specs.Ledgers.{is_standing}
use Rattle.hcc_core.proofs.Opening.{is_lawful}
use Rattle.hcc_core.proofs.ListLemmas.{read_is}
use Rattle.hcc_core.proofs.Readable.{fallen_fits}
use Rattle.hcc_core.proofs.StepLemmas.{fall_gives}
use Rattle.hcc_core.proofs.machine.Machine.fall.Goals as goal

pub overflow_add-freed : goal.overflow_add-freed
overflow_add-freed c =
    let w = the_view c.self.inside in
    let found = c.in_ok-found.found.now in
    let at_client : slice_get w.clients c.args.client ≡ Some found = search rules in
    let law = is_lawful w (rw c.self.view_is c.requires) in
    let there : find (is_standing c.args.name) found.standalones ≡ Some c.in-Some.gone.now =
    search rules in
    let fits = fallen_fits w c.args.client c.args.name found
    c.in-Some.gone.now law at_client there in
    omega arith

pub returns : goal.returns
returns c =
    let w = the_view c.self.inside in
    let found = c.in_ok-found.found.now in
    let at_client : slice_get w.clients c.args.client ≡ Some found = search rules in
    let client_is = read_is w.clients c.args.client _ found at_client
    c.index_mut-found.ensures.value in
    let there : find (is_standing c.args.name) found.standalones ≡ Some c.in-Some.gone.now =
    search rules in
    rw (← c.self.view_is, c.fell.ensures, client_is)
    (fall_gives w c.args.client c.args.name found _ c.in-Some.gone.now
    at_client c.in_ok-found.ensures.found.1 there refl)
