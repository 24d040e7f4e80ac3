use Rattle.std.proofs.Common.{◌≡◌, true, Some, slice_get, rules, refl, arith}
use Rattle.hcc_core.specs.contracts.machine.Machine.{the_view}
use Rattle.hcc_core.proofs.Opening.{is_lawful}
use Rattle.hcc_core.proofs.ListLemmas.{read_is}
use Rattle.hcc_core.specs.Ledgers.{may_settle}
use Rattle.hcc_core.proofs.Readable.{charged_fits}
use Rattle.hcc_core.proofs.StepLemmas.{settle_gives}
use Rattle.hcc_core.proofs.machine.Machine.settle.Goals as goal

pub overflow_add-granted : goal.overflow_add-granted
overflow_add-granted c =
    let w = the_view c.self.inside in
    let found = c.in_ok-found.found.now in
    let at_client : slice_get w.clients c.args.client ≡ Some found = search rules in
    let law = is_lawful w (rw c.self.view_is c.requires) in
    let fits = charged_fits w c.args.client found law at_client in
    omega arith

pub returns : goal.returns
returns c =
    let w = the_view c.self.inside in
    let found = c.in_ok-found.found.now in
    let at_client : slice_get w.clients c.args.client ≡ Some found = search rules in
    let client_is = read_is w.clients c.args.client _ found at_client
    c.index_mut-found.ensures.value in
    let may : may_settle found ≡ true = search rules in
    rw (← c.self.view_is, client_is)
    (settle_gives w c.args.client found _ at_client c.in_ok-found.ensures.found.1 may refl)
