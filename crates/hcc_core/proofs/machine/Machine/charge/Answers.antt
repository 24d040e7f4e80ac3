use Rattle.std.proofs.Common.{◌≡◌, true, Some, slice_get, rules, refl, sym, ap, ◌∙◌, arith}
use Rattle.hcc_core.specs.contracts.machine.Machine.{the_view}
use Rattle.hcc_core.proofs.ListLemmas.{read_is}
use Rattle.hcc_core.specs.World.{usage_of}
use Rattle.hcc_core.specs.Ledgers.{may_charge, grant_of}
use Rattle.hcc_core.proofs.Readable.{usage_fits}
use Rattle.hcc_core.proofs.StepLemmas.{charge_gives}
use Rattle.hcc_core.proofs.machine.Machine.charge.Goals as goal

pub may_charge-requires : goal.may_charge-requires
may_charge-requires c =
    let usage = usage_fits c.args.self.now c.requires in
    let is = c.usage-usage.ensures in
    omega arith

pub returns : goal.returns
returns c =
    let w = the_view c.self.inside in
    let found = c.in_ok-found.found.now in
    let at_client : slice_get w.clients c.args.client ≡ Some found = search rules in
    let client_is = read_is w.clients c.args.client _ found at_client
    c.index_mut-found.ensures.value in
    let used : c.usage-usage.result ≡ usage_of w = c.usage-usage.ensures
    ∙ ap usage_of (sym c.self.view_is) in
    let may : may_charge found c.usage-usage.result c.args.charge ≡ true = search rules in
    let grants : c.grant-granted.result ≡ grant_of w.setup c.usage-usage.result c.args.charge =
    c.grant-granted.ensures.is in
    rw (← c.self.view_is, client_is)
    (charge_gives w c.args.client c.args.charge c.grant-granted.result
    c.usage-usage.result found _ at_client c.in_ok-found.ensures.found.1 used may grants refl)
