use Rattle.std.proofs.Common.{ap, refl, is_some}
use Rattle.hcc_rule.specs.Callers.{plan_of}
use Rattle.hcc_rule.proofs.Ledgers.OccupancySteps.{enter_step}
use Rattle.hcc_rule.specs.Rule.{setup_of}
use Rattle.hcc_rule.proofs.table.RuleTable.enter.Goals as goal

pub fetch_add-requires : goal.fetch_add-requires
fetch_add-requires g c =
    let planned = c.args.self.now.planned in
    let seat = c.requires.seat in (
      seat,
      c.ledger.ensures.inside,
      enter_step g.T.Tag.fits (plan_of c.args.self.now) _ _ _ _
          (ap is_some seat.tagged) (rw planned.0 c.ledger.ensures.value)
          (setup_of (plan_of c.args.self.now)) refl c.requires.absent,
    )
