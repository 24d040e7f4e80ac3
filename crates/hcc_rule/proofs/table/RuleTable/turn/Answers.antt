use Rattle.std.proofs.Common.{ap, is_some}
use Rattle.hcc_rule.specs.Callers.{plan_of}
use Rattle.hcc_rule.proofs.Ledgers.HandSteps.{turn_step}
use Rattle.hcc_rule.proofs.table.RuleTable.turn.Goals as goal

pub fetch_add-requires : goal.fetch_add-requires
fetch_add-requires g c =
    let planned = c.args.self.now.planned in
    let seat = c.requires.seat in (
      seat,
      c.ledger.ensures.inside,
      turn_step g.T.Tag.fits (plan_of c.args.self.now) _ _ _ _
          (ap is_some seat.tagged) (rw planned.0 c.ledger.ensures.value),
    )
