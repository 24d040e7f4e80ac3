use Rattle.std.proofs.Common.{ap, is_some, arith}
use Rattle.hcc_rule.specs.Callers.{plan_of}
use Rattle.hcc_rule.proofs.Ledgers.StandingSteps.{stand_step}
use Rattle.hcc_rule.proofs.table.RuleTable.stand.Goals as goal

pub fetch_add-requires : goal.fetch_add-requires
fetch_add-requires g c =
    let planned = c.args.self.now.planned in
    let seat = c.requires.seat in (
      seat,
      c.ledger.ensures.inside,
      stand_step g.T.Tag.fits (plan_of c.args.self.now) _ _ _ _
          (ap is_some seat.tagged) (rw planned.0 c.ledger.ensures.value)
          c.args.name c.args.charge (omega arith) (omega arith)
          c.requires.absent c.requires.granted c.requires.fresh c.requires.few,
    )
