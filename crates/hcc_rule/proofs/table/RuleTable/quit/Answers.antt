use Rattle.std.proofs.Common.{ap, sym, is_some}
use Rattle.hcc_rule.specs.Callers.{plan_of}
use Rattle.hcc_rule.proofs.Ledgers.OccupancySteps.{quit_step}
use Rattle.hcc_rule.proofs.table.RuleTable.quit.Goals as goal

pub fetch_sub-requires : goal.fetch_sub-requires
fetch_sub-requires g c =
    let planned = c.args.self.now.planned in
    let seat = c.requires.seat in (
      seat,
      c.ledger.ensures.inside,
      quit_step g.T.Tag.fits (plan_of c.args.self.now) _ _ _ _
          (ap is_some seat.tagged) (rw planned.0 c.ledger.ensures.value)
          c.args.count (sym c.requires.count) c.requires.placed,
    )
