use Rattle.std.proofs.Common.{ap, is_some}
use Rattle.hcc_rule.specs.Callers.{plan_of}
use Rattle.hcc_rule.proofs.Ledgers.TrailSteps.{unpass_step}
use Rattle.hcc_rule.proofs.table.RuleTable.unpass.Goals as goal

pub fetch_sub-requires : goal.fetch_sub-requires
fetch_sub-requires g c =
    let planned = c.args.self.now.planned in
    let seat = c.requires.seat in (
      seat,
      c.address.ensures.inside,
      unpass_step g.T.Tag.fits (plan_of c.args.self.now) _ _ c.args.slot _ _
          (rw planned.0 c.requires.slot) (ap is_some seat.tagged)
          (rw planned.0 c.address.ensures.value)
          c.requires.passed,
    )
