use Rattle.std.proofs.Common.{ap, is_some}
use Rattle.hcc_rule.specs.Callers.{plan_of}
use Rattle.hcc_rule.proofs.Ledgers.TrailSteps.{pass_step}
use Rattle.hcc_rule.proofs.table.RuleTable.pass_at.Goals as goal

pub fetch_add-requires : goal.fetch_add-requires
fetch_add-requires g c =
    let planned = c.args.self.now.planned in
    let seat = c.requires.seat in (
      seat,
      c.head_address.ensures.inside,
      pass_step g.T.Tag.fits (plan_of c.args.self.now) _ _ c.args.at.slot _ _
          (rw planned.0 c.requires.at.0) (ap is_some seat.tagged)
          (rw planned.0 c.head_address.ensures.value)
          (rw planned.0 c.requires.room),
    )
