use Rattle.std.proofs.Common.{ap, refl, is_some}
use Rattle.hcc_rule.specs.Callers.{plan_of}
use Rattle.hcc_rule.proofs.Ledgers.TrailSteps.{count_step}
use Rattle.hcc_rule.specs.Rule.{setup_of}
use Rattle.hcc_rule.proofs.table.RuleTable.count_at.Goals as goal

pub load-requires : goal.load-requires
load-requires g c =
    let planned = c.args.self.now.planned in
    let seat = c.requires.seat in (
      seat,
      c.head_address.ensures.inside,
      count_step g.T.Tag.fits (plan_of c.args.self.now) _ _ c.args.at.slot _ _
          (rw planned.0 c.requires.at.0) (ap is_some seat.tagged)
          (rw planned.0 c.head_address.ensures.value)
          (setup_of (plan_of c.args.self.now)) refl
          (rw planned.0 c.args.self.now.limits.power),
    )
