use Rattle.std.proofs.Common.{ap, is_some}
use Rattle.hcc_rule.specs.Callers.{plan_of}
use Rattle.hcc_rule.proofs.References.Gives.{give_step}
use Rattle.hcc_rule.proofs.table.RuleTable.give_at.Goals as goal

pub fetch_sub-requires : goal.fetch_sub-requires
fetch_sub-requires g c =
    let planned = c.args.self.now.planned in
    let seat = c.requires.seat in (
      seat,
      c.head_address-address.ensures.inside,
      give_step g.T.Tag.fits (plan_of c.args.self.now) _ _ c.args.at.slot c.args.name _
          c.args.weight _
          (ap is_some seat.tagged) c.ranges.name.fits (rw planned.0
          c.head_address-address.ensures.value)
          c.requires.holds,
    )
