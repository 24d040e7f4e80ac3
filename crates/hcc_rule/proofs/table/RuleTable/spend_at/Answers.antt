use Rattle.std.proofs.Common.{ap, is_some}
use Rattle.hcc_rule.specs.Callers.{plan_of}
use Rattle.hcc_rule.proofs.References.Spends.{spend_step}
use Rattle.hcc_rule.proofs.table.RuleTable.spend_at.Goals as goal

pub fetch_add-requires : goal.fetch_add-requires
fetch_add-requires g c =
    let planned = c.args.self.now.planned in
    let seat = c.requires.seat in (
      seat,
      c.head_address.ensures.inside,
      spend_step g.T.Tag.fits (plan_of c.args.self.now) _ _ c.args.at.slot c.args.name _
          c.args.weight _
          (ap is_some seat.tagged) c.ranges.name.fits (rw planned.0 c.head_address.ensures.value)
          c.requires.holds,
    )
