use Rattle.std.proofs.Common.{ap, is_some}
use Rattle.hcc_rule.specs.Callers.{plan_of}
use Rattle.hcc_rule.proofs.References.Bits.{mark_step}
use Rattle.hcc_rule.proofs.table.RuleTable.mark.Goals as goal

pub fetch_or-requires : goal.fetch_or-requires
fetch_or-requires g c =
    let planned = c.args.self.now.planned in
    let seat = c.requires.seat in (
      seat,
      c.address.ensures.inside,
      mark_step g.T.Tag.fits (plan_of c.args.self.now) _ _ c.args.slot c.args.name _ _
          (ap is_some seat.tagged) c.ranges.name.fits (rw planned.0 c.address.ensures.value)
          c.requires.holds,
    )
