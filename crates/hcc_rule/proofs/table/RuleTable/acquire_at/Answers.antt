use Rattle.std.proofs.Common.{ap, is_some}
use Rattle.hcc_rule.specs.Callers.{plan_of}
use Rattle.hcc_rule.proofs.References.Acquires.{acquire_step}
use Rattle.hcc_rule.proofs.table.RuleTable.acquire_at.Goals as goal

pub fetch_add-requires : goal.fetch_add-requires
fetch_add-requires g c =
    let planned = c.args.self.now.planned in
    let seat = c.requires.seat in
    let weight = c.requires.weight in (
      seat,
      c.head_address-address.ensures.inside,
      rw (← planned.0) (acquire_step g.T.Tag.fits (plan_of c.args.self.now) _ _
          c.args.at.slot _ c.args.weight c.args.name _
          (rw planned.0 c.requires.at.0) (ap is_some seat.tagged)
          (rw planned.0 c.head_address-address.ensures.value)
          weight.0 weight.1 c.ranges.name.fits
          c.requires.fresh c.requires.reach c.requires.load),
    )
