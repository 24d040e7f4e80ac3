use Rattle.std.proofs.Common.{ap, is_some}
use Rattle.hcc_rule.specs.Callers.{plan_of}
use Rattle.hcc_rule.proofs.Entries.Occupies.{occupy_step}
use Rattle.hcc_rule.proofs.table.RuleTable.occupy_at.Goals as goal

pub fetch_or-requires : goal.fetch_or-requires
fetch_or-requires g c =
    let planned = c.args.self.now.planned in
    let seat = c.requires.seat in (
      seat,
      c.head_address-address.ensures.inside,
      occupy_step g.T.Tag.fits (plan_of c.args.self.now) _ _ c.args.at.slot _ _
          (rw planned.0 c.requires.at.0) (ap is_some seat.tagged) c.requires.idle
          (rw planned.0 c.head_address-address.ensures.value),
    )
