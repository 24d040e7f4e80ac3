use Rattle.std.proofs.Common.{ap, is_some}
use Rattle.hcc_rule.specs.Callers.{plan_of}
use Rattle.hcc_rule.proofs.Entries.Empties.{empty_step}
use Rattle.hcc_rule.proofs.table.RuleTable.empty_at.Goals as goal

pub store-requires : goal.store-requires
store-requires g c =
    let planned = c.args.self.now.planned in
    let seat = c.requires.seat in (
      seat,
      c.head_address.ensures.inside,
      empty_step g.T.Tag.fits (plan_of c.args.self.now) _ _ c.args.at.slot _ _
          (rw planned.0 c.requires.at.0) (ap is_some seat.tagged) c.requires.owned c.requires.back
          (rw planned.0 c.head_address.ensures.value),
    )
