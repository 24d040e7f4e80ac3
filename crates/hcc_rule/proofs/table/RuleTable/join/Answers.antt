use Rattle.std.proofs.Common.{ap, is_some, arith}
use Rattle.hcc_rule.specs.Callers.{plan_of}
use Rattle.hcc_rule.proofs.Seats.Joins.{joins}
use Rattle.hcc_rule.proofs.Seats.Lifts.{joins_logged}
use Rattle.hcc_rule.proofs.table.RuleTable.join.Goals as goal

pub join_seat-requires : goal.join_seat-requires
join_seat-requires g c =
    let sized = c.args.self.now.sized in
    let idle = c.requires.idle in (
      c.requires.seat.table,
      c.requires.other.table,
      c.requires.other.slots,
      omega arith,
      joins_logged g.T.Tag.fits (plan_of c.args.self.now) _ _ _ _ _
          (ap is_some c.requires.seat.tagged) (ap is_some c.requires.other.tagged)
          (joins g.T.Tag.fits (plan_of c.args.self.now) _ _ _ _
          (ap is_some c.requires.seat.tagged)
          (ap is_some c.requires.other.tagged) idle.0 idle.1),
    )
