use Rattle.std.proofs.Common.{ap, is_some, arith}
use Rattle.hcc_rule.specs.Callers.{plan_of}
use Rattle.hcc_rule.proofs.Seats.Lifts.{splits_logged}
use Rattle.hcc_rule.proofs.Seats.Splits.{splits}
use Rattle.hcc_rule.proofs.table.RuleTable.split.Goals as goal

pub split_seat-requires : goal.split_seat-requires
split_seat-requires g c =
    let another = c.requires.another in
    let sized = c.args.self.now.sized in (
      c.requires.seat.table,
      omega arith,
      splits_logged g.T.Tag.fits (plan_of c.args.self.now) _ _ another.0 another.1 _
          (ap is_some c.requires.seat.tagged) another.2
          (splits g.T.Tag.fits (plan_of c.args.self.now) _ _ _ another.0 another.1
          c.requires.seat.tagged another.2),
    )
