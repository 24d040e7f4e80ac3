use Rattle.std.proofs.Common.{ap, arith}
use Rattle.hcc_rule.specs.Callers.{plan_of}
use Rattle.hcc_rule.proofs.Seats.Witnesses.{hears}
use Rattle.hcc_rule.proofs.table.RuleTable.hear.Goals as goal

pub join_seat-requires : goal.join_seat-requires
join_seat-requires g c =
    let sized = c.args.self.now.sized in
    let witness = c.requires.witness in (
      c.requires.seat.table,
      witness.table_is,
      ap (λ me. me.1) witness.witness,
      omega arith,
      hears g.T.Tag.fits (plan_of c.args.self.now) _ _ _ _ (ap (λ me. me.0) witness.witness),
    )

-- a seat has nothing but these
pub returns : goal.returns
returns g c =
    let same = c.join_seat.ensures in
    λ i. record {
      marker = c.args.seat.now.marker;
      table_id = same.0 i;
      id = same.1 i;
      me = same.2 i;
    }
