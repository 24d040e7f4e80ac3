use Rattle.std.proofs.Common.{arith}
use Rattle.hcc_rule.specs.Callers.{plan_of}
use Rattle.hcc_rule.proofs.Seats.Witnesses.{gives}
use Rattle.hcc_rule.proofs.table.RuleTable.witness.Goals as goal

pub split_seat-requires : goal.split_seat-requires
split_seat-requires g c =
    let sized = c.args.self.now.sized in (
      c.requires.table,
      omega arith,
      gives g.T.Tag.fits (plan_of c.args.self.now) _ _,
    )

-- a seat has nothing but these
pub returns-clause-same : goal.returns-clause-same
returns-clause-same g c =
    let same = c.split_seat.ensures in
    λ i. record {
      marker = c.args.seat.now.marker;
      table_id = same.0 i;
      id = same.1 i;
      me = same.2 i;
    }
