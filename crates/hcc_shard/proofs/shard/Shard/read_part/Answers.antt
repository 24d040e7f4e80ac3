use Rattle.hcc_rule.specs.Callers.{geometry_of}
use Rattle.hcc_rule.specs.Seats.{view}
use Rattle.hcc_shard.proofs.Names.{readable_in}
use Rattle.hcc_shard.proofs.shard.Shard.read_part.Goals as goal

pub read_part-requires-clause-readable : goal.read_part-requires-clause-readable
read_part-requires-clause-readable g c =
    readable_in (geometry_of c.args.self.now.table) c.args.pin.name
    (view c.args.seat.now.seat).records c.requires.seat.quiet.kept
