use Rattle.hcc_rule.specs.Callers.{geometry_of}
use Rattle.hcc_rule.specs.Seats.{view}
use Rattle.hcc_table.proofs.Seeking.{seeks_then}
use Rattle.hcc_shard.proofs.Names.{readable_in}
use Rattle.hcc_shard.proofs.shard.Shard.try_read.Goals as goal

pub copy_bytes-requires-clause-readable : goal.copy_bytes-requires-clause-readable
copy_bytes-requires-clause-readable g c =
    rw c.read_len-count.ensures.view
    (readable_in (geometry_of c.args.self.now.table) c.args.pin.name
    (view c.args.seat.now.seat).records c.requires.seat.quiet.kept)

pub returns-clause-seeks : goal.returns-clause-seeks
returns-clause-seeks g c =
    seeks_then c.args.self.now.table c.args.seat.now.seat c.read_len-count.new.seat
    c.copy_bytes.new.seat c.read_len-count.ensures.seeks c.copy_bytes.ensures.seeks
