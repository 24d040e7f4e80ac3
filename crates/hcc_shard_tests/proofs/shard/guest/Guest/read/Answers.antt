use Rattle.std.proofs.Common.{rules}
use Rattle.hcc_rule.specs.Callers.{geometry_of}
use Rattle.hcc_rule.specs.Seats.{view}
use Rattle.hcc_shard_tests.proofs.ShardGuests.{short_in}
use Rattle.hcc_shard_tests.proofs.shard.guest.Guest.read.Goals as goal

pub read_value-count-requires-clause-space : goal.read_value-count-requires-clause-space
read_value-count-requires-clause-space g c =
    let me = c.args.self.now in
    short_in (geometry_of me.shard.now.table) c.pin-pin.result.name
    (view c.value_len-length.new.seat.seat).records c.value_len-length.ensures.seat.quiet.kept
    (search rules)
