use Rattle.hcc_shard.proofs.Joinings.{IsJoining}
use Rattle.hcc_shard.proofs.shard.Shard.close.Given as goal

abbrev pub invariant-loop-seat : goal.invariant-loop-seat
invariant-loop-seat g l =
    IsJoining l.fn.self l.last l.fn.seats.items l.seat-iterator.rest.items
