use Rattle.hcc_shard.proofs.Seatings.{IsNumbering}
use Rattle.hcc_shard.proofs.shard.numbered.Given as goal

abbrev pub invariant-loop-seat : goal.invariant-loop-seat
invariant-loop-seat g l =
    IsNumbering l.client l.fn.seats.items l.named.items l.seat-iterator.rest.items
