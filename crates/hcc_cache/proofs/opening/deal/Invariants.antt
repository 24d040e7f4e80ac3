use Rattle.std.proofs.Common.{◌≡◌, ◌≤◌, ℕ, Some, length, slice_get, vec_len}
use Rattle.hcc_shard.specs.declared.seat.ShardSeat.{ShardSeat}
use Rattle.hcc_cache.specs.declared.seeded.Seeded.{Seeded}
use Rattle.hcc_cache.specs.Opened.{AreGiven}
use Rattle.hcc_cache.proofs.opening.deal.Given as goal

abbrev pub invariant-loop-seat : goal.invariant-loop-seat
invariant-loop-seat g l = record {
  count : length l.clients.items ≡ length l.fn.seats.items;
  short : length l.seats.items ≤ length l.fn.seats.items;
  front : (k : ℕ) (seat : ShardSeat (Seeded g.row.T.Denot)) → slice_get l.seats.items k ≡ Some seat
      → slice_get l.fn.seats.items k ≡ Some seat;
  given : AreGiven (length l.seats.items) l.fn.clients.items l.fn.seats.items l.clients.items;
}

abbrev pub decreases-loop-seat : goal.decreases-loop-seat
decreases-loop-seat g l = vec_len l.seats
