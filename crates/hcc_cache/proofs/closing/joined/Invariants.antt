use Rattle.hcc_cache.proofs.Endings.JoinedSeats.{Joins}
use Rattle.hcc_cache.proofs.closing.joined.Given as goal

abbrev pub invariant-loop-k : goal.invariant-loop-k
invariant-loop-k g l = Joins l.shard l.at l.fn.clients.items l.k l.clients.items l.seat
