use Rattle.hcc_shard.proofs.Seatings.{numbering_on}
use Rattle.hcc_shard.proofs.shard.numbered.Goals as goal

pub loop-seat-preserved : goal.loop-seat-preserved
loop-seat-preserved g c =
    rw c.in_ok-push.ensures.items
    (numbering_on c.loop-seat.client c.args.seats.items c.loop-seat.named.items _ c.in-Some.seat
    c.next.new.self.rest.items (rw c.in-Some.ensures.steps.0 at c.loop-seat.invariant)
    (record {
      seat_is = c.new.ensures.seat;
      number = c.new.ensures.client;
      no_counts = c.new.ensures.no_counts;
    }))
