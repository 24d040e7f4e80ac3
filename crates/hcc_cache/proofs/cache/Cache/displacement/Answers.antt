use Rattle.std.proofs.Common.{◌≡◌, refl, ap}
use Rattle.std.specs.Vec.{with_item}
use Rattle.hcc_shard.specs.Callers.{view_of, LoadsDisplacement}
use Rattle.hcc_rule.specs.declared.geometry.Geometry.{Geometry}
use Rattle.hcc_cache.specs.Clients.{view_by}
use Rattle.hcc_cache.proofs.Clients.AtOneShard.{counts_none, did_at, is_at, seated_at}
use Rattle.hcc_cache.proofs.Clients.HoldsTheSame.{keeps_same, knows_same, same_all}
use Rattle.hcc_cache.proofs.Clients.Seats.{part_same, steps_set}
use Rattle.hcc_rule.specs.Events.{count_done}
use Rattle.hcc_table.specs.Still.{is_still}
use Rattle.hcc_table.proofs.Seeking.{goes_event}
use Rattle.hcc_cache.proofs.Clients.ShownAfterwards.{stays_at}
use Rattle.hcc_cache.proofs.cache.Cache.displacement.Goals as goal

pub displacement-requires-clause-seat : goal.displacement-requires-clause-seat
displacement-requires-clause-seat g c =
    let was = c.index_mut-seat.result.now in
    let at = is_at c.args.self.now c.args.client.now c.args.shard c.index.result.now was
    c.requires.known c.requires.shard c.index.ensures c.index_mut-seat.ensures.value in
    (seated_at c.args.self.now c.args.client.now c.args.client.now c.args.shard c.index.result.now
    was was at).rests

pub returns-clause-known : goal.returns-clause-known
returns-clause-known g c =
    let was = c.index_mut-seat.result.now in
    let at = is_at c.args.self.now c.args.client.now c.args.shard c.index.result.now was
    c.requires.known c.requires.shard c.index.ensures c.index_mut-seat.ensures.value in
    knows_same c.args.self.now c.args.client.now _ c.args.shard c.index.result.now was
    c.displacement.new.seat at
    c.displacement.ensures.seat (same_all (view_of was) (view_of c.displacement.new.seat)
    c.displacement.ensures.view) refl
    (record { rest = refl; capacity = refl })

pub returns-clause-reads : goal.returns-clause-reads
returns-clause-reads g c =
    let was = c.index_mut-seat.result.now in
    let at = is_at c.args.self.now c.args.client.now c.args.shard c.index.result.now was
    c.requires.known c.requires.shard c.index.ensures c.index_mut-seat.ensures.value in
    record {
      rests = record {
        all = λ s. part_same (λ v. v) c.args.client.now.seats.items c.args.shard s was
            c.displacement.new.seat at.seat_is c.displacement.ensures.view;
        self = (refl, refl, refl);
        counts =
            counts_none c.args.self.now c.args.client.now
            (record c.args.client.now {
              seats = with_item c.args.client.now.seats c.args.shard c.displacement.new.seat;
            }) c.args.shard c.index.result.now was
            c.displacement.new.seat at
            (record {
              seats = refl;
              number = refl;
              most = refl;
              seed = refl;
              capacities = refl;
            })
            c.displacement.ensures.counts;
      };
      keeps = keeps_same c.args.self.now c.args.client.now _ c.args.shard c.index.result.now was
          c.displacement.new.seat at
          c.displacement.ensures.seat (same_all (view_of was) (view_of c.displacement.new.seat)
          c.displacement.ensures.view) refl
          (record { rest = refl; capacity = refl });
    }

pub returns-clause-entries : goal.returns-clause-entries
returns-clause-entries g c =
    let was = c.index_mut-seat.result.now in
    let at = is_at c.args.self.now c.args.client.now c.args.shard c.index.result.now was
    c.requires.known c.requires.shard c.index.ensures c.index_mut-seat.ensures.value in
    let slots : c.index.result.now.table.geometry.slots ≡ c.args.self.now.geometry.slots = ap (λ
    (x : Geometry). x.slots) (at.knows.alike.plans c.args.shard c.index.result.now
    at.shard_is).0 in
    rw (ap view_by at.seat_is, ← slots) c.displacement.ensures.entries

pub returns-clause-loads : goal.returns-clause-loads
returns-clause-loads g c =
    let was = c.index_mut-seat.result.now in
    let at = is_at c.args.self.now c.args.client.now c.args.shard c.index.result.now was
    c.requires.known c.requires.shard c.index.ensures c.index_mut-seat.ensures.value in
    did_at c.args.self.now c.args.client.now _ c.args.shard c.index.result.now was
    c.displacement.new.seat at
    (record { seats = refl; number = refl; most = refl; seed = refl; capacities = refl })
    (λ s a b. LoadsDisplacement s c.args.slot c.displacement.result a b)
    c.displacement.ensures.loads c.args.shard refl

pub returns-clause-steps : goal.returns-clause-steps
returns-clause-steps g c =
    let was = c.index_mut-seat.result.now in
    let at = is_at c.args.self.now c.args.client.now c.args.shard c.index.result.now was
    c.requires.known c.requires.shard c.index.ensures c.index_mut-seat.ensures.value in
    steps_set c.args.client.now.seats.items c.args.shard 1 was c.displacement.new.seat at.seat_is
    c.displacement.ensures.steps

pub returns-clause-stays : goal.returns-clause-stays
returns-clause-stays g c =
    let was = c.index_mut-seat.result.now in
    let at = is_at c.args.self.now c.args.client.now c.args.shard c.index.result.now was
    c.requires.known c.requires.shard c.index.ensures c.index_mut-seat.ensures.value in
    stays_at c.args.self.now c.args.client.now
    (record c.args.client.now {
      seats = with_item c.args.client.now.seats c.args.shard c.displacement.new.seat;
    }) c.args.shard c.index.result.now was c.displacement.new.seat at
    (record { seats = refl; number = refl; most = refl; seed = refl; capacities = refl })
    (goes_event c.index.result.now.table is_still
    (count_done c.args.slot c.displacement.result (view_of was)) was.seat
    c.displacement.new.seat.seat c.displacement.ensures.by refl)
