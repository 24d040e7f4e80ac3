use native.Mathlib.Omega.{arith}
use Rattle.std.proofs.Common.{◌*◌, ◌/◌, refl, ap, ◌∙◌}
use Rattle.std.specs.Vec.{with_item}
use Rattle.hcc_core.specs.declared.limits.TheConstants.{OCCUPANCY_PERCENT}
use Rattle.hcc_core.proofs.ListLemmas.{read_other}
use Rattle.hcc_rule.specs.declared.geometry.Geometry.{Geometry}
use Rattle.hcc_shard.specs.Callers.{LoadsOccupancy, view_of}
use Rattle.hcc_cache.specs.Clients.{view_by}
use Rattle.hcc_cache.proofs.Clients.AtOneShard.{counts_none, did_at, is_at, seated_at}
use Rattle.hcc_cache.proofs.Clients.HoldsTheSame.{keeps_same, knows_same, same_all}
use Rattle.hcc_cache.proofs.Clients.Seats.{part_same, steps_set}
use Rattle.hcc_cache.proofs.HandedBack.AloneAfterwards.{alone_same}
use Rattle.hcc_cache.proofs.cache.Cache.occupancy_at.Goals as goal

pub occupancy-requires : goal.occupancy-requires
occupancy-requires g c =
    let was = c.index_mut-seat.result.now in
    let at = is_at c.args.self.now c.args.client.now c.args.shard c.index.result.now was
    c.requires.known c.requires.within c.index.ensures c.index_mut-seat.ensures.value in
    record {
      seat = (seated_at c.args.self.now c.args.client.now c.args.client.now c.args.shard
          c.index.result.now
          was was at).rests;
    }

pub returns-clause-known : goal.returns-clause-known
returns-clause-known g c =
    let was = c.index_mut-seat.result.now in
    let at = is_at c.args.self.now c.args.client.now c.args.shard c.index.result.now was
    c.requires.known c.requires.within c.index.ensures c.index_mut-seat.ensures.value in
    knows_same c.args.self.now c.args.client.now _ c.args.shard c.index.result.now was
    c.occupancy.new.seat at
    c.occupancy.ensures.seat (same_all (view_of was) (view_of c.occupancy.new.seat)
    c.occupancy.ensures.view) refl
    (record { rest = refl; capacity = refl })

pub returns-clause-reads : goal.returns-clause-reads
returns-clause-reads g c =
    let was = c.index_mut-seat.result.now in
    let at = is_at c.args.self.now c.args.client.now c.args.shard c.index.result.now was
    c.requires.known c.requires.within c.index.ensures c.index_mut-seat.ensures.value in
    record {
      rests = record {
        all = λ s. part_same (λ v. v) c.args.client.now.seats.items c.args.shard s was
            c.occupancy.new.seat at.seat_is c.occupancy.ensures.view;
        self = (refl, refl, refl);
        counts =
            counts_none c.args.self.now c.args.client.now
            (record c.args.client.now {
              seats = with_item c.args.client.now.seats c.args.shard c.occupancy.new.seat;
            }) c.args.shard c.index.result.now was
            c.occupancy.new.seat at
            (record {
              seats = refl;
              number = refl;
              most = refl;
              seed = refl;
              capacities = refl;
            })
            c.occupancy.ensures.counts;
      };
      keeps = keeps_same c.args.self.now c.args.client.now _ c.args.shard c.index.result.now was
          c.occupancy.new.seat at
          c.occupancy.ensures.seat (same_all (view_of was) (view_of c.occupancy.new.seat)
          c.occupancy.ensures.view) refl
          (record { rest = refl; capacity = refl });
    }

pub returns-clause-entries : goal.returns-clause-entries
returns-clause-entries g c =
    let was = c.index_mut-seat.result.now in
    let at = is_at c.args.self.now c.args.client.now c.args.shard c.index.result.now was
    c.requires.known c.requires.within c.index.ensures c.index_mut-seat.ensures.value in
    rw (ap view_by at.seat_is) c.occupancy.ensures.entries

pub returns-clause-alone : goal.returns-clause-alone
returns-clause-alone g c =
    let was = c.index_mut-seat.result.now in
    let at = is_at c.args.self.now c.args.client.now c.args.shard c.index.result.now was
    c.requires.known c.requires.within c.index.ensures c.index_mut-seat.ensures.value in
    λ one. rw (ap view_by at.seat_is) (c.occupancy.ensures.alone ((ap (λ (x : Geometry).
    x.clients) (at.knows.alike.plans c.args.shard c.index.result.now at.shard_is).0) ∙ one))

pub returns-clause-high : goal.returns-clause-high
returns-clause-high g c =
    let shard = c.index.result.now in
    let was = c.index_mut-seat.result.now in
    let at = is_at c.args.self.now c.args.client.now c.args.shard shard was
    c.requires.known c.requires.within c.index.ensures c.index_mut-seat.ensures.value in
    let alike = (at.knows.alike.plans c.args.shard shard at.shard_is).0 in
    let low = c.occupancy.ensures.low in
    let limit = ap (λ (x : Geometry). x.slots * OCCUPANCY_PERCENT / 100)
    (shard.table.planned.0 ∙ alike) in
    let clients = ap (λ (x : Geometry). x.clients) alike in
    omega (arith, low, limit, clients)

pub returns-clause-loads : goal.returns-clause-loads
returns-clause-loads g c =
    let was = c.index_mut-seat.result.now in
    let at = is_at c.args.self.now c.args.client.now c.args.shard c.index.result.now was
    c.requires.known c.requires.within c.index.ensures c.index_mut-seat.ensures.value in
    did_at c.args.self.now c.args.client.now _ c.args.shard c.index.result.now was
    c.occupancy.new.seat at
    (record { seats = refl; number = refl; most = refl; seed = refl; capacities = refl })
    (λ s a b. LoadsOccupancy s c.occupancy.result a b) c.occupancy.ensures.loads c.args.shard refl

pub returns-clause-others : goal.returns-clause-others
returns-clause-others g c s ne =
    read_other c.args.client.now.seats.items c.args.shard s c.occupancy.new.seat ne

pub returns-clause-steps : goal.returns-clause-steps
returns-clause-steps g c =
    let was = c.index_mut-seat.result.now in
    let at = is_at c.args.self.now c.args.client.now c.args.shard c.index.result.now was
    c.requires.known c.requires.within c.index.ensures c.index_mut-seat.ensures.value in
    steps_set c.args.client.now.seats.items c.args.shard 1 was c.occupancy.new.seat at.seat_is
    c.occupancy.ensures.steps

pub returns-clause-standing : goal.returns-clause-standing
returns-clause-standing g c = alone_same c.args.client.now _ refl refl
