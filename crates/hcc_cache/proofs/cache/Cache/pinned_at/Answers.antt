use Rattle.std.proofs.Common.{◌≡◌, ◌+◌, ◌*◌, refl, ap, ◌∙◌}
use Rattle.hcc_core.proofs.ListLemmas.{read_other}
use Rattle.hcc_shard.specs.Callers.{view_of}
use Rattle.hcc_rule.specs.declared.geometry.Geometry.{Geometry}
use Rattle.hcc_cache.specs.Clients.{view_by}
use Rattle.hcc_cache.specs.Totals.{CountsHeldAt}
use Rattle.hcc_cache.proofs.Clients.AtOneShard.{did_at, is_at, seated_at, works_at}
use Rattle.hcc_cache.proofs.Clients.HoldsTheSame.{keeps_same, knows_same, same_sought}
use Rattle.hcc_cache.proofs.Clients.Seats.{steps_set, view_here}
use Rattle.std.specs.Vec.{with_item}
use Rattle.hcc_cache.proofs.Clients.ShownAfterwards.{stays_at}
use Rattle.hcc_cache.proofs.HandedBack.AloneAfterwards.{alone_same}
use Rattle.hcc_cache.proofs.cache.Cache.pinned_at.Goals as goal

pub pinned_usage-requires : goal.pinned_usage-requires
pinned_usage-requires g c =
    let was = c.index_mut-seat.result.now in
    let at = is_at c.args.self.now c.args.client.now c.args.shard c.index.result.now was
    c.requires.known c.requires.within c.index.ensures c.index_mut-seat.ensures.value in
    record {
      seat = (seated_at c.args.self.now c.args.client.now c.args.client.now c.args.shard
          c.index.result.now
          was was at).rests;
    }

pub returns-clause-known : goal.returns-clause-known
returns-clause-known g c =
    let was = c.index_mut-seat.result.now in
    let at = is_at c.args.self.now c.args.client.now c.args.shard c.index.result.now was
    c.requires.known c.requires.within c.index.ensures c.index_mut-seat.ensures.value in
    knows_same c.args.self.now c.args.client.now _ c.args.shard c.index.result.now was
    c.pinned_usage.new.seat at
    c.pinned_usage.ensures.seat (same_sought (view_of was) (view_of c.pinned_usage.new.seat)
    c.pinned_usage.ensures.view) refl
    (record { rest = refl; capacity = refl })

pub returns-clause-keeps : goal.returns-clause-keeps
returns-clause-keeps g c =
    let was = c.index_mut-seat.result.now in
    let at = is_at c.args.self.now c.args.client.now c.args.shard c.index.result.now was
    c.requires.known c.requires.within c.index.ensures c.index_mut-seat.ensures.value in
    keeps_same c.args.self.now c.args.client.now _ c.args.shard c.index.result.now was
    c.pinned_usage.new.seat at
    c.pinned_usage.ensures.seat (same_sought (view_of was) (view_of c.pinned_usage.new.seat)
    c.pinned_usage.ensures.view) refl
    (record { rest = refl; capacity = refl })

pub returns-clause-view : goal.returns-clause-view
returns-clause-view g c =
    let was = c.index_mut-seat.result.now in
    let at = is_at c.args.self.now c.args.client.now c.args.shard c.index.result.now was
    c.requires.known c.requires.within c.index.ensures c.index_mut-seat.ensures.value in
    rw (
      view_here c.args.client.now.seats.items c.args.shard was c.pinned_usage.new.seat
          at.seat_is,
      ap view_by at.seat_is,
    )
    (works_at c.args.self.now c.args.client.now _ c.args.shard c.index.result.now was
    c.pinned_usage.new.seat at
    (record { seats = refl; number = refl; most = refl; seed = refl; capacities = refl }))

pub returns-clause-sought : goal.returns-clause-sought
returns-clause-sought g c =
    let was = c.index_mut-seat.result.now in
    let at = is_at c.args.self.now c.args.client.now c.args.shard c.index.result.now was
    c.requires.known c.requires.within c.index.ensures c.index_mut-seat.ensures.value in
    rw (
      view_here c.args.client.now.seats.items c.args.shard was c.pinned_usage.new.seat
          at.seat_is,
      ap view_by at.seat_is,
    )
    c.pinned_usage.ensures.view

pub returns-clause-entries : goal.returns-clause-entries
returns-clause-entries g c =
    let was = c.index_mut-seat.result.now in
    let at = is_at c.args.self.now c.args.client.now c.args.shard c.index.result.now was
    c.requires.known c.requires.within c.index.ensures c.index_mut-seat.ensures.value in
    rw (ap view_by at.seat_is) c.pinned_usage.ensures.entries

pub returns-clause-alone : goal.returns-clause-alone
returns-clause-alone g c =
    let was = c.index_mut-seat.result.now in
    let at = is_at c.args.self.now c.args.client.now c.args.shard c.index.result.now was
    c.requires.known c.requires.within c.index.ensures c.index_mut-seat.ensures.value in
    λ one. rw (ap view_by at.seat_is) (c.pinned_usage.ensures.alone ((ap (λ (x : Geometry).
    x.clients) (at.knows.alike.plans c.args.shard c.index.result.now at.shard_is).0) ∙ one))

pub returns-clause-loads : goal.returns-clause-loads
returns-clause-loads g c =
    let was = c.index_mut-seat.result.now in
    let at = is_at c.args.self.now c.args.client.now c.args.shard c.index.result.now was
    c.requires.known c.requires.within c.index.ensures c.index_mut-seat.ensures.value in
    did_at c.args.self.now c.args.client.now _ c.args.shard c.index.result.now was
    c.pinned_usage.new.seat at
    (record { seats = refl; number = refl; most = refl; seed = refl; capacities = refl })
    (λ s a b. CountsHeldAt g.T.Tag.fits s c.pinned_usage.result a b)
    (c.pinned_usage.ensures.loads, c.pinned_usage.ensures.counts) c.args.shard refl

pub returns-clause-others : goal.returns-clause-others
returns-clause-others g c s ne =
    read_other c.args.client.now.seats.items c.args.shard s c.pinned_usage.new.seat ne

pub returns-clause-steps : goal.returns-clause-steps
returns-clause-steps g c =
    let was = c.index_mut-seat.result.now in
    let at = is_at c.args.self.now c.args.client.now c.args.shard c.index.result.now was
    c.requires.known c.requires.within c.index.ensures c.index_mut-seat.ensures.value in
    let slots : c.index.result.now.table.geometry.slots ≡ c.args.self.now.geometry.slots = ap (λ
    (x : Geometry). x.slots) (at.knows.alike.plans c.args.shard c.index.result.now
    at.shard_is).0 in
    steps_set c.args.client.now.seats.items c.args.shard (5 * c.args.self.now.geometry.slots + 1)
    was c.pinned_usage.new.seat at.seat_is
    (rw (← slots) c.pinned_usage.ensures.steps)

pub returns-clause-stays : goal.returns-clause-stays
returns-clause-stays g c =
    let was = c.index_mut-seat.result.now in
    let at = is_at c.args.self.now c.args.client.now c.args.shard c.index.result.now was
    c.requires.known c.requires.within c.index.ensures c.index_mut-seat.ensures.value in
    stays_at c.args.self.now c.args.client.now
    (record c.args.client.now {
      seats = with_item c.args.client.now.seats c.args.shard c.pinned_usage.new.seat;
    }) c.args.shard c.index.result.now was c.pinned_usage.new.seat at
    (record { seats = refl; number = refl; most = refl; seed = refl; capacities = refl })
    c.pinned_usage.ensures.stays

pub returns-clause-standing : goal.returns-clause-standing
returns-clause-standing g c = alone_same c.args.client.now _ refl refl
