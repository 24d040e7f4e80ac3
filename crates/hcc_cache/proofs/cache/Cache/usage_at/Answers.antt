use Rattle.std.proofs.Common.{refl, ap, ◌∙◌}
use Rattle.std.specs.Vec.{with_item}
use Rattle.hcc_core.proofs.ListLemmas.{read_other}
use Rattle.hcc_shard.specs.Callers.{view_of}
use Rattle.hcc_shard.specs.Counted.{LoadsUsage}
use Rattle.hcc_cache.specs.Clients.{view_by}
use Rattle.hcc_cache.proofs.Clients.AtOneShard.{counts_none, did_at, is_at, seated_at, works_at}
use Rattle.hcc_cache.proofs.Clients.HoldsTheSame.{keeps_same, knows_same, same_usage}
use Rattle.hcc_cache.proofs.Clients.Seats.{steps_set}
use Rattle.hcc_cache.proofs.HandedBack.AloneAfterwards.{alone_same}
use Rattle.hcc_cache.proofs.cache.Cache.usage_at.Goals as goal

pub usage-requires : goal.usage-requires
usage-requires g c =
    let was = c.index_mut-seat.result.now in
    let at = is_at c.args.self.now c.args.client.now c.args.shard c.index.result.now was
    c.requires.known c.requires.within c.index.ensures c.index_mut-seat.ensures.value in
    record {
      seat = (seated_at c.args.self.now c.args.client.now c.args.client.now c.args.shard
          c.index.result.now was was at).rests;
    }

pub returns-clause-known : goal.returns-clause-known
returns-clause-known g c =
    let was = c.index_mut-seat.result.now in
    let is = c.usage.new.seat in
    let at = is_at c.args.self.now c.args.client.now c.args.shard c.index.result.now was
    c.requires.known c.requires.within c.index.ensures c.index_mut-seat.ensures.value in
    let told = c.usage.ensures.view in
    knows_same c.args.self.now c.args.client.now _ c.args.shard c.index.result.now was is at
    c.usage.ensures.seat (same_usage (view_of was) (view_of is) told.0 told.1) refl
    (record { rest = refl; capacity = refl })

pub returns-clause-keeps : goal.returns-clause-keeps
returns-clause-keeps g c =
    let was = c.index_mut-seat.result.now in
    let is = c.usage.new.seat in
    let at = is_at c.args.self.now c.args.client.now c.args.shard c.index.result.now was
    c.requires.known c.requires.within c.index.ensures c.index_mut-seat.ensures.value in
    let told = c.usage.ensures.view in
    keeps_same c.args.self.now c.args.client.now _ c.args.shard c.index.result.now was is at
    c.usage.ensures.seat (same_usage (view_of was) (view_of is) told.0 told.1) refl
    (record { rest = refl; capacity = refl })

pub returns-clause-view : goal.returns-clause-view
returns-clause-view g c =
    let old = c.args.client.now in
    let was = c.index_mut-seat.result.now in
    let is = c.usage.new.seat in
    let at = is_at c.args.self.now old c.args.shard c.index.result.now was
    c.requires.known c.requires.within c.index.ensures c.index_mut-seat.ensures.value in
    let told = c.usage.ensures.view in (
      told.0,
      rw (ap view_by at.seat_is, ← told.1)
          (works_at c.args.self.now old _ c.args.shard c.index.result.now was is at
          (record {
            seats = refl;
            number = refl;
            most = refl;
            seed = refl;
            capacities = refl;
          })),
    )

pub returns-clause-entries : goal.returns-clause-entries
returns-clause-entries g c =
    let was = c.index_mut-seat.result.now in
    let at = is_at c.args.self.now c.args.client.now c.args.shard c.index.result.now was
    c.requires.known c.requires.within c.index.ensures c.index_mut-seat.ensures.value in
    rw (ap view_by at.seat_is) c.usage.ensures.entries

pub returns-clause-strict : goal.returns-clause-strict
returns-clause-strict g c =
    let was = c.index_mut-seat.result.now in
    let at = is_at c.args.self.now c.args.client.now c.args.shard c.index.result.now was
    c.requires.known c.requires.within c.index.ensures c.index_mut-seat.ensures.value in
    let plans = at.knows.alike.plans c.args.shard c.index.result.now at.shard_is in
    λ strict. rw (← plans.1) (c.usage.ensures.strict (plans.2 ∙ strict))

pub returns-clause-loads : goal.returns-clause-loads
returns-clause-loads g c =
    let was = c.index_mut-seat.result.now in
    let at = is_at c.args.self.now c.args.client.now c.args.shard c.index.result.now was
    c.requires.known c.requires.within c.index.ensures c.index_mut-seat.ensures.value in
    did_at c.args.self.now c.args.client.now _ c.args.shard c.index.result.now was
    c.usage.new.seat at
    (record { seats = refl; number = refl; most = refl; seed = refl; capacities = refl })
    (λ s a b. LoadsUsage s c.usage.result a b) c.usage.ensures.view c.args.shard refl

pub returns-clause-others : goal.returns-clause-others
returns-clause-others g c s ne =
    read_other c.args.client.now.seats.items c.args.shard s c.usage.new.seat ne

pub returns-clause-counts : goal.returns-clause-counts
returns-clause-counts g c =
    let was = c.index_mut-seat.result.now in
    let at = is_at c.args.self.now c.args.client.now c.args.shard c.index.result.now was
    c.requires.known c.requires.within c.index.ensures c.index_mut-seat.ensures.value in
    counts_none c.args.self.now c.args.client.now
    (record c.args.client.now {
      seats = with_item c.args.client.now.seats c.args.shard c.usage.new.seat;
    }) c.args.shard c.index.result.now was
    c.usage.new.seat at
    (record { seats = refl; number = refl; most = refl; seed = refl; capacities = refl })
    c.usage.ensures.counts

pub returns-clause-steps : goal.returns-clause-steps
returns-clause-steps g c =
    let was = c.index_mut-seat.result.now in
    let at = is_at c.args.self.now c.args.client.now c.args.shard c.index.result.now was
    c.requires.known c.requires.within c.index.ensures c.index_mut-seat.ensures.value in
    steps_set c.args.client.now.seats.items c.args.shard 1 was c.usage.new.seat at.seat_is
    c.usage.ensures.steps

pub returns-clause-standing : goal.returns-clause-standing
returns-clause-standing g c = alone_same c.args.client.now _ refl refl
