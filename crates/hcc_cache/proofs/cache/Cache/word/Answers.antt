use Rattle.std.proofs.Common.{refl, ap}
use Rattle.std.specs.Vec.{with_item}
use Rattle.hcc_shard.specs.Callers.{view_of, LoadsWord}
use Rattle.hcc_cache.specs.Clients.{view_by}
use Rattle.hcc_cache.proofs.Clients.AtOneShard.{counts_none, did_at, is_at, seated_at, works_at}
use Rattle.hcc_cache.proofs.Clients.HoldsTheSame.{keeps_same, knows_same, same_look}
use Rattle.hcc_cache.proofs.Clients.Seats.{steps_set}
use Rattle.hcc_rule.specs.Events.{look_done}
use Rattle.hcc_table.specs.Still.{is_still}
use Rattle.hcc_table.proofs.Seeking.{goes_event}
use Rattle.hcc_cache.proofs.Clients.ShownAfterwards.{stays_at}
use Rattle.hcc_cache.proofs.cache.Cache.word.Goals as goal

pub word-requires-clause-seat : goal.word-requires-clause-seat
word-requires-clause-seat g c =
    let was = c.index_mut-seat.result.now in
    let at = is_at c.args.self.now c.args.client.now c.args.shard c.index.result.now was
    c.requires.known c.requires.shard c.index.ensures c.index_mut-seat.ensures.value in
    (seated_at c.args.self.now c.args.client.now c.args.client.now c.args.shard c.index.result.now
    was was at).rests

pub returns-clause-known : goal.returns-clause-known
returns-clause-known g c =
    let was = c.index_mut-seat.result.now in
    let at = is_at c.args.self.now c.args.client.now c.args.shard c.index.result.now was
    c.requires.known c.requires.shard c.index.ensures c.index_mut-seat.ensures.value in
    knows_same c.args.self.now c.args.client.now _ c.args.shard c.index.result.now was
    c.word.new.seat at
    c.word.ensures.seat (same_look (view_of was) (view_of c.word.new.seat) c.args.slot
    c.word.result c.word.ensures.view) refl
    (record { rest = refl; capacity = refl })

pub returns-clause-keeps : goal.returns-clause-keeps
returns-clause-keeps g c =
    let was = c.index_mut-seat.result.now in
    let at = is_at c.args.self.now c.args.client.now c.args.shard c.index.result.now was
    c.requires.known c.requires.shard c.index.ensures c.index_mut-seat.ensures.value in
    keeps_same c.args.self.now c.args.client.now _ c.args.shard c.index.result.now was
    c.word.new.seat at
    c.word.ensures.seat (same_look (view_of was) (view_of c.word.new.seat) c.args.slot
    c.word.result c.word.ensures.view) refl
    (record { rest = refl; capacity = refl })

pub returns-clause-view : goal.returns-clause-view
returns-clause-view g c =
    let was = c.index_mut-seat.result.now in
    let at = is_at c.args.self.now c.args.client.now c.args.shard c.index.result.now was
    c.requires.known c.requires.shard c.index.ensures c.index_mut-seat.ensures.value in
    rw (ap view_by at.seat_is, ← c.word.ensures.view)
    (works_at c.args.self.now c.args.client.now _ c.args.shard c.index.result.now was
    c.word.new.seat at
    (record { seats = refl; number = refl; most = refl; seed = refl; capacities = refl }))

pub returns-clause-backs : goal.returns-clause-backs
returns-clause-backs g c =
    let was = c.index_mut-seat.result.now in
    let at = is_at c.args.self.now c.args.client.now c.args.shard c.index.result.now was
    c.requires.known c.requires.shard c.index.ensures c.index_mut-seat.ensures.value in
    rw (ap view_by at.seat_is) c.word.ensures.backs

pub returns-clause-loads : goal.returns-clause-loads
returns-clause-loads g c =
    let was = c.index_mut-seat.result.now in
    let at = is_at c.args.self.now c.args.client.now c.args.shard c.index.result.now was
    c.requires.known c.requires.shard c.index.ensures c.index_mut-seat.ensures.value in
    did_at c.args.self.now c.args.client.now _ c.args.shard c.index.result.now was
    c.word.new.seat at
    (record { seats = refl; number = refl; most = refl; seed = refl; capacities = refl })
    (λ s a b. LoadsWord s c.args.slot c.word.result a b) c.word.ensures.loads c.args.shard refl

pub returns-clause-counts : goal.returns-clause-counts
returns-clause-counts g c =
    let was = c.index_mut-seat.result.now in
    let at = is_at c.args.self.now c.args.client.now c.args.shard c.index.result.now was
    c.requires.known c.requires.shard c.index.ensures c.index_mut-seat.ensures.value in
    counts_none c.args.self.now c.args.client.now
    (record c.args.client.now {
      seats = with_item c.args.client.now.seats c.args.shard c.word.new.seat;
    }) c.args.shard c.index.result.now was
    c.word.new.seat at
    (record { seats = refl; number = refl; most = refl; seed = refl; capacities = refl })
    c.word.ensures.counts

pub returns-clause-steps : goal.returns-clause-steps
returns-clause-steps g c =
    let was = c.index_mut-seat.result.now in
    let at = is_at c.args.self.now c.args.client.now c.args.shard c.index.result.now was
    c.requires.known c.requires.shard c.index.ensures c.index_mut-seat.ensures.value in
    steps_set c.args.client.now.seats.items c.args.shard 1 was c.word.new.seat at.seat_is
    c.word.ensures.steps

pub returns-clause-stays : goal.returns-clause-stays
returns-clause-stays g c =
    let was = c.index_mut-seat.result.now in
    let at = is_at c.args.self.now c.args.client.now c.args.shard c.index.result.now was
    c.requires.known c.requires.shard c.index.ensures c.index_mut-seat.ensures.value in
    stays_at c.args.self.now c.args.client.now
    (record c.args.client.now {
      seats = with_item c.args.client.now.seats c.args.shard c.word.new.seat;
    }) c.args.shard c.index.result.now was c.word.new.seat at
    (record { seats = refl; number = refl; most = refl; seed = refl; capacities = refl })
    (goes_event c.index.result.now.table is_still
    (look_done c.args.slot c.word.result (view_of was)) was.seat c.word.new.seat.seat
    c.word.ensures.by refl)
