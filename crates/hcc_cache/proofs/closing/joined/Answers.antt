use Rattle.std.proofs.Common.{◌≡◌, ◌-◌, Some, refl, subst, length, slice_get, arith}
use Rattle.std.proofs.lemmas.Option.{slice_get_read}
use Rattle.hcc_rule.proofs.Basics.Lists.{within}
use Rattle.hcc_shard.specs.Ended.{past_of}
use Rattle.hcc_cache.specs.Ended.{IsMostKnown}
use Rattle.hcc_cache.proofs.Endings.JoinedSeats.{joins_first, joins_more, joins_all}
use Rattle.hcc_cache.proofs.closing.joined.Goals as goal

pub loop-k-init : goal.loop-k-init
loop-k-init g c =
    let old = c.args.clients.now.items in
    let was = c.index_mut.result.now in
    let some = c.requires.some in
    let at : slice_get old 0 ≡ Some was =
    slice_get_read old (length old) 0 was refl (omega arith) c.index_mut.ensures.value in
    let has = c.requires.last 0 was at in
    let count : length was.seats.items - 1 ≡ c.args.at = let n = has.count in omega arith in
    joins_first c.args.shard.now c.args.at old was c.taken-seat.new.client c.taken-seat.result at
    has (record {
      last = rw count at c.taken-seat.ensures.last;
      left = rw count at c.taken-seat.ensures.left;
    })

pub taken-other-requires : goal.taken-other-requires
taken-other-requires g c =
    let now = c.loop-k.clients.items in
    let was = c.index_mut-in-loop-k.result.now in
    let joins = c.loop-k.invariant in
    let count = joins.count in
    let inside = c.loop-k-test.true in
    let length_is = c.args.clients.now.ok.0 in
    let at : slice_get now c.loop-k.k ≡ Some was =
    slice_get_read now (length now) c.loop-k.k was refl
    (omega arith) c.index_mut-in-loop-k.ensures.value in
    let has = c.requires.last c.loop-k.k was (joins.same c.loop-k.k was (omega arith) at) in
    let n = has.count in
    omega arith

pub join-requires-clause-seat : goal.join-requires-clause-seat
join-requires-clause-seat g c = c.loop-k.invariant.empty

pub join-requires-clause-other : goal.join-requires-clause-other
join-requires-clause-other g c =
    let now = c.loop-k.clients.items in
    let was = c.index_mut-in-loop-k.result.now in
    let joins = c.loop-k.invariant in
    let count = joins.count in
    let inside = c.loop-k-test.true in
    let length_is = c.args.clients.now.ok.0 in
    let at : slice_get now c.loop-k.k ≡ Some was =
    slice_get_read now (length now) c.loop-k.k was refl
    (omega arith) c.index_mut-in-loop-k.ensures.value in
    let has = c.requires.last c.loop-k.k was (joins.same c.loop-k.k was (omega arith) at) in
    let index : length was.seats.items - 1 ≡ c.args.at = let n = has.count in omega arith in
    has.last c.taken-other.result (rw index at c.taken-other.ensures.last)

pub loop-k-preserved : goal.loop-k-preserved
loop-k-preserved g c =
    let now = c.loop-k.clients.items in
    let was = c.index_mut-in-loop-k.result.now in
    let joins = c.loop-k.invariant in
    let count = joins.count in
    let inside = c.loop-k-test.true in
    let length_is = c.args.clients.now.ok.0 in
    let at : slice_get now c.loop-k.k ≡ Some was =
    slice_get_read now (length now) c.loop-k.k was refl
    (omega arith) c.index_mut-in-loop-k.ensures.value in
    let has = c.requires.last c.loop-k.k was (joins.same c.loop-k.k was (omega arith) at) in
    let index : length was.seats.items - 1 ≡ c.args.at = let n = has.count in omega arith in
    joins_more c.args.shard.now c.args.at c.args.clients.now.items now c.loop-k.k was
    c.taken-other.new.client
    c.loop-k.seat c.join.new.seat c.taken-other.result joins at
    (record {
      last = rw index at c.taken-other.ensures.last;
      left = rw index at c.taken-other.ensures.left;
    })
    c.join.ensures.seat c.join.ensures.view c.join.ensures.past

pub returns-clause-seat : goal.returns-clause-seat
returns-clause-seat g c = c.loop-k.invariant.empty

pub returns-clause-count : goal.returns-clause-count
returns-clause-count g c = c.loop-k.invariant.count

pub returns-clause-left : goal.returns-clause-left
returns-clause-left g c k client h =
    let joins = c.loop-k.invariant in
    let count = joins.count in
    let done = c.loop-k-test.false in
    let length_is = c.args.clients.now.ok.0 in
    let inside = within c.loop-k.clients.items k client h in
    joins.left k client (omega arith) h

pub returns-clause-view : goal.returns-clause-view
returns-clause-view g c =
    let joins = c.loop-k.invariant in
    let done = c.loop-k-test.false in
    let length_is = c.args.clients.now.ok.0 in
    joins_all c.args.shard.now c.args.at c.args.clients.now.items c.loop-k.clients.items c.loop-k.k
    c.loop-k.seat joins (omega arith)

pub returns-clause-known : goal.returns-clause-known
returns-clause-known g c =
    let joins = c.loop-k.invariant in
    let done = c.loop-k-test.false in
    let length_is = c.args.clients.now.ok.0 in
    let short = joins.short in
    let all : c.loop-k.k ≡ length c.args.clients.now.items = omega arith in
    subst (λ n. IsMostKnown c.args.at c.args.clients.now.items n (past_of c.loop-k.seat)) all
    joins.known
