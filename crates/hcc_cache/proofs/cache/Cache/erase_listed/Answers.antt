use Rattle.std.proofs.Common.{◌≡◌, ℕ, ◌+◌, ◌-◌, ◌*◌, refl, ap, ◌∙◌, length, mul-le-mul_left, arith}
use Rattle.std.specs.Vec.{with_item}
use Rattle.hcc_rule.specs.declared.geometry.Geometry.{Geometry}
use Rattle.hcc_rule.specs.declared.view.View.{View}
use Rattle.hcc_table.specs.Lists.{Hands, has_room}
use Rattle.hcc_table.specs.Searched.{AllDead}
use Rattle.hcc_table.specs.Steps.{freeing}
use Rattle.hcc_shard.specs.Callers.{view_of, ErasesAt}
use Rattle.hcc_shard.specs.Counted.{SameEvictions}
use Rattle.hcc_cache.specs.declared.client.Client.{Client}
use Rattle.hcc_cache.specs.Calls.{Works, shard_in}
use Rattle.hcc_cache.specs.Keys.{fits_seeded}
use Rattle.hcc_cache.specs.Sharding.{key_to, shard_of}
use Rattle.hcc_cache.proofs.Clients.AtOneShard.{did_at, does_at, is_at, seated_at, takes_for, works_at}
use Rattle.hcc_cache.proofs.Searches.MissedOrErasedKeys.{all_held_dead}
use Rattle.hcc_cache.proofs.Clients.HoldsTheSame.{keeps_same, knows_same, same_erased}
use Rattle.hcc_cache.proofs.Clients.Seats.{steps_set}
use Rattle.hcc_cache.proofs.cache.Cache.erase_listed.Goals as goal

pub erase-requires : goal.erase-requires
erase-requires g c =
    let cache = c.args.self.now in
    let old = c.args.client.now in
    let i = c.shard_number-shard.result in
    let was = c.index_mut-seat.result.now in
    let at = is_at cache old i c.index.result.now was c.requires
    c.shard_number-shard.ensures.inside c.index.ensures c.index_mut-seat.ensures.value in
    record { seat = (seated_at cache old old i c.index.result.now was was at).rests }

pub returns-clause-known : goal.returns-clause-known
returns-clause-known g c =
    let cache = c.args.self.now in
    let old = c.args.client.now in
    let i = c.shard_number-shard.result in
    let was = c.index_mut-seat.result.now in
    let at = is_at cache old i c.index.result.now was c.requires
    c.shard_number-shard.ensures.inside c.index.ensures c.index_mut-seat.ensures.value in
    knows_same cache old _ i c.index.result.now was c.erase.new.seat at c.erase.ensures.seat
    (same_erased (view_of was) (view_of c.erase.new.seat) c.key_to-seeded.result.in_shard
    c.erase.result c.erase.ensures.view) refl (record { rest = refl; capacity = refl })

pub returns-clause-erased : goal.returns-clause-erased
returns-clause-erased g c =
    let cache = c.args.self.now in
    let old = c.args.client.now in
    let i = c.shard_number-shard.result in
    let was = c.index_mut-seat.result.now in
    let at = is_at cache old i c.index.result.now was c.requires
    c.shard_number-shard.ensures.inside c.index.ensures c.index_mut-seat.ensures.value in
    let words = c.key_to-seeded.ensures.words in
    let there = c.shard_number-shard.ensures.value
    ∙ ap (λ k. shard_of k (length cache.shards.items)) words in
    let is = c.erase.new.seat in
    let new : Client g.row.T.Denot = record old { seats = with_item old.seats i is } in
    let works : Works (shard_in cache c.args.key) old new (view_of was) (view_of is) =
    rw (← there)
    (works_at cache old new i c.index.result.now was is at
    (record { seats = refl; number = refl; most = refl; seed = refl; capacities = refl })) in
    let dead : AllDead (key_to cache.seed c.args.key) (view_of was) (view_of is) =
    rw (← words) c.erase.ensures.dead in
    record {
      v = view_of was;
      w = view_of is;
      works = works;
      erases = rw (← words) c.erase.ensures.view;
      dead = dead;
      held_dead =
          all_held_dead cache old new c.args.key (view_of was) (view_of is) at.knows works dead;
      keeps =
          keeps_same cache old _ i c.index.result.now was c.erase.new.seat at c.erase.ensures.seat
          (same_erased (view_of was) (view_of c.erase.new.seat) c.key_to-seeded.result.in_shard
          c.erase.result c.erase.ensures.view) refl (record { rest = refl; capacity = refl });
    }

pub returns-clause-searched : goal.returns-clause-searched
returns-clause-searched g c =
    let cache = c.args.self.now in
    let old = c.args.client.now in
    let i = c.shard_number-shard.result in
    let was = c.index_mut-seat.result.now in
    let at = is_at cache old i c.index.result.now was c.requires
    c.shard_number-shard.ensures.inside c.index.ensures c.index_mut-seat.ensures.value in
    let words = c.key_to-seeded.ensures.words in
    let there = c.shard_number-shard.ensures.value
    ∙ ap (λ k. shard_of k (length cache.shards.items)) words in
    did_at cache old _ i c.index.result.now was c.erase.new.seat at
    (record { seats = refl; number = refl; most = refl; seed = refl; capacities = refl })
    (λ s a b. ErasesAt (fits_seeded g.T.Tag.fits) s (key_to cache.seed c.args.key)
    (has_room 1 (g.L.FreedList.shelf c.erase.new.list)) c.erase.result a b) (rw (← words)
    c.erase.ensures.erases) (shard_in cache c.args.key) there

pub returns-clause-counts : goal.returns-clause-counts
returns-clause-counts g c =
    let cache = c.args.self.now in
    let old = c.args.client.now in
    let i = c.shard_number-shard.result in
    let was = c.index_mut-seat.result.now in
    let at = is_at cache old i c.index.result.now was c.requires
    c.shard_number-shard.ensures.inside c.index.ensures c.index_mut-seat.ensures.value in
    does_at cache old _ i c.index.result.now was c.erase.new.seat at
    (record { seats = refl; number = refl; most = refl; seed = refl; capacities = refl })
    SameEvictions c.erase.ensures.counts (shard_in cache c.args.key)
    (c.shard_number-shard.ensures.value
    ∙ ap (λ k. shard_of k (length cache.shards.items)) c.key_to-seeded.ensures.words)

pub returns-clause-list : goal.returns-clause-list
returns-clause-list g c =
    let cache = c.args.self.now in
    let old = c.args.client.now in
    let i = c.shard_number-shard.result in
    let was = c.index_mut-seat.result.now in
    let at = is_at cache old i c.index.result.now was c.requires
    c.shard_number-shard.ensures.inside c.index.ensures c.index_mut-seat.ensures.value in
    did_at cache old _ i c.index.result.now was c.erase.new.seat at
    (record { seats = refl; number = refl; most = refl; seed = refl; capacities = refl })
    (λ s a b. Hands (g.L.FreedList.shelf c.args.list.now) (g.L.FreedList.shelf c.erase.new.list)
    (view_of a) (view_of b)) c.erase.ensures.list (shard_in cache c.args.key)
    (c.shard_number-shard.ensures.value
    ∙ ap (λ k. shard_of k (length cache.shards.items)) c.key_to-seeded.ensures.words)

pub returns-clause-frees : goal.returns-clause-frees
returns-clause-frees g c =
    let cache = c.args.self.now in
    let old = c.args.client.now in
    let i = c.shard_number-shard.result in
    let was = c.index_mut-seat.result.now in
    let is = c.erase.new.seat in
    let at = is_at cache old i c.index.result.now was c.requires
    c.shard_number-shard.ensures.inside c.index.ensures c.index_mut-seat.ensures.value in
    let alike = at.knows.alike.plans i c.index.result.now at.shard_is in
    let more : View _ → View _ → ℕ = λ v w.
    (cache.geometry.slots + 4 + g.L.FreedList.loads) * (w.takings - v.takings) + 2 in
    takes_for cache old (record old { seats = with_item old.seats i is }) i c.index.result.now was
    is at (record {
      seats = refl;
      number = refl;
      most = refl;
      seed = refl;
      capacities = refl;
    }) 9
    (more (view_of was) (view_of is)) more (shard_in cache c.args.key)
    (c.shard_number-shard.ensures.value
    ∙ ap (λ k. shard_of k (length cache.shards.items)) c.key_to-seeded.ensures.words)
    (rw (← alike.0) c.erase.ensures.frees) (omega arith)

pub returns-clause-steps : goal.returns-clause-steps
returns-clause-steps g c =
    let cache = c.args.self.now in
    let old = c.args.client.now in
    let i = c.shard_number-shard.result in
    let was = c.index_mut-seat.result.now in
    let at = is_at cache old i c.index.result.now was c.requires
    c.shard_number-shard.ensures.inside c.index.ensures c.index_mut-seat.ensures.value in
    let slots : c.index.result.now.table.geometry.slots ≡ cache.geometry.slots =
    ap (λ (x : Geometry). x.slots) (at.knows.alike.plans i c.index.result.now at.shard_is).0 in
    let each = freeing c.index.result.now.table.geometry.slots + g.L.FreedList.loads + 9 in
    let told = c.erase.ensures.steps in
    let most = mul-le-mul_left each told.within in
    steps_set old.seats.items i
    ((freeing cache.geometry.slots + g.L.FreedList.loads + 9) * cache.geometry.slots + 2) was
    c.erase.new.seat at.seat_is (rw (← slots) (let made = told.steps in omega arith))
