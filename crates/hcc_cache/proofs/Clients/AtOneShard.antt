-- What a client works with at one shard, and what it knows afterwards.
use Rattle.std.proofs.Common.{◌≡◌, ℕ, ◌+◌, ◌*◌, ◌<◌, ◌≤◌, Some, length, get_or, slice_get, slice_set, refl, ap, arith, subst, ◌∙◌}
use Rattle.std.proofs.lemmas.Option.{slice_get_read}
use Rattle.std.specs.declared.alloc.Global.{Global}
use Rattle.slab.specs.Slab.{slab_len}
use Rattle.hcc_core.specs.declared.limits.TheConstants.{MOST_HANDLES, STAMPS_PER_CLIENT}
use Rattle.hcc_core.proofs.ListLemmas.{read_here, read_other, read_same}
use Rattle.hcc_core.proofs.SumLemmas.{total-member}
use Rattle.hcc_rule.specs.declared.view.View.{View}
use Rattle.hcc_rule.specs.Views.{Each}
use Rattle.hcc_table.specs.Rises.{Rose}
use Rattle.hcc_table.specs.Steps.{MakesFor}
use Rattle.hcc_shard.specs.declared.seat.ShardSeat.{ShardSeat}
use Rattle.hcc_shard.specs.declared.shard.Shard.{Shard}
use Rattle.hcc_shard.specs.Callers.{steps_of, view_of}
use Rattle.hcc_shard.specs.Counted.{SameCounts}
use Rattle.hcc_shard.specs.Seated.{IsNext}
use Rattle.hcc_cache.specs.declared.cache.Cache.{Cache}
use Rattle.hcc_cache.specs.declared.client.Client.{Client}
use Rattle.hcc_cache.specs.declared.seeded.Seeded.{Seeded}
use Rattle.hcc_cache.specs.Calls.{AtShard, Capacities, CountsNone, DoesAt, OnlyAt, TakesAtMost, TakesFor, Works, capacities_of, counts_by}
use Rattle.hcc_cache.specs.Clients.{view_by}
use Rattle.hcc_cache.specs.Known.{AreHeld, IsHome, IsSeated, Knows, records_at}
use Rattle.hcc_cache.proofs.Clients.Seats.{home_set, seated_set, steps_set, view_else, view_here}

module _ {T : Type 0} where
  -- what a client works with: at this shard, where it has this seat
  pub record IsAt (cache : Cache T) (client : Client T) (i : ℕ) (shard : Shard (Seeded T) _)
      (was : ShardSeat (Seeded T)) : Type 0 where
    pub knows : Knows cache client
    pub shard_is : slice_get cache.shards.items i ≡ Some shard
    pub seat_is : slice_get client.seats.items i ≡ Some was

  -- the seat there changed, and no other
  pub record ChangesAt (old new : Client T) (i : ℕ) (is : ShardSeat (Seeded T)) : Type 0 where
    pub seats : new.seats.items ≡ slice_set old.seats.items i is
    pub number : new.number ≡ old.number
    pub most : new.most ≡ old.most
    pub seed : new.seed ≡ old.seed
    pub capacities : capacities_of new ≡ capacities_of old

  -- what an index reads
  pub is_at : (cache : Cache T) (client : Client T) (i : ℕ) (shard : Shard (Seeded T) _)
      (was : ShardSeat (Seeded T)) → Knows cache client → i < length cache.shards.items
      → shard ≡ get_or cache.shards.items i shard → was ≡ get_or client.seats.items i was
      → IsAt cache client i shard was
  is_at cache client i shard was knows inside reads sits =
      let count = knows.seated.count in
      record {
        knows = knows;
        shard_is =
            slice_get_read cache.shards.items (length cache.shards.items) i shard refl inside
            reads;
        seat_is =
            slice_get_read client.seats.items (length client.seats.items) i was refl (omega arith)
            sits;
      }

  module _ (cache : Cache T) (old new : Client T) (i : ℕ) (shard : Shard (Seeded T) _)
      (was is : ShardSeat (Seeded T)) (at : IsAt cache old i shard was) where
    -- the seat there is one of the client
    pub seated_at : IsSeated shard old.number old.used was
    seated_at = at.knows.seated.each i shard was at.shard_is at.seat_is

    -- what it made there is of this shard, where it made nothing since
    pub home_kept : (view_of is).made ≡ (view_of was).made
        → Each (IsHome cache.seed (length old.seats.items) i) (view_of is).made
    home_kept same = rw same (at.knows.homes i was at.seat_is)

    -- the next serial may be handed there
    pub next_at : 0 < old.left → IsNext old.used (view_of was)
    next_at some =
        let serials = at.knows.serials in
        record {
          records = seated_at.records;
          standalones = seated_at.standalones;
          made = seated_at.made;
          above = seated_at.above;
          low = omega arith;
        }

    -- and one more reference be held
    pub few_at : old.held < old.most → length (view_of was).records < MOST_HANDLES
    few_at free =
        let part = total-member records_at old.seats.items i was at.seat_is in
        let pins = at.knows.holds.pins in
        let references = at.knows.holds.references in
        let count = at.knows.count in
        let most = at.knows.most in
        omega arith

    module _ (change : ChangesAt old new i is) where
      pub works_at : Works i old new (view_of was) (view_of is)
      works_at = record {
        before = ap view_by at.seat_is;
        after = rw (change.seats) (view_here old.seats.items i was is at.seat_is);
        others = λ s ne. rw (change.seats) (view_else old.seats.items i s is ne);
        self = (change.number, change.most, change.capacities);
      }

      -- what the seat did there the client did
      pub did_at : (Did : Shard (Seeded T) Global → (a b : ShardSeat (Seeded T)) → Type 0)
          → Did shard was is → (number : ℕ) → i ≡ number → AtShard cache Did number old new
      did_at Did did number here = subst (λ n. AtShard cache Did n old new) here record {
        shard = shard;
        was = was;
        is = is;
        shard_is = at.shard_is;
        seat_was = at.seat_is;
        seat_is = rw (change.seats) (read_here old.seats.items i was is at.seat_is);
        did = did;
      }

      -- no other seat changed
      pub only_at : (number : ℕ) → i ≡ number → OnlyAt number old new
      only_at number here =
          subst (λ n. OnlyAt n old new) here
          (λ s ne. rw (change.seats) (read_other old.seats.items i s is ne))

      pub does_at : (Did : (a b : ShardSeat (Seeded T)) → Type 0) → Did was is → (number : ℕ)
          → i ≡ number → DoesAt Did number old new
      does_at Did did number here = subst (λ n. DoesAt Did n old new) here record {
        was = was;
        is = is;
        seat_was = at.seat_is;
        seat_is = rw (change.seats) (read_here old.seats.items i was is at.seat_is);
        did = did;
        others = only_at i refl;
      }

      -- where the seat counted nothing the client didn't
      pub counts_none : SameCounts was is → CountsNone old new
      counts_none same = λ s. rw (change.seats)
          (read_same counts_by old.seats.items i s was is at.seat_is (ap Some same))

      -- the steps that it made are those of the client
      pub takes_at : (most : ℕ) → steps_of is ≤ steps_of was + most → TakesAtMost most old new
      takes_at most few = rw (change.seats) (steps_set old.seats.items i most was is at.seat_is few)

      -- and so are those that are counted by what it visited
      pub takes_for : (each most : ℕ) (more : View (Seeded T) → View (Seeded T) → ℕ) (number : ℕ)
          → i ≡ number
          → MakesFor each most cache.geometry.slots was.effort is.effort was.seat is.seat
          → most ≤ more (view_of was) (view_of is) → TakesFor cache each more number old new
      takes_for each most more number here makes few =
          subst (λ n. TakesFor cache each more n old new) here record {
            visited = makes.visited;
            within = makes.within;
            counted =
                did_at (λ s a b. Rose makes.visited makes.visited a.effort.probes b.effort.probes)
                makes.counted i refl;
            steps = rw (works_at.before, works_at.after)
                (takes_at (each * makes.visited + more (view_of was) (view_of is))
                (let steps = makes.steps in omega arith));
          }

      -- The cache knows the client still, where the seat is one of it, and it keeps what it holds.
      pub knows_at : old.used ≤ new.used → IsSeated shard old.number new.used is
          → Each (IsHome cache.seed (length old.seats.items) i) (view_of is).made
          → AreHeld cache.seed new.used new.seats.items new.handles new.alone
          → new.held ≡ slab_len new.handles → new.held ≤ old.most
          → new.used + new.left ≤ STAMPS_PER_CLIENT → Knows cache new
      knows_at later seated homes holds count few serials = record {
        alike = at.knows.alike;
        seed = change.seed ∙ at.knows.seed;
        seated =
            rw (change.seats, change.number)
            (seated_set cache.shards.items old.number old.used new.used old.seats.items i shard is
            later at.knows.seated at.shard_is seated);
        homes = rw (change.seats) (home_set cache.seed old.seats.items i is at.knows.homes homes);
        holds = holds;
        count = count;
        few = rw (change.most) few;
        most = rw (change.most) at.knows.most;
        room = rw (
          change.most,
          ap (λ (c : Capacities). c.handles) change.capacities,
          ap (λ (c : Capacities). c.alone) change.capacities,
        )
            at.knows.room;
        serials = serials;
      }
