-- A client that worked at one shard, and holds what it held.
use Rattle.std.proofs.Common.{◌≡◌, ℕ, slice_set, refl, ap, ◌∙◌, arith, vec_capacity}
use Rattle.hcc_rule.specs.declared.key.Key.{Key}
use Rattle.hcc_rule.specs.declared.view.View.{View}
use Rattle.hcc_rule.specs.Looked.{after_look}
use Rattle.hcc_rule.specs.ToldLedgers.{after_usage}
use Rattle.hcc_table.specs.Searched.{Sought}
use Rattle.hcc_shard.specs.declared.seat.ShardSeat.{ShardSeat}
use Rattle.hcc_shard.specs.declared.shard.Shard.{Shard}
use Rattle.hcc_shard.specs.Callers.{view_of}
use Rattle.hcc_shard.specs.Referred.{IsErasedAll}
use Rattle.hcc_shard.specs.Seated.{Rests}
use Rattle.hcc_cache.specs.declared.cache.Cache.{Cache}
use Rattle.hcc_cache.specs.declared.client.Client.{Client}
use Rattle.hcc_cache.specs.declared.seeded.Seeded.{Seeded}
use Rattle.hcc_cache.specs.Calls.{KeepsAll, capacities_of}
use Rattle.hcc_cache.specs.Known.{IsSeated, Knows}
use Rattle.hcc_cache.proofs.Clients.AtOneShard.{IsAt, ChangesAt, home_kept, knows_at, seated_at}
use Rattle.hcc_cache.proofs.Handles.SameHolds.{keeps_all}
use Rattle.hcc_cache.proofs.Handles.StandAsBefore.{held_rest, stands_rest}
use Rattle.hcc_cache.proofs.Clients.Seats.{seated_by}

-- What a client knows of a shard and may not change there: whom the view stands for, and what is
-- held and made.
pub record Same {T : Type 0} (v w : View T) : Type 0 where
  pub client : w.client ≡ v.client
  pub others : w.others ≡ v.others
  pub records : w.records ≡ v.records
  pub standalones : w.work.standalones ≡ v.work.standalones
  pub made : w.made ≡ v.made

-- nothing else of a client changed than its seats, in a list of the same capacity
pub record OnlySeats {T : Type 0} (old new : Client T) : Type 0 where
  pub rest : new ≡ record old { seats = new.seats }
  pub capacity : vec_capacity new.seats ≡ vec_capacity old.seats

module _ {T : Type 0} (cache : Cache T) (old new : Client T) (i : ℕ) (shard : Shard (Seeded T) _)
    (was is : ShardSeat (Seeded T)) (at : IsAt cache old i shard was) (rests : Rests shard is)
    (same : Same (view_of was) (view_of is)) where
  -- the seat is one of the client still
  pub seated_same : IsSeated shard old.number old.used is
  seated_same =
      let s = seated_at cache old new i shard was is at in
      seated_by shard old.number old.used old.used was is s rests same.client same.others
      (rw (same.records) s.records) (rw (same.standalones) s.standalones)
      (rw (same.made) s.made) (rw (same.made) s.above)
      (record {
        records = rw (same.records) s.charged.records;
        standalones = rw (same.standalones) s.charged.standalones;
      })

  module _ (seats : new.seats.items ≡ slice_set old.seats.items i is) (only : OnlySeats old new)
    where
      pub changes_same : ChangesAt old new i is
      changes_same = record {
        seats = seats;
        number = ap (λ (c : Client T). c.number) only.rest;
        most = ap (λ (c : Client T). c.most) only.rest;
        seed = ap (λ (c : Client T). c.seed) only.rest;
        capacities =
            ap (λ (c : Client T). capacities_of c) only.rest
            ∙ ap (λ n. record (capacities_of old) { seats = n }) only.capacity;
      }

      -- the cache knows the client,
      pub knows_same : Knows cache new
      knows_same =
          let handles : new.handles ≡ old.handles = ap (λ (c : Client T). c.handles) only.rest in
          let alone : new.alone ≡ old.alone = ap (λ (c : Client T). c.alone) only.rest in
          let held : new.held ≡ old.held = ap (λ (c : Client T). c.held) only.rest in
          let used : new.used ≡ old.used = ap (λ (c : Client T). c.used) only.rest in
          let left : new.left ≡ old.left = ap (λ (c : Client T). c.left) only.rest in
          knows_at cache old new i shard was is at changes_same (rw used (omega arith))
          (rw used seated_same)
          (home_kept cache old new i shard was is at same.made)
          (rw (seats, handles, alone, used)
          (held_rest cache.seed old.used old.seats.items old.handles old.alone at.knows.holds i
          was is
          at.seat_is same.records same.standalones old.used (omega arith)))
          (rw (held, handles) at.knows.count) (rw held at.knows.few)
          (rw (used, left) at.knows.serials)

      -- and its handles stand for what they stood for
      pub keeps_same : KeepsAll cache old new
      keeps_same =
          let handles : new.handles ≡ old.handles = ap (λ (c : Client T). c.handles) only.rest in
          let alone : new.alone ≡ old.alone = ap (λ (c : Client T). c.alone) only.rest in
          record {
            all =
                keeps_all cache old new (ap (λ (c : Client T). c.number) only.rest) handles
                (λ p k there. rw (seats, alone)
                (stands_rest cache.seed old.used old.seats.items old.handles old.alone
                at.knows.holds
                i was is at.seat_is same.records same.standalones p k there));
            count = ap (λ (c : Client T). c.held) only.rest;
            serials = (
              ap (λ (c : Client T). c.used) only.rest,
              ap (λ (c : Client T). c.left) only.rest,
            );
          }

-- What calls leave, in these words.

module _ {T : Type 0} (v w : View T) where
  pub same_all : w ≡ v → Same v w
  same_all same = rw same
      (record { client = refl; others = refl; records = refl; standalones = refl; made = refl })

  pub same_usage : (used : ℕ) → w ≡ after_usage used v → Same v w
  same_usage used same = record {
    client = ap (λ (z : View T). z.client) same;
    others = ap (λ (z : View T). z.others) same;
    records = ap (λ (z : View T). z.records) same;
    standalones = ap (λ (z : View T). z.work.standalones) same;
    made = ap (λ (z : View T). z.made) same;
  }

  pub same_look : (slot word : ℕ) → w ≡ after_look slot word v → Same v w
  same_look slot word same = record {
    client = ap (λ (z : View T). z.client) same;
    others = ap (λ (z : View T). z.others) same;
    records = ap (λ (z : View T). z.records) same;
    standalones = ap (λ (z : View T). z.work.standalones) same;
    made = ap (λ (z : View T). z.made) same;
  }

  pub same_sought : Sought v w → Same v w
  same_sought s = record {
    client = ap (λ (z : View T). z.client) s.searched.same;
    others = ap (λ (z : View T). z.others) s.searched.same;
    records = s.records;
    standalones = ap (λ (z : View T). z.work.standalones) s.searched.same;
    made = ap (λ (z : View T). z.made) s.searched.same;
  }

  pub same_erased : (key : Key) (hidden : ℕ) → IsErasedAll key hidden v w → Same v w
  same_erased key hidden e = record {
    client = ap (λ (z : View T). z.client) e.same;
    others = ap (λ (z : View T). z.others) e.same;
    records = ap (λ (z : View T). z.records) e.same;
    standalones = ap (λ (z : View T). z.work.standalones) e.same;
    made = ap (λ (z : View T). z.made) e.same;
  }
