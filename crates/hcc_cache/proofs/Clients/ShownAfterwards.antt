-- What a client knows the shards of a cache to show, once a call was made.
use Rattle.std.proofs.Common.{◌≡◌, ◌<◌, inl, inr, ℕ, Bool, false, zero, suc, List, [], ◌∷◌, Some, Result, Ok, Err, length, slice_get, sym, refl, ap, ◌∙◌, subst, arith, true}
use Rattle.std.specs.Prelude.{IsSomeAnd}
use Rattle.std.proofs.lemmas.Bool.{cases_eq}
use Rattle.std.proofs.lemmas.Option.{same_Some}
use Rattle.std.specs.declared.alloc.Global.{Global}
use Rattle.hcc_core.proofs.ListLemmas.{read_here, read_other}
use Rattle.hcc_rule.specs.declared.geometry.Geometry.{Geometry}
use Rattle.hcc_rule.specs.declared.key.Key.{Key}
use Rattle.hcc_rule.specs.Callers.{clients_of, world_at}
use Rattle.hcc_rule.specs.Words.{key_of}
use Rattle.hcc_charge.specs.declared.reserving.Refused.{Refused}
use Rattle.hcc_charge.specs.declared.reserving.Refused.TheVariants as refused
use Rattle.hcc_table.specs.Standing.{ShowsKey, shown_at}
use Rattle.hcc_table.specs.Still.{is_still}
use Rattle.hcc_table.proofs.Releases.{still_shows}
use Rattle.hcc_table.proofs.Seeking.{goes_none, goes_then}
use Rattle.hcc_shard.specs.declared.inserting.Inserted.{Inserted}
use Rattle.hcc_shard.specs.declared.inserting.Inserted.TheVariants as stored
use Rattle.hcc_shard.specs.declared.seat.ShardSeat.{ShardSeat}
use Rattle.hcc_shard.specs.declared.shard.Shard.{Shard}
use Rattle.hcc_shard.specs.Stays.{ShowsIn, StaysAt}
use Rattle.hcc_shard.proofs.Stayings.{release_shows}
use Rattle.hcc_cache.specs.declared.cache.Cache.{Cache}
use Rattle.hcc_cache.specs.declared.client.Client.{Client}
use Rattle.hcc_cache.specs.declared.holding.Hold.{Hold}
use Rattle.hcc_cache.specs.declared.inserting.Inserted.TheVariants.{Placed}
use Rattle.hcc_cache.specs.declared.seeded.Seeded.{Seeded}
use Rattle.hcc_cache.specs.Calls.{OnlyAt, shard_in}
use Rattle.hcc_cache.specs.Inserts.{answer_of}
use Rattle.hcc_cache.specs.Moments.{KnowsShown}
use Rattle.hcc_cache.specs.Sharding.{key_to}
use Rattle.hcc_cache.specs.Stays.{ReleasesPin, Stays}
use Rattle.hcc_cache.specs.Totals.{AtEach}
use Rattle.hcc_cache.proofs.Clients.AtOneShard.{ChangesAt, IsAt}

-- a list that is as long has a member there too
there_too : {A B : Type 0} (xs : List A) (ys : List B) (i : ℕ) (y : B) → length xs ≡ length ys
    → slice_get ys i ≡ Some y → (x : A) × (slice_get xs i ≡ Some x)
there_too [] [] i y same at = cc
there_too [] (b ∷ bs) i y same at = absurd (omega arith)
there_too (a ∷ more) [] i y same at = cc
there_too (a ∷ more) (b ∷ bs) zero y same at = (a, refl)
there_too (a ∷ more) (b ∷ bs) (suc i) y same at = there_too more bs i y (omega arith) at

-- what was placed was placed by the shard
pub was_placed : (answer : Result Inserted Refused) → answer_of answer ≡ Ok Placed
    → answer ≡ Ok stored.Placed
was_placed (Ok stored.Placed) is = refl
was_placed (Ok stored.Dropped) is = cc
was_placed (Err refused.TooLarge) is = cc
was_placed (Err refused.CapacityFull) is = cc
was_placed (Err refused.OccupancyFull) is = cc

module _ {T : Type 0} (cache : Cache T) where
  -- No seat changed.
  pub stays_same : (old new : Client T) → new.seats.items ≡ old.seats.items → Stays cache old new
  stays_same old new same = record {
    each = λ s shard was shard_is seat_is. (
      was,
      ap (λ xs. slice_get xs s) same ∙ seat_is,
      goes_none shard.table is_still was.seat was.seat refl,
    );
  }

  pub stays_then : (a b c : Client T) → Stays cache a b → Stays cache b c → Stays cache a c
  stays_then a b c h g = record {
    each = λ s shard was shard_is seat_is.
        let first = h.each s shard was shard_is seat_is in
        let next = g.each s shard first.0 shard_is first.1 in (
          next.0,
          next.1,
          goes_then shard.table is_still was.seat first.0.seat next.0.seat first.2 next.2,
        );
  }

  -- One did, and no other.
  pub stays_only : (old new : Client T) (i : ℕ) (shard : Shard (Seeded T) Global)
      (was is : ShardSeat (Seeded T)) → slice_get cache.shards.items i ≡ Some shard
      → slice_get old.seats.items i ≡ Some was → slice_get new.seats.items i ≡ Some is
      → OnlyAt i old new → StaysAt shard was is → Stays cache old new
  stays_only old new i shard was is shard_is seat_was seat_is only stays = record {
    each = λ s there before at sits. elim (cases_eq s i) [
      | inl here ↦
          let same : shard ≡ there =
          same_Some _ _ (sym shard_is ∙ ap (slice_get cache.shards.items) (sym here) ∙ at) in
          let seat : was ≡ before =
          same_Some _ _ (sym seat_was ∙ ap (slice_get old.seats.items) (sym here) ∙ sits) in (
            is,
            ap (slice_get new.seats.items) here ∙ seat_is,
            subst (λ (z : Shard (Seeded T) Global). StaysAt z before is) same
                (subst (λ (z : ShardSeat (Seeded T)). StaysAt shard z is) seat stays),
          )
      | inr other ↦ (
        before,
        only s other ∙ sits,
        goes_none there.table is_still before.seat before.seat refl,
      )
    ];
  }

  module _ (old new : Client T) (i : ℕ) (shard : Shard (Seeded T) _)
      (was is : ShardSeat (Seeded T)) (at : IsAt cache old i shard was)
      (change : ChangesAt old new i is) where
    pub stays_at : StaysAt shard was is → Stays cache old new
    stays_at stays =
        stays_only old new i shard was is at.shard_is at.seat_is
        (ap (λ xs. slice_get xs i) change.seats
        ∙ read_here old.seats.items i was is at.seat_is)
        (λ s other. ap (λ xs. slice_get xs s) change.seats
        ∙ read_other old.seats.items i s is other) stays

    -- The client knows the shard to show a key.
    pub knows_shown : (key seeded : Key) (slot : ℕ) → i ≡ shard_in cache key
        → seeded ≡ key_to cache.seed key → ShowsIn shard seeded slot is → KnowsShown cache key new
    knows_shown key seeded slot here same shows = record {
      shard = shard;
      seat = is;
      shard_is = ap (slice_get cache.shards.items) (sym here) ∙ at.shard_is;
      seat_is =
          ap (slice_get new.seats.items) (sym here) ∙ ap (λ xs. slice_get xs i) change.seats
          ∙ read_here old.seats.items i was is at.seat_is;
      slot = slot;
      within =
          subst (λ n. slot < n)
          (ap (λ (x : Geometry). x.slots) (at.knows.alike.plans i shard at.shard_is).0)
          shows.within;
      shows = subst (λ k. ShowsKey (world_at shard.table is.seat) k slot) same shows.shows;
    }

    -- whether the shard has one client
    pub alone_at : cache.geometry.clients ≡ 1 → clients_of shard.table ≡ 1
    alone_at one =
        ap (λ (x : Geometry). x.clients) (at.knows.alike.plans i shard at.shard_is).0 ∙ one

  -- What was done at each shard changes nothing of what is shown.
  pub each_stays : (Did : Shard (Seeded T) Global → ℕ → (a b : ShardSeat (Seeded T)) → Type 0)
      → ((shard : Shard (Seeded T) Global) (found : ℕ) (a b : ShardSeat (Seeded T))
      → Did shard found a b → StaysAt shard a b)
      → (counts : List ℕ) (old new : Client T) → AtEach cache Did counts old new
      → Stays cache old new
  each_stays Did tells counts old new h = record {
    each = λ s shard was shard_is seat_is.
        let found = there_too counts cache.shards.items s shard h.count shard_is in
        let did = h.each s found.0 found.1 in
        let same : did.shard ≡ shard = same_Some _ _ (sym did.shard_is ∙ shard_is) in
        let seat : did.was ≡ was = same_Some _ _ (sym did.seat_was ∙ seat_is) in (
          did.is,
          did.seat_is,
          subst (λ (z : Shard (Seeded T) Global). StaysAt z was did.is) same
              (subst (λ (z : ShardSeat (Seeded T)). StaysAt did.shard z did.is) seat
              (tells did.shard found.0 did.was did.is did.did)),
        );
  }

  -- What a client knew to be shown it knows still.
  module _ (key : Key) (old new : Client T) (k : KnowsShown cache key old) where
    pub knows_slot : (is : ShardSeat (Seeded T))
        → slice_get new.seats.items (shard_in cache key) ≡ Some is
        → shown_at (world_at k.shard.table is.seat) k.slot
        ≡ shown_at (world_at k.shard.table k.seat.seat) k.slot
        → KnowsShown cache key new
    knows_slot is sits same = record {
      shard = k.shard;
      seat = is;
      shard_is = k.shard_is;
      seat_is = sits;
      slot = k.slot;
      within = k.within;
      shows =
          subst (λ o. IsSomeAnd o (λ e. key_of e ≡ key_to cache.seed key)) (sym same) k.shows;
    }

    pub knows_still : clients_of k.shard.table ≡ 1 → Stays cache old new
        → KnowsShown cache key new
    knows_still one h =
        let at = h.each (shard_in cache key) k.shard k.seat k.shard_is k.seat_is in
        knows_slot at.0 at.1 (still_shows k.shard.table one k.seat.seat at.0.seat at.2 k.slot)

    -- A release takes away what the slot of its reference showed, where it freed an entry.
    pub knows_released : clients_of k.shard.table ≡ 1 → (hold : Hold) (slot : ℕ)
        (used erase freed : Bool) → ReleasesPin cache hold slot true used erase freed old new
        → (shard_in cache key ≡ hold.shard → k.slot ≡ slot → freed ≡ false)
        → KnowsShown cache key new
    knows_released one hold slot used erase freed h kept =
        elim (cases_eq (shard_in cache key) hold.shard) [
          | inl here ↦ there here
          | inr other ↦ knows_slot k.seat (h.1 (shard_in cache key) other ∙ k.seat_is) refl
        ]
      where
        there : shard_in cache key ≡ hold.shard → KnowsShown cache key new
        there here =
            let shard : h.0.shard ≡ k.shard =
            same_Some _ _ (sym h.0.shard_is ∙ ap (slice_get cache.shards.items) (sym here)
            ∙ k.shard_is) in
            let seat : h.0.was ≡ k.seat =
            same_Some _ _ (sym h.0.seat_was ∙ ap (slice_get old.seats.items) (sym here)
            ∙ k.seat_is) in
            let single : clients_of h.0.shard.table ≡ 1 =
            subst (λ (z : Shard (Seeded T) Global). clients_of z.table ≡ 1) (sym shard) one in
            knows_slot h.0.is (ap (slice_get new.seats.items) here ∙ h.0.seat_is)
            (subst (λ (z : Shard (Seeded T) Global).
            shown_at (world_at z.table h.0.is.seat) k.slot
            ≡ shown_at (world_at z.table k.seat.seat) k.slot) shard
            (subst (λ (q : ShardSeat (Seeded T)).
            shown_at (world_at h.0.shard.table h.0.is.seat) k.slot
            ≡ shown_at (world_at h.0.shard.table q.seat) k.slot) seat
            (release_shows h.0.shard slot hold.serial true used erase freed h.0.was h.0.is h.0.did
            single
            k.slot (kept here))))
