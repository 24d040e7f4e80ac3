-- What an insertion that evicts nothing leaves of what a shard of one client shows.
use Rattle.std.proofs.Common.{◌≡◌, inl, inr, ℕ, ◌+◌, ◌-◌, ◌<◌, ◌≤◌, Bool, true, false, List, length, Some, Result, Ok, Err, IsOk, slice_get, sym, refl, ap, ◌∙◌, subst}
use Rattle.std.specs.Prelude.{IsSomeAnd}
use Rattle.std.proofs.lemmas.Bool.{cases_eq}
use Rattle.std.proofs.lemmas.Option.{same_Some}
use Rattle.std.specs.declared.alloc.Global.{Global}
use Rattle.hcc_core.specs.World.{State, limit_of, occupancy_of, standing_of, usage_of}
use Rattle.hcc_rule.specs.declared.key.Key.{Key}
use Rattle.hcc_rule.specs.declared.steps.shows.Draft.{Draft}
use Rattle.hcc_rule.specs.Callers.{capacity_of, clients_of, plan_of, slots_of, world_at}
use Rattle.hcc_rule.specs.Rule.{setup_of}
use Rattle.hcc_rule.specs.Seats.{SeatOf, view}
use Rattle.hcc_rule.specs.Views.{charge_made}
use Rattle.hcc_rule.specs.Words.{key_of}
use Rattle.hcc_table.specs.declared.efforts.Effort.{Effort}
use Rattle.hcc_table.specs.declared.inserting.Insertion.{Insertion}
use Rattle.hcc_table.specs.declared.inserting.Insertion.TheVariants.{Placed, Matched, NoSlot}
use Rattle.hcc_table.specs.Seeking.{GoesOnBy, is_booking}
use Rattle.hcc_table.specs.Standing.{InsertsShown, ShowsKey, ShowsSame, shown_at}
use Rattle.hcc_table.specs.Still.{GoesOnStill}
use Rattle.hcc_table.specs.Tries.{Inserts}
use Rattle.hcc_table.proofs.Releases.{still_shows}
use Rattle.hcc_table.proofs.Seeking.{goes_none}
use Rattle.hcc_table.proofs.Still.{booked_still}
use Rattle.hcc_charge.specs.declared.reserving.Refused.{Refused}
use Rattle.hcc_charge.specs.declared.reserving.Refused.TheVariants.{TooLarge, CapacityFull, OccupancyFull}
use Rattle.hcc_charge.specs.declared.reserving.Reservation.{Reservation}
use Rattle.hcc_charge.specs.declared.reserving.Reservation.TheVariants.{Reserved, NoPlace}
use Rattle.hcc_charge.proofs.Askings.{keeps_then}
use Rattle.hcc_charge.proofs.Stayings.{roomy, roomy_beside, unturned, unturned_still}
use Rattle.hcc_shard.specs.declared.inserting.Inserted.{Inserted}
use Rattle.hcc_shard.specs.declared.inserting.Inserted.TheVariants as stored
use Rattle.hcc_shard.specs.declared.inserting.Pinned.{Pinned}
use Rattle.hcc_shard.specs.declared.inserting.Pinned.TheVariants as pinned
use Rattle.hcc_shard.specs.declared.seat.ShardSeat.{ShardSeat}
use Rattle.hcc_shard.specs.declared.shard.Shard.{Shard}
use Rattle.hcc_shard.specs.Reserving.{EndsBy, InsertedAs, PinnedAs, PutsIn, Refuses, ReservedAs, TriesFrom, TriesWhere, left_out, tried_last}
use Rattle.hcc_shard.proofs.Reservings.{ends_book}
use Rattle.hcc_cache.specs.declared.cache.Cache.{Cache}
use Rattle.hcc_cache.specs.declared.client.Client.{Client}
use Rattle.hcc_cache.specs.declared.errors.InsertError.{InsertError}
use Rattle.hcc_cache.specs.declared.errors.InsertError.TheVariants as errors
use Rattle.hcc_cache.specs.declared.inserting.Inserted.{Inserted as Answered}
use Rattle.hcc_cache.specs.declared.inserting.Inserted.TheVariants as answers
use Rattle.hcc_cache.specs.declared.priority.Priority.{Priority}
use Rattle.hcc_cache.specs.declared.seeded.Seeded.{Seeded}
use Rattle.hcc_cache.specs.Calls.{OnlyAt, shard_in}
use Rattle.hcc_cache.specs.Inserts.{InsertsAt, StoresAt}
use Rattle.hcc_cache.specs.Keys.{fits_seeded}
use Rattle.hcc_cache.specs.Moments.{KnowsShown}
use Rattle.hcc_cache.specs.Room.{KeepsAs, KeepsPinnedAs, ShowsOver, TurnsNone}
use Rattle.hcc_cache.specs.Sharding.{key_to}
use Rattle.hcc_cache.proofs.Clients.ShownAfterwards.{knows_slot}

-- A key that is shown is so in a world that shows the same.
shows_too : (key : Key) (slot : ℕ) (w v : State) → shown_at v slot ≡ shown_at w slot
    → ShowsKey w key slot → ShowsKey v key slot
shows_too key slot w v same shows = subst (λ o. IsSomeAnd o (λ e. key_of e ≡ key)) (sym same) shows

-- An insertion between worlds that show the same as those of the whole call is one of the call.
pub inserts_over : (slots : ℕ) (key : Key) (answer : Insertion) (w v u z : State) → ShowsSame w v
    → InsertsShown slots key answer v u → ShowsSame u z → InsertsShown slots key answer w z
inserts_over slots key (Placed slot) w v u z first h last = record {
  i = h.i;
  probe = h.probe;
  before = λ j less shows. h.before j less (shows_too key _ w v (first _) shows);
  free = sym (first slot) ∙ h.free;
  shows = shows_too key slot u z (last slot) h.shows;
  others = λ s other. last s ∙ h.others s other ∙ first s;
}
inserts_over slots key Matched w v u z first h last = (
  h.0,
  h.1,
  shows_too key _ v w (sym (first _)) h.2,
  λ j less shows. h.3 j less (shows_too key _ w v (first _) shows),
  λ s. last s ∙ h.4 s ∙ first s,
)
inserts_over slots key NoSlot w v u z first h last = (
  λ slot less shows. h.0 slot less (shows_too key slot w v (first slot) shows),
  λ s. last s ∙ h.1 s ∙ first s,
)

-- A slot that showed a key before an insertion shows what it showed.
pub kept_over : (slots : ℕ) (key other : Key) (answer : Insertion) (w z : State) (slot : ℕ)
    → InsertsShown slots key answer w z → ShowsKey w other slot
    → shown_at z slot ≡ shown_at w slot
kept_over slots key other (Placed at) w z slot h shows = h.others slot apart
  where
    apart : ¬ (slot ≡ at)
    apart here =
        subst (λ o. IsSomeAnd o (λ e. key_of e ≡ other))
        (ap (shown_at w) here ∙ h.free) shows
kept_over slots key other Matched w z slot h shows = h.4 slot
kept_over slots key other NoSlot w z slot h shows = h.1 slot

module _ {T : Type 0} (fits : T → Key → List ℕ → Type 0) (shard : Shard (Seeded T) Global)
    (draft : Draft) (old new : ShardSeat (Seeded T)) where
  -- An insertion's reservation turned the hand no further than the insertion.
  turns_of : (answer : Result Reservation Refused)
      (r : ReservedAs (fits_seeded fits) shard draft true true answer old new) → TurnsNone old new
      → (view r.reserved).turns ≡ (view old.seat).turns
  turns_of answer r same = sym r.idle.turns ∙ same

  -- Where there is room in the world that the client knows a reservation is granted, and the
  -- insertion turns the hand no further,
  pub found_room : clients_of shard.table ≡ 1
      → occupancy_of (world_at shard.table old.seat) < limit_of (setup_of (plan_of shard.table))
      → usage_of (world_at shard.table old.seat) + draft.charge ≤ capacity_of shard.table
      → (answer : Result Reservation Refused)
      → ReservedAs (fits_seeded fits) shard draft true true answer old new
      → (answer ≡ Ok Reserved) × TurnsNone old new
  found_room one place room answer r =
      let began =
      roomy (fits_seeded fits) shard.table draft.charge true true answer old.tally new.tally
      old.effort
      r.counted old.seat r.reserved one r.evicts place room in
      (began.0, r.idle.turns ∙ began.1)

  -- and so it is where there is room beside all that the client made.
  pub found_beside : clients_of shard.table ≡ 1
      → length (view old.seat).made - (view old.seat).takings
      < limit_of (setup_of (plan_of shard.table))
      → standing_of (view old.seat).work + charge_made (view old.seat) + draft.charge
      ≤ capacity_of shard.table
      → (answer : Result Reservation Refused)
      → ReservedAs (fits_seeded fits) shard draft true true answer old new
      → (answer ≡ Ok Reserved) × TurnsNone old new
  found_beside one place room answer r =
      let began =
      roomy_beside (fits_seeded fits) shard.table draft.charge true true answer old.tally new.tally
      old.effort r.counted old.seat r.reserved one r.evicts place room in
      (began.0, r.idle.turns ∙ began.1)

  -- Where that is so of each reservation the insertion isn't refused,
  module _ (found : (answer : Result Reservation Refused)
      → ReservedAs (fits_seeded fits) shard draft true true answer old new
      → (answer ≡ Ok Reserved) × TurnsNone old new) where
    pub found_idles : (answer : Result Inserted Refused)
        → InsertedAs (fits_seeded fits) shard draft true true answer old new
        → IsOk answer × TurnsNone old new
    found_idles (Ok stored.Placed) did = (refl, (found (Ok Reserved) did.1.reserves).1)
    found_idles (Ok stored.Dropped) did = (refl, (found (Ok did.told) did.reserves).1)
    found_idles (Err why) did =
        absurd (let is = (found (Err why) did.reserves).0 in let never : ⊥ = cc in never)

    pub found_idles_pinned : (answer : Result Pinned Refused)
        → PinnedAs (fits_seeded fits) shard draft true true answer old new
        → IsOk answer × TurnsNone old new
    found_idles_pinned (Ok (pinned.Placed pin)) did =
        (refl, (found (Ok Reserved) did.reserves).1)
    found_idles_pinned (Ok pinned.Standalone) did = (refl, (found (Ok did.told) did.reserves).1)
    found_idles_pinned (Err why) did =
        absurd (let is = (found (Err why) did.reserves).0 in let never : ⊥ = cc in never)

  -- What it leaves of what is shown, where nothing else was shown or taken,
  abbrev pub LeavesShown : Type 0
  LeavesShown =
      (answer : Insertion)
      (r : ReservedAs (fits_seeded fits) shard draft true true (Ok Reserved) old new)
      (t : TriesFrom (fits_seeded fits) shard draft r.reserved r.counted answer new)
      → GoesOnStill shard.table old.seat r.reserved → GoesOnStill shard.table t.done new.seat
      → InsertsShown (slots_of shard.table) draft.key answer (world_at shard.table old.seat)
      (world_at shard.table new.seat)

  -- as in a shard of one client,
  pub leaves_alone : clients_of shard.table ≡ 1
      → ((answer : Insertion) (before after : Effort) (old new : SeatOf (Seeded T))
      → Inserts (fits_seeded fits) shard.table draft.key draft.serial draft.countdown answer
      before after old new
      → InsertsShown (slots_of shard.table) draft.key answer (world_at shard.table old)
      (world_at shard.table new)) → LeavesShown
  leaves_alone one tells answer r t first last =
      inserts_over (slots_of shard.table) draft.key answer (world_at shard.table old.seat)
      (world_at shard.table r.reserved) (world_at shard.table t.done)
      (world_at shard.table new.seat) (still_shows shard.table one old.seat r.reserved first)
      (tells answer r.counted new.effort r.reserved t.done t.inserts)
      (still_shows shard.table one t.done new.seat last)

  module _ (leaves : LeavesShown) (same : TurnsNone old new) where
    -- and where it turned the hand no further the probes were tried,
    shows_over : (answer : Insertion)
        (r : ReservedAs (fits_seeded fits) shard draft true true (Ok Reserved) old new)
        → (t : TriesFrom (fits_seeded fits) shard draft r.reserved r.counted answer new)
        → GoesOnBy shard.table is_booking t.done new.seat
        → ShowsOver shard draft answer old new
    shows_over answer r t books = record {
      shows =
          leaves answer r t
          (unturned_still (fits_seeded fits) shard.table draft.charge true true (Ok Reserved)
          old.tally new.tally old.effort r.counted old.seat r.reserved r.evicts
          (turns_of (Ok Reserved) r same))
          (booked_still shard.table t.done new.seat books);
      idle =
          keeps_then (view old.seat) (view r.reserved) (view new.seat)
          (unturned (fits_seeded fits) shard.table draft.charge true true (Ok Reserved) old.tally
          new.tally
          old.effort r.counted old.seat r.reserved r.evicts refl (turns_of (Ok Reserved) r same)).1
          r.idle;
    }

    -- where the entry was left out, too,
    left_over : (keeps : Bool) (told : Reservation) (matched : Bool)
        (r : ReservedAs (fits_seeded fits) shard draft true true (Ok told) old new)
        (t : TriesWhere (fits_seeded fits) shard draft told r.reserved r.counted
        (left_out matched) new)
        → EndsBy shard draft keeps told
        (tried_last (fits_seeded fits) shard draft told r.reserved r.counted (left_out matched)
        new t) new.seat
        → (told ≡ Reserved) × ShowsOver shard draft (left_out matched) old new
    left_over keeps Reserved matched r t ends = (
      refl,
      shows_over (left_out matched) r t
          (ends_book shard draft keeps Reserved t.done new.seat ends),
    )
    left_over keeps NoPlace matched r t ends =
        absurd (unturned (fits_seeded fits) shard.table draft.charge true true (Ok NoPlace)
        old.tally
        new.tally old.effort r.counted old.seat r.reserved r.evicts refl
        (turns_of (Ok NoPlace) r same)).0

    -- or it was refused at once,
    refused_over : (why : Refused) → Refuses (fits_seeded fits) shard draft true true why old new
        → (why ≡ TooLarge) × (new.seat ≡ old.seat)
    refused_over TooLarge h = (refl, h.ends ∙ h.reserves.evicts.2)
    refused_over CapacityFull h =
        absurd (unturned (fits_seeded fits) shard.table draft.charge true true (Err CapacityFull)
        old.tally
        new.tally old.effort h.reserves.counted old.seat h.reserves.reserved h.reserves.evicts refl
        (turns_of (Err CapacityFull) h.reserves same)).0
    refused_over OccupancyFull h =
        absurd (unturned (fits_seeded fits) shard.table draft.charge true true (Err OccupancyFull)
        old.tally
        new.tally old.effort h.reserves.counted old.seat h.reserves.reserved h.reserves.evicts refl
        (turns_of (Err OccupancyFull) h.reserves same)).0

    -- or its entry was put in a slot:
    placed_over : (slot : ℕ) → PutsIn (fits_seeded fits) shard draft true true slot old new
        → ShowsOver shard draft (Placed slot) old new
    placed_over slot did =
        shows_over (Placed slot) did.reserves did.tries
        (goes_none shard.table is_booking did.tries.done new.seat did.ends)

    -- by its answer,
    pub keeps_as : (answer : Result Inserted Refused)
        (did : InsertedAs (fits_seeded fits) shard draft true true answer old new)
        → KeepsAs shard draft fits answer old new did
    keeps_as (Ok stored.Placed) did = placed_over did.0 did.1
    keeps_as (Ok stored.Dropped) did =
        left_over false did.told did.matched did.reserves did.tries did.ends
    keeps_as (Err why) did = refused_over why did

    -- and so one that keeps a reference.
    pub keeps_pinned_as : (answer : Result Pinned Refused)
        (did : PinnedAs (fits_seeded fits) shard draft true true answer old new)
        → KeepsPinnedAs shard draft fits answer old new did
    keeps_pinned_as (Ok (pinned.Placed pin)) did = placed_over pin.slot did
    keeps_pinned_as (Ok pinned.Standalone) did =
        left_over true did.told did.matched did.reserves did.tries did.ends
    keeps_pinned_as (Err why) did = refused_over why did

module _ {T : Type 0} (fits : T → Key → List ℕ → Type 0) (shard : Shard (Seeded T) Global)
    (draft : Draft) (old new : ShardSeat (Seeded T)) where
  -- Each slot that showed some key shows what it showed
  abbrev pub KeepsKeys : Type 0
  KeepsKeys =
      (other : Key) (slot : ℕ) → ShowsKey (world_at shard.table old.seat) other slot
      → shown_at (world_at shard.table new.seat) slot
      ≡ shown_at (world_at shard.table old.seat) slot

  over_keeps : (answer : Insertion) → ShowsOver shard draft answer old new → KeepsKeys
  over_keeps answer h other slot shows =
      kept_over (slots_of shard.table) draft.key other answer (world_at shard.table old.seat)
      (world_at shard.table new.seat) slot h.shows shows

  same_keeps : new.seat ≡ old.seat → KeepsKeys
  same_keeps same other slot shows = ap (λ z. shown_at (world_at shard.table z) slot) same

  -- behind an insertion that turned the hand no further,
  pub keeps_keys : (answer : Result Inserted Refused)
      (did : InsertedAs (fits_seeded fits) shard draft true true answer old new)
      → KeepsAs shard draft fits answer old new did → KeepsKeys
  keeps_keys (Ok stored.Placed) did h = over_keeps (Placed did.0) h
  keeps_keys (Ok stored.Dropped) did h = over_keeps (left_out did.matched) h.1
  keeps_keys (Err why) did h = same_keeps h.1

  -- and behind one that keeps a reference.
  pub keeps_pinned_keys : (answer : Result Pinned Refused)
      (did : PinnedAs (fits_seeded fits) shard draft true true answer old new)
      → KeepsPinnedAs shard draft fits answer old new did → KeepsKeys
  keeps_pinned_keys (Ok (pinned.Placed pin)) did h = over_keeps (Placed pin.slot) h
  keeps_pinned_keys (Ok pinned.Standalone) did h = over_keeps (left_out did.matched) h.1
  keeps_pinned_keys (Err why) did h = same_keeps h.1

-- What the client knew to be shown it knows so still, where that shard alone was called.
pub knows_over : {T : Type 0} (cache : Cache T) (number : ℕ) (other : Key) (old new : Client T)
    (shard : Shard (Seeded T) Global) (was is : ShardSeat (Seeded T))
    → slice_get cache.shards.items number ≡ Some shard
    → slice_get old.seats.items number ≡ Some was → slice_get new.seats.items number ≡ Some is
    → OnlyAt number old new
    → ((key : Key) (slot : ℕ) → ShowsKey (world_at shard.table was.seat) key slot
    → shown_at (world_at shard.table is.seat) slot
    ≡ shown_at (world_at shard.table was.seat) slot)
    → KnowsShown cache other old → KnowsShown cache other new
knows_over {T = T} cache number other old new shard was is shard_is seat_was seat_is only keeps k =
    elim (cases_eq (shard_in cache other) number) [
      | inl here ↦ there here
      | inr apart ↦
          knows_slot cache other old new k k.seat (only (shard_in cache other) apart ∙ k.seat_is)
          refl
    ]
  where
    there : shard_in cache other ≡ number → KnowsShown cache other new
    there here =
        let same : shard ≡ k.shard =
        same_Some _ _ (sym shard_is ∙ ap (slice_get cache.shards.items) (sym here) ∙ k.shard_is) in
        let seat : was ≡ k.seat =
        same_Some _ _ (sym seat_was ∙ ap (slice_get old.seats.items) (sym here) ∙ k.seat_is) in
        let shows : ShowsKey (world_at shard.table was.seat) (key_to cache.seed other) k.slot =
        subst (λ (z : Shard (Seeded T) Global).
        ShowsKey (world_at z.table was.seat) (key_to cache.seed other) k.slot) (sym same)
        (subst (λ (q : ShardSeat (Seeded T)).
        ShowsKey (world_at k.shard.table q.seat) (key_to cache.seed other) k.slot) (sym seat)
        k.shows) in
        knows_slot cache other old new k is (ap (slice_get new.seats.items) here ∙ seat_is)
        (subst (λ (z : Shard (Seeded T) Global).
        shown_at (world_at z.table is.seat) k.slot
        ≡ shown_at (world_at z.table k.seat.seat) k.slot) same
        (subst (λ (q : ShardSeat (Seeded T)).
        shown_at (world_at shard.table is.seat) k.slot
        ≡ shown_at (world_at shard.table q.seat) k.slot) seat
        (keeps (key_to cache.seed other) k.slot shows)))

module _ {T : Type 0} (cache : Cache T) (fits : T → Key → List ℕ → Type 0) (key : Key)
    (charge : ℕ) (priority : Priority) (P : Client T → Type 0) (old new : Client T) where
  -- What held before an insertion, and holds after what it did at the shard, if anything.
  pub inserts_keep : P old
      → ((answer : Result Inserted Refused)
      → StoresAt cache fits key charge priority answer old new → P new)
      → (answer : Result Answered InsertError)
      → InsertsAt cache fits key charge priority answer old new → P new
  inserts_keep before stores (Ok answers.Placed) did = stores (Ok stored.Placed) did
  inserts_keep before stores (Ok answers.Dropped) did = stores (Ok stored.Dropped) did
  inserts_keep before stores (Ok answers.Standalone) did = absurd did
  inserts_keep before stores (Err errors.HandlesFull) did = absurd did
  inserts_keep before stores (Err errors.Spent) did = subst P (sym did) before
  inserts_keep before stores (Err errors.TooLarge) did = subst P (sym did) before
  inserts_keep before stores (Err errors.CapacityFull) did = stores (Err CapacityFull) did
  inserts_keep before stores (Err errors.OccupancyFull) did = stores (Err OccupancyFull) did
