-- What a client knew to be shown, and what lacked it at a moment of its call, or held it meanwhile.
use Rattle.std.proofs.Common.{◌≡◌, ◌≢◌, inl, inr, ℕ, ◌<◌, Bool, true, false, List, [], ◌∷◌, ◌++◌, Some, None, slice_get, refl, sym, ap, subst, ◌∙◌}
use Rattle.std.specs.List.{list_any}
use Rattle.std.specs.Prelude.{IsSomeAnd}
use Rattle.std.proofs.lemmas.Bool.{or_from, or_parts}
use Rattle.std.proofs.lemmas.List.{append_assoc}
use Rattle.std.proofs.lemmas.Option.{same_Some}
use Rattle.std.specs.declared.alloc.Global.{Global}
use Rattle.hcc_core.specs.declared.event.Event.{Event}
use Rattle.hcc_core.specs.declared.event.Event.TheVariants as events
use Rattle.hcc_core.specs.declared.slot.Entry.{Entry}
use Rattle.hcc_core.specs.Lawful.{Lawful}
use Rattle.hcc_core.specs.Runs.{after, after_all, held_at, takes_away}
use Rattle.hcc_core.specs.Shown.{TakesShown}
use Rattle.hcc_core.specs.World.{State}
use Rattle.hcc_core.proofs.EveryRun.{lawful_all, stands_all}
use Rattle.hcc_rule.specs.declared.geometry.Geometry.{Geometry}
use Rattle.hcc_rule.specs.declared.key.Key.{Key}
use Rattle.hcc_rule.specs.declared.view.Done.{Done}
use Rattle.hcc_rule.specs.Acts.{events_of, past, world_of}
use Rattle.hcc_rule.specs.Callers.{plan_of, slots_of, world_at}
use Rattle.hcc_rule.specs.Opening.{begun_world}
use Rattle.hcc_rule.specs.Seats.{IsPlanned}
use Rattle.hcc_rule.specs.Shown.{IsTakenAway}
use Rattle.hcc_rule.specs.Words.{key_of}
use Rattle.hcc_rule.proofs.Seats.Histories.{after_more}
use Rattle.hcc_rule.proofs.Seats.Runs.{run_lawful}
use Rattle.hcc_rule.proofs.Seats.StaysShown.{stays_shown}
use Rattle.hcc_table.specs.Standing.{shown_at}
use Rattle.hcc_table.specs.Still.{BeganWithin}
use Rattle.hcc_table.proofs.Moments.{some_and}
use Rattle.hcc_shard.specs.declared.seat.ShardSeat.{ShardSeat}
use Rattle.hcc_shard.specs.declared.shard.Shard.{Shard}
use Rattle.hcc_shard.specs.Ended.{past_of}
use Rattle.hcc_cache.specs.declared.cache.Cache.{Cache}
use Rattle.hcc_cache.specs.declared.client.Client.{Client}
use Rattle.hcc_cache.specs.declared.seeded.Seeded.{Seeded}
use Rattle.hcc_cache.specs.Calls.{shard_in}
use Rattle.hcc_cache.specs.Keys.{fits_seeded}
use Rattle.hcc_cache.specs.Known.{Knows}
use Rattle.hcc_cache.specs.Moments.{KnowsShown}
use Rattle.hcc_cache.specs.Sharding.{key_to}
use Rattle.hcc_cache.specs.Since.{GoesOnAt, IsHeldThrough, IsHiddenByOther, IsTakenBetween, IsTakenByOther, IsTakenSince, is_hide}
use Rattle.hcc_cache.specs.Stays.{BeganEachWithin}
use Rattle.hcc_cache.specs.Within.{LacksWithin}
use Rattle.hcc_cache.proofs.Clients.ShownSince.{taken_more}
use Rattle.hcc_cache.proofs.Insertions.PlacedShown.{planned}
use Rattle.hcc_cache.proofs.Within.NeverAgain.{freed_bare, never_again}

module _ {T : Type 0} (fits : T → Key → List ℕ → Type 0) (cache : Cache T)
    (began : BeganEachWithin cache fits) (key : Key) (old new : Client T)
    (k : KnowsShown cache key old) where
  image : BeganWithin k.shard.table (fits_seeded fits)
  image = began (shard_in cache key) k.shard k.shard_is

  shard_planned : IsPlanned (plan_of k.shard.table).geometry (plan_of k.shard.table).capacity
  shard_planned = planned (fits_seeded fits) k.shard.table image

  -- What was taken away isn't shown in its slot at the end.
  pub gone_since : (g : GoesOnAt (shard_in cache key) old new)
      (t : IsTakenSince cache key old k g.more)
      → shown_at (world_at k.shard.table g.is.seat) k.slot ≢ Some t.entry
  gone_since g t shows =
      never_again (world_at k.shard.table k.seat.seat)
      (run_lawful (fits_seeded fits) (plan_of k.shard.table) shard_planned image
      (events_of (past k.seat.seat))) k.slot t.entry g.more t.taken
      (ap (λ w. shown_at w k.slot)
      (sym (ap (world_of (plan_of k.shard.table)) goes_on
      ∙ after_more (past k.seat.seat) g.more (begun_world (plan_of k.shard.table)))) ∙ shows)
    where
      was : g.was ≡ k.seat
      was = same_Some _ _ (sym g.seat_was ∙ k.seat_is)

      goes_on : past g.is.seat ≡ past k.seat.seat ++ g.more
      goes_on =
          subst (λ (q : ShardSeat (Seeded T)). past g.is.seat ≡ past q.seat ++ g.more) was g.goes_on

  -- What a slot lacked at a moment of a call was taken away.
  module _ (is : ShardSeat (Seeded T))
      (seat_is : slice_get new.seats.items (shard_in cache key) ≡ Some is)
      (lacked : LacksWithin k.shard.table k.seat.seat is.seat (key_to cache.seed key) k.slot) where
    abbrev more : List Done
    more = lacked.since ++ lacked.within.later

    abbrev goes : GoesOnAt (shard_in cache key) old new
    goes = record {
      was = k.seat;
      is = is;
      seat_was = k.seat_is;
      seat_is = seat_is;
      more = more;
      goes_on =
          lacked.within.goes_on
          ∙ append_assoc (past k.seat.seat) lacked.since lacked.within.later;
    }

    shown : (entry : Entry)
        × (shown_at (world_at k.shard.table k.seat.seat) k.slot ≡ Some entry)
        × (key_of entry ≡ key_to cache.seed key)
    shown = some_and (shown_at (world_at k.shard.table k.seat.seat) k.slot) _ k.shows

    taken : IsTakenSince cache key old k more
    taken =
        elim (stays_shown (plan_of k.shard.table) (fits_seeded fits) shard_planned image
        (past k.seat.seat) lacked.since k.slot shown.0 shown.1) [
          | inl left ↦
              absurd (lacked.holds
              (subst (λ o. IsSomeAnd o (λ e. key_of e ≡ key_to cache.seed key)) (sym left)
              shown.2))
          | inr took ↦ record {
            entry = shown.0;
            asked = shown.2;
            taken = taken_more lacked.since lacked.within.later took;
          }
        ]

    pub lacked_between : IsTakenBetween cache key old new k
    lacked_between = record { goes = goes; since = taken; gone = gone_since goes taken }

  -- So it is of a slot of the shard where a call worked, as its clauses tell it.
  module _ (knows : Knows cache old) (shard : Shard (Seeded T) Global)
      (was is : ShardSeat (Seeded T))
      (shard_is : slice_get cache.shards.items (shard_in cache key) ≡ Some shard)
      (seat_was : slice_get old.seats.items (shard_in cache key) ≡ Some was)
      (seat_is : slice_get new.seats.items (shard_in cache key) ≡ Some is)
      (lacks : (slot : ℕ) → slot < slots_of shard.table
      → LacksWithin shard.table was.seat is.seat (key_to cache.seed key) slot) where
    pub lacking_taken : IsTakenBetween cache key old new k
    lacking_taken =
        lacked_between is seat_is
        (subst (λ (z : Shard (Seeded T) Global).
        LacksWithin z.table k.seat.seat is.seat (key_to cache.seed key) k.slot) here
        (subst (λ (q : ShardSeat (Seeded T)).
        LacksWithin shard.table q.seat is.seat (key_to cache.seed key) k.slot) sits
        (lacks k.slot (subst (λ n. k.slot < n) (sym sized) k.within))))
      where
        here : shard ≡ k.shard
        here = same_Some _ _ (sym shard_is ∙ k.shard_is)

        sits : was ≡ k.seat
        sits = same_Some _ _ (sym seat_was ∙ k.seat_is)

        sized : slots_of shard.table ≡ cache.geometry.slots
        sized =
            ap (λ (x : Geometry). x.slots)
            (knows.alike.plans (shard_in cache key) shard shard_is).0

-- two lists that go on from one are the same
pub same_rest : {X : Type 0} (xs ys zs : List X) → xs ++ ys ≡ xs ++ zs → ys ≡ zs
same_rest [] ys zs same = same
same_rest (x ∷ xs) ys zs same = let rest : xs ++ ys ≡ xs ++ zs = cc in same_rest xs ys zs rest

-- what none of some events does neither a front of them does nor the next one
none_before : (q : Event → Bool) (before : List Done) (done : Done) (rest : List Done)
    → list_any q (events_of (before ++ done ∷ rest)) ≡ false
    → (list_any q (events_of before) ≡ false) × (q done.event ≡ false)
none_before q [] done rest none = (refl, (or_parts (q done.event) _ none).0)
none_before q (d ∷ ds) done rest none =
    let parts = or_parts (q d.event) _ none in
    let later = none_before q ds done rest parts.1 in
    (or_from (q d.event) _ parts.0 later.0, later.1)

-- What somebody held through these events was hidden.
module _ {T : Type 0} (fits : T → Key → List ℕ → Type 0) (cache : Cache T)
    (began : BeganEachWithin cache fits) (key : Key) (old new : Client T)
    (k : KnowsShown cache key old) where
  module _ (more : List Done) (t : IsTakenSince cache key old k more)
      (held : IsHeldThrough cache key old k more) where
    abbrev took : IsTakenAway k.slot t.entry (world_at k.shard.table k.seat.seat) more
    took = t.taken

    abbrev at : State
    at = after_all (world_at k.shard.table k.seat.seat) (events_of took.before)

    first : Lawful (world_at k.shard.table k.seat.seat)
    first =
        run_lawful (fits_seeded fits) (plan_of k.shard.table)
        (planned (fits_seeded fits) k.shard.table (began (shard_in cache key) k.shard k.shard_is))
        (began (shard_in cache key) k.shard k.shard_is) (events_of (past k.seat.seat))

    -- the holder held it behind the event that took it away
    held_then : held_at (after at took.done.event) held.holder held.name k.slot ≡ Some held.entry
    held_then =
        let none = none_before (takes_away held.holder held.name) took.before took.done took.rest
        (subst (λ ds. list_any (takes_away held.holder held.name) (events_of ds) ≡ false) took.is
        held.kept) in
        stands_all (took.done.event ∷ []) held.holder held.name k.slot held.entry
        (lawful_all (events_of took.before) (world_at k.shard.table k.seat.seat) first)
        (or_from (takes_away held.holder held.name took.done.event) false none.1 refl)
        (stands_all (events_of took.before) held.holder held.name k.slot held.entry first none.0
        held.there)

    by : (event : Event) → TakesShown k.slot at event → shown_at (after at event) k.slot ≡ None
        → held_at (after at event) held.holder held.name k.slot ≡ Some held.entry
        → is_hide event ≡ true
    by (events.Hide client name) takes gone there = refl
    by (events.Free client freed name) takes gone there =
        let bare = freed_bare at k.slot t.entry took.shown client freed name takes gone held.holder
        held.name in
        let bad : None ≡ Some held.entry = sym bare ∙ there in
        cc
    by other takes gone there = absurd takes

    pub held_hidden : is_hide took.done.event ≡ true
    held_hidden = by took.done.event took.takes took.gone held_then

  -- So it is of what another client took until a call ended.
  pub hidden_by_other : (t : IsTakenByOther cache key old new k)
      (g : GoesOnAt (shard_in cache key) old new) → IsHeldThrough cache key old k g.more
      → IsHiddenByOther cache key old new k
  hidden_by_other t g held = record {
    taken = t;
    hid = held_hidden t.goes.more t.since (subst (IsHeldThrough cache key old k) same held);
  }
    where
      was : g.was ≡ t.goes.was
      was = same_Some _ _ (sym g.seat_was ∙ t.goes.seat_was)

      is : g.is ≡ t.goes.is
      is = same_Some _ _ (sym g.seat_is ∙ t.goes.seat_is)

      same : g.more ≡ t.goes.more
      same =
          same_rest (past_of g.was) g.more t.goes.more
          (sym g.goes_on ∙ ap past_of is ∙ t.goes.goes_on
          ∙ ap (λ (q : ShardSeat (Seeded T)). past_of q ++ t.goes.more) (sym was))
