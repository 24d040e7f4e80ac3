-- What was taken away from a slot it never shows again; and what somebody held was hidden.
use Rattle.std.proofs.Common.{◌≡◌, ◌≢◌, ◌⊎◌, inl, inr, ℕ, ◌<◌, Bool, true, false, cond, List, [], ◌∷◌, Option, Some, None, Result, Ok, Err, slice_get, refl, sym, ap, subst, ◌∙◌, arith}
use Rattle.std.specs.Prelude.{option_and_then}
use Rattle.std.proofs.lemmas.Bool.{cases_eq}
use Rattle.std.proofs.lemmas.Option.{same_Some}
use Rattle.hcc_core.specs.declared.event.CoreError.{CoreError}
use Rattle.hcc_core.specs.declared.event.CoreError.TheVariants.{NotAllowed}
use Rattle.hcc_core.specs.declared.event.Event.{Event}
use Rattle.hcc_core.specs.declared.event.Event.TheVariants as events
use Rattle.hcc_core.specs.declared.slot.Entry.{Entry}
use Rattle.hcc_core.specs.declared.slot.Slot.{Slot}
use Rattle.hcc_core.specs.declared.slot.Slot.TheVariants as slots
use Rattle.hcc_core.specs.Entries.{free_of, hide_of, may_free, slot_hidden}
use Rattle.hcc_core.specs.Lawful.{Lawful, owned_by, owner_in, stamp_in, stamps_by}
use Rattle.hcc_core.specs.Outcomes.{◌>>=◌, Outcome, allow, holding, live_at, slot_at}
use Rattle.hcc_core.specs.Runs.{after, after_all, entry_at, entry_held, entry_of, held_at, world_after}
use Rattle.hcc_core.specs.Shown.{entry_shown, shown_at}
use Rattle.hcc_core.specs.Steps.{in_range, outcome_of, rule_of}
use Rattle.hcc_core.specs.World.{State, slot_holding}
use Rattle.hcc_core.proofs.EveryRun.{lawful_after, lawful_all}
use Rattle.hcc_core.proofs.Keeps.{found_ok}
use Rattle.hcc_core.proofs.ListLemmas.{read_here}
use Rattle.hcc_core.proofs.Shows.{Added, outcome_adds, slot_changed}
use Rattle.hcc_core.proofs.StaysShown.{after_shows}
use Rattle.hcc_rule.specs.declared.view.Done.{Done}
use Rattle.hcc_rule.specs.Acts.{events_of}
use Rattle.hcc_rule.specs.Shown.{IsTakenAway}
use Rattle.hcc_rule.proofs.Seats.Histories.{after_more}
use Rattle.hcc_cache.proofs.Searches.FoundAsMade.{entry_there}

-- Entries that were made.

-- the stamp of an entry is below its maker's count: it was made
abbrev IsOld : State → Entry → Type 0
IsOld w entry = entry.stamp.number < stamps_by (slice_get w.clients entry.stamp.client)

-- so it is of one that is in a slot of a lawful world
shown_old : (w : State) → Lawful w → (slot : ℕ) (entry : Entry) → entry_at w slot ≡ Some entry
    → IsOld w entry
shown_old w l slot entry there =
    l.stamped.made slot entry.stamp (by (slice_get w.slots slot) there)
  where
    by : (o : Option Slot) → option_and_then entry_of o ≡ Some entry
        → stamp_in o ≡ Some entry.stamp
    by None is = cc
    by (Some (slots.Empty strays)) is = cc
    by (Some (slots.Building client strays)) is = cc
    by (Some (slots.Shareable r)) is = ap (λ (e : Entry). Some e.stamp) (same_Some _ _ is)

module _ (w : State) (event : Event) (entry : Entry) (old : IsOld w entry) where
  -- an event leaves that so,
  still_old : IsOld (after w event) entry
  still_old = by (outcome_of w event) (outcome_adds w event)
    where
      by : (outcome : Outcome) → Added w event outcome → IsOld (world_after w outcome) entry
      by (Ok done) a = let grew = a.counts entry.stamp.client in omega arith
      by (Err error) a = old

  -- and puts such an entry into no slot
  not_new : (slot : ℕ) → entry_at (after w event) slot ≡ Some entry → entry_at w slot ≡ Some entry
  not_new slot = by (outcome_of w event) (outcome_adds w event)
    where
      by : (outcome : Outcome) → Added w event outcome
          → entry_at (world_after w outcome) slot ≡ Some entry → entry_at w slot ≡ Some entry
      by (Ok done) a there = elim (a.entries slot entry there) [
        | inl was ↦ was
        | inr new ↦ let next = new.next in absurd (omega arith)
      ]
      by (Err error) a there = there

-- What a hide and a free leave of their slot.

module _ (slot : ℕ) where
  -- it shows nothing
  abbrev Unshows : Outcome → Type 0
  Unshows (Ok done) = shown_at done.1 slot ≡ None
  Unshows (Err error) = Unit {0}

  -- nobody holds anything there
  abbrev Bares : Outcome → Type 0
  Bares (Ok done) = (client name : ℕ) → held_at done.1 client name slot ≡ None
  Bares (Err error) = Unit {0}

-- a reading on the way, and what it found
chain : (P : Outcome → Type 0) → ((error : CoreError) → P (Err error)) → {A : Type 0}
    (r : Result A CoreError) (f : A → Outcome) → ((x : A) → r ≡ Ok x → P (f x)) → P (r >>= f)
chain P none (Ok x) f h = h x refl
chain P none (Err e) f h = none e

-- an event whose rule does so
judged : (P : Outcome → Type 0) → ((error : CoreError) → P (Err error)) → (w : State)
    (event : Event) → P (rule_of w event) → P (outcome_of w event)
unfolding outcome_of
judged P none w event h = by (in_range event)
  where
    by : (b : Bool) → P (cond b (rule_of w event) (Err NotAllowed))
    by true = h
    by false = none NotAllowed

hidden_shows : (seen : Slot) → entry_shown (slot_hidden seen) ≡ None
hidden_shows (slots.Empty strays) = refl
hidden_shows (slots.Building client strays) = refl
hidden_shows (slots.Shareable r) = refl

module _ (w : State) (slot : ℕ) where
  hide_unshows : (client name : ℕ) → slot_holding w.slots client name ≡ Some slot
      → Unshows slot (hide_of w client name)
  unfolding hide_of
  hide_unshows client name holds =
      chain (Unshows slot) (λ e. tt) (live_at w client) _ (λ found live.
      chain (Unshows slot) (λ e. tt) (holding w client name) _ (λ there held.
      chain (Unshows slot) (λ e. tt) (slot_at w there) _ (λ seen at.
      let here : there ≡ slot = same_Some _ _ (sym (found_ok _ _ there held) ∙ holds) in
      let is : slice_get w.slots slot ≡ Some seen =
      ap (slice_get w.slots) (sym here) ∙ found_ok _ _ seen at in
      rw here (ap (option_and_then entry_shown)
      (read_here w.slots slot seen (slot_hidden seen) is) ∙ hidden_shows seen))))

  free_unshows : (client : ℕ) (name : Option ℕ) → Unshows slot (free_of w client slot name)
  unfolding free_of
  free_unshows client name =
      chain (Unshows slot) (λ e. tt) (slot_at w slot) _ (λ seen at.
      chain (Unshows slot) (λ e. tt) (live_at w client) _ (λ found live.
      chain (Unshows slot) (λ e. tt) (allow (may_free client found seen name)) _ (λ u may.
      ap (option_and_then entry_shown)
      (read_here w.slots slot seen (slots.Building client 0) (found_ok _ _ seen at)))))

  free_bares : (client : ℕ) (name : Option ℕ) → Bares slot (free_of w client slot name)
  unfolding free_of
  free_bares client name =
      chain (Bares slot) (λ e. tt) (slot_at w slot) _ (λ seen at.
      chain (Bares slot) (λ e. tt) (live_at w client) _ (λ found live.
      chain (Bares slot) (λ e. tt) (allow (may_free client found seen name)) _ (λ u may c n.
      subst (λ o. option_and_then (entry_held c n) o ≡ None)
      (sym (read_here w.slots slot seen (slots.Building client 0) (found_ok _ _ seen at)))
      (none_held c n client))))
    where
      none_held : (c n client : ℕ) → entry_held c n (slots.Building client 0) ≡ None
      none_held c n client = refl

-- Never again.

-- this is that slot, or another
is_changed : (o : Option ℕ) (slot : ℕ) → (o ≡ Some slot) ⊎ (¬ (o ≡ Some slot))
is_changed None slot = inr (λ is. cc)
is_changed (Some there) slot = elim (cases_eq there slot) [
  | inl here ↦ inl (ap Some here)
  | inr apart ↦ inr (λ is. apart (same_Some _ _ is))
]

-- a slot that has an owner has no entry
owner_bare : (o : Option Slot) (owner : ℕ) (entry : Entry) → owner_in o ≡ Some owner
    → option_and_then entry_of o ≢ Some entry
owner_bare None owner entry is there = cc
owner_bare (Some (slots.Empty strays)) owner entry is there = cc
owner_bare (Some (slots.Building client strays)) owner entry is there = cc
owner_bare (Some (slots.Shareable r)) owner entry is there = cc

module _ (w : State) (l : Lawful w) (slot : ℕ) (entry : Entry) where
  owned_bare : (client : ℕ) → owned_by (slice_get w.clients client) ≡ Some slot
      → entry_at w slot ≢ Some entry
  owned_bare client owns =
      owner_bare (slice_get w.slots slot) client entry (l.owners.owned slot client owns)

  module _ (old : IsOld w entry) (unshown : shown_at w slot ≢ Some entry) where
    unshown_after : (outcome : Outcome) → Unshows slot outcome
        → shown_at (world_after w outcome) slot ≢ Some entry
    unshown_after (Ok done) none shows = let bad : None ≡ Some entry = sym none ∙ shows in cc
    unshown_after (Err error) none shows = unshown shows

    -- an event that may change what the slot shows
    changed : (event : Event) → slot_changed w event ≡ Some slot → entry_at w slot ≡ Some entry
        → shown_at (after w event) slot ≢ Some entry
    changed (events.Show client key0 key1 charge countdown name value) is was =
        absurd (owned_bare client is was)
    changed (events.Hide client name) is was =
        unshown_after (outcome_of w (events.Hide client name))
        (judged (Unshows slot) (λ e. tt) w (events.Hide client name)
        (hide_unshows w slot client name is))
    changed (events.Free client freed name) is was =
        let here : freed ≡ slot = same_Some _ _ is in
        unshown_after (outcome_of w (events.Free client freed name))
        (judged (Unshows slot) (λ e. tt) w (events.Free client freed name)
        (subst (λ s. Unshows slot (free_of w client s name)) (sym here)
        (free_unshows w slot client name)))
    changed (events.Empty client) is was = absurd (owned_bare client is was)
    changed other is was = cc

    unshown_step : (event : Event) → shown_at (after w event) slot ≢ Some entry
    unshown_step event shows = elim (is_changed (slot_changed w event) slot) [
      | inl is ↦
          changed event is
          (not_new w event entry old slot
          (entry_there (slice_get (after w event).slots slot) entry shows)) shows
      | inr other ↦ unshown (sym (after_shows w event slot other) ∙ shows)
    ]

unshown_all : (more : List Done) (w : State) → Lawful w → (slot : ℕ) (entry : Entry)
    → IsOld w entry → shown_at w slot ≢ Some entry
    → shown_at (after_all w (events_of more)) slot ≢ Some entry
unshown_all [] w l slot entry old unshown = unshown
unshown_all (done ∷ more) w l slot entry old unshown =
    unshown_all more (after w done.event) (lawful_after w done.event l) slot entry
    (still_old w done.event entry old) (unshown_step w l slot entry old unshown done.event)

-- What was taken away from a slot of a lawful world isn't shown there behind all these events.
pub never_again : (w : State) → Lawful w → (slot : ℕ) (entry : Entry) (more : List Done)
    → IsTakenAway slot entry w more → shown_at (after_all w (events_of more)) slot ≢ Some entry
never_again w l slot entry more t shows =
    unshown_all t.rest (after at t.done.event) (lawful_after at t.done.event lawful) slot entry
    (still_old at t.done.event entry
    (shown_old at lawful slot entry (entry_there (slice_get at.slots slot) entry t.shown)))
    (λ again. let bad : None ≡ Some entry = sym t.gone ∙ again in cc)
    (sym (ap (λ z. shown_at z slot) last) ∙ shows)
  where
    at : State
    at = after_all w (events_of t.before)

    lawful : Lawful at
    lawful = lawful_all (events_of t.before) w l

    last : after_all w (events_of more) ≡ after_all (after at t.done.event) (events_of t.rest)
    last =
        ap (λ ds. after_all w (events_of ds)) t.is ∙ after_more t.before (t.done ∷ t.rest) w

-- Held.

-- a free that took an entry away left nothing that anybody could hold
pub freed_bare : (w : State) (slot : ℕ) (entry : Entry) → shown_at w slot ≡ Some entry
    → (client freed : ℕ) (name : Option ℕ) → freed ≡ slot
    → shown_at (after w (events.Free client freed name)) slot ≡ None
    → (c n : ℕ) → held_at (after w (events.Free client freed name)) c n slot ≡ None
freed_bare w slot entry shown client freed name here =
    by (outcome_of w (events.Free client freed name))
    (judged (Bares slot) (λ e. tt) w (events.Free client freed name)
    (subst (λ s. Bares slot (free_of w client s name)) (sym here) (free_bares w slot client name)))
  where
    by : (outcome : Outcome) → Bares slot outcome → shown_at (world_after w outcome) slot ≡ None
        → (c n : ℕ) → held_at (world_after w outcome) c n slot ≡ None
    by (Ok done) bares gone = bares
    by (Err error) bares gone = let bad : None ≡ Some entry = sym gone ∙ shown in cc
