-- What a slot shows it shows until a hide by a reference there, or a free of it.
use Rattle.std.proofs.Common.{◌≡◌, ◌⊎◌, inl, inr, ℕ, Bool, true, false, Option, Some, None, Result}
use Rattle.std.proofs.Common.{Ok, Err, slice_get, refl, sym, ap, ◌∙◌, cond}
use Rattle.std.specs.Prelude.{option_and_then}
use Rattle.std.proofs.lemmas.Bool.{cases_eq, false≢true}
use Rattle.hcc_core.specs.declared.slot.Entry.{Entry}
use Rattle.hcc_core.specs.declared.slot.Slot.{Slot}
use Rattle.hcc_core.specs.declared.slot.Slot.TheVariants as slots
use Rattle.hcc_core.specs.declared.event.CoreError.{CoreError}
use Rattle.hcc_core.specs.declared.event.CoreError.TheVariants.{NotAllowed}
use Rattle.hcc_core.specs.declared.event.Event.{Event}
use Rattle.hcc_core.specs.declared.event.Event.TheVariants as events
use Rattle.hcc_core.specs.declared.event.Reply.TheVariants as replies
use Rattle.hcc_core.specs.World.{State, charge_of}
use Rattle.hcc_core.specs.Outcomes.{Outcome, ◌>>=◌, allow, holding, live_at, slot_at}
use Rattle.hcc_core.specs.Entries.{free_of, hidden, hide_of, may_free, slot_hidden}
use Rattle.hcc_core.specs.Lawful.{Lawful, owned_by, owner_in}
use Rattle.hcc_core.specs.Runs.{after, entry_at, entry_of, is_show, world_after}
use Rattle.hcc_core.specs.Shown.{TakesShown, TellsTaken, changes_shown, entry_shown, shown_at}
use Rattle.hcc_core.specs.Steps.{in_range, outcome_of, rule_of}
use Rattle.hcc_core.proofs.ListLemmas.{read_here}
use Rattle.hcc_core.proofs.Keeps.{found_ok}
use Rattle.hcc_core.proofs.Moves.{KeepsFaces, face_of}
use Rattle.hcc_core.proofs.Shows.{Added, IsNew, outcome_adds, slot_changed}

-- Faces.

-- an event, refused or not, leaves the face of each slot but one
outcome_faces : (w : State) (event : Event) (outcome : Outcome) → Added w event outcome
    → KeepsFaces (slot_changed w event) w (world_after w outcome)
outcome_faces w event (Ok done) a = a.faces
outcome_faces w event (Err error) a = λ s other. refl

pub after_faces : (w : State) (event : Event) → KeepsFaces (slot_changed w event) w (after w event)
after_faces w event = outcome_faces w event (outcome_of w event) (outcome_adds w event)

-- what a slot shows is in its face
abbrev pub if_shown : Entry × Bool → Option Entry
if_shown face = cond face.1 (Some face.0) None

pub face_shows : (o : Option Slot)
    → option_and_then entry_shown o ≡ option_and_then if_shown (option_and_then face_of o)
face_shows None = refl
face_shows (Some (slots.Empty strays)) = refl
face_shows (Some (slots.Building client strays)) = refl
face_shows (Some (slots.Shareable r)) = refl

-- so an event leaves what each slot shows but that one
pub after_shows : (w : State) (event : Event) (slot : ℕ) → ¬ (slot_changed w event ≡ Some slot)
    → shown_at (after w event) slot ≡ shown_at w slot
after_shows w event slot other =
    face_shows (slice_get (after w event).slots slot)
    ∙ ap (option_and_then if_shown) (after_faces w event slot other)
    ∙ sym (face_shows (slice_get w.slots slot))

-- that one is this slot, or isn't
is_changed : (o : Option ℕ) (slot : ℕ) → (o ≡ Some slot) ⊎ (¬ (o ≡ Some slot))
is_changed None slot = inr (λ is. cc)
is_changed (Some there) slot = elim (cases_eq there slot) [
  | inl here ↦ inl (ap Some here)
  | inr apart ↦ inr (λ is. apart (let same : there ≡ slot = cc in same))
]

-- a slot that has an owner has no entry
owner_bare : (o : Option Slot) (owner : ℕ) → owner_in o ≡ Some owner
    → option_and_then entry_of o ≡ None
owner_bare None owner is = refl
owner_bare (Some (slots.Empty strays)) owner is = refl
owner_bare (Some (slots.Building client strays)) owner is = refl
owner_bare (Some (slots.Shareable r)) owner is = cc

-- so it is of a slot that a client of a lawful world owns
owned_bare : {w : State} (l : Lawful w) (slot client : ℕ)
    → owned_by (slice_get w.clients client) ≡ Some slot → (entry : Entry)
    → ¬ (entry_at w slot ≡ Some entry)
owned_bare {w} l slot client owns entry there =
    let bare = owner_bare (slice_get w.slots slot) client (l.owners.owned slot client owns) in
    let bad : None ≡ Some entry = sym bare ∙ there in
    cc

-- a slot without an entry shows none
bare_shows : (o : Option Slot) → ((entry : Entry) → ¬ (option_and_then entry_of o ≡ Some entry))
    → option_and_then entry_shown o ≡ None
bare_shows None bare = refl
bare_shows (Some (slots.Empty strays)) bare = refl
bare_shows (Some (slots.Building client strays)) bare = refl
bare_shows (Some (slots.Shareable r)) bare = absurd (bare r.entry refl)

-- and what shows one has it
shown_entry : (o : Option Slot) (entry : Entry) → option_and_then entry_shown o ≡ Some entry
    → option_and_then entry_of o ≡ Some entry
shown_entry None entry is = cc
shown_entry (Some (slots.Empty strays)) entry is = cc
shown_entry (Some (slots.Building client strays)) entry is = cc
shown_entry (Some (slots.Shareable r)) entry is = by r.shown is
  where
    by : (b : Bool) → cond b (Some r.entry) None ≡ Some entry → Some r.entry ≡ Some entry
    by true h = h
    by false h = cc

-- What takes away.

-- the world after shows nothing in the slot, and the reply says so, where the step is made
abbrev pub Took : (slot : ℕ) → Event → Outcome → Type 0
Took slot event (Ok done) = (shown_at done.1 slot ≡ None) × TellsTaken event done.0
Took slot event (Err error) = Unit {0}

-- a reading on the way, and what it found
chain : (slot : ℕ) (event : Event) {A : Type 0} (r : Result A CoreError) (f : A → Outcome)
    → ((x : A) → r ≡ Ok x → Took slot event (f x)) → Took slot event (r >>= f)
chain slot event (Ok x) f h = h x refl
chain slot event (Err e) f h = tt

hidden_shows : (seen : Slot) → entry_shown (slot_hidden seen) ≡ None
hidden_shows (slots.Empty strays) = refl
hidden_shows (slots.Building client strays) = refl
hidden_shows (slots.Shareable r) = refl

-- a hide of what is shown answers so
hidden_hid : (seen : Slot) (entry : Entry) → entry_shown seen ≡ Some entry
    → hidden seen ≡ replies.Hid
hidden_hid (slots.Empty strays) entry is = cc
hidden_hid (slots.Building client strays) entry is = cc
hidden_hid (slots.Shareable r) entry is = by r.shown is
  where
    by : (b : Bool) → cond b (Some r.entry) None ≡ Some entry
        → cond b replies.Hid replies.Again ≡ replies.Hid
    by true h = refl
    by false h = cc

module _ (w : State) (slot : ℕ) (entry : Entry) (shown : shown_at w slot ≡ Some entry) where
  hide_took : (client name : ℕ) → TakesShown slot w (events.Hide client name)
      → Took slot (events.Hide client name) (hide_of w client name)
  unfolding hide_of
  hide_took client name takes =
      chain slot (events.Hide client name) (live_at w client) _ (λ found live.
      chain slot (events.Hide client name) (holding w client name) _ (λ there held.
      chain slot (events.Hide client name) (slot_at w there) _ (λ seen at.
      let same : Some there ≡ Some slot = sym (found_ok _ _ there held) ∙ takes in
      let here : there ≡ slot = cc in
      let is : slice_get w.slots slot ≡ Some seen =
      ap (slice_get w.slots) (sym here) ∙ found_ok _ _ seen at in (
        rw here (ap (option_and_then entry_shown)
            (read_here w.slots slot seen (slot_hidden seen) is) ∙ hidden_shows seen),
        hidden_hid seen entry (ap (option_and_then entry_shown) (sym is) ∙ shown),
      ))))

  free_took : (client : ℕ) (name : Option ℕ)
      → Took slot (events.Free client slot name) (free_of w client slot name)
  unfolding free_of
  free_took client name =
      chain slot (events.Free client slot name) (slot_at w slot) _ (λ seen at.
      chain slot (events.Free client slot name) (live_at w client) _ (λ found live.
      chain slot (events.Free client slot name) (allow (may_free client found seen name)) _
      (λ u may. (
        ap (option_and_then entry_shown)
            (read_here w.slots slot seen (slots.Building client 0) (found_ok _ _ seen at)),
        (charge_of seen, refl),
      ))))

  rule_took : (event : Event) → TakesShown slot w event → Took slot event (rule_of w event)
  rule_took (events.Hide client name) takes = hide_took client name takes
  rule_took (events.Free client freed name) takes = rw takes (free_took client name)
  rule_took other takes = absurd takes

  -- what takes away what the slot shows leaves nothing shown there, and answers so
  pub outcome_took : (event : Event) → TakesShown slot w event
      → Took slot event (outcome_of w event)
  unfolding outcome_of
  outcome_took event takes = by (in_range event) (rule_took event takes)
    where
      by : (b : Bool) → Took slot event (rule_of w event)
          → Took slot event (cond b (rule_of w event) (Err NotAllowed))
      by true h = h
      by false h = tt

  module _ (l : Lawful w) where
    -- no client owns the slot
    unowned : (client : ℕ) → ¬ (owned_by (slice_get w.clients client) ≡ Some slot)
    unowned client owns =
        owned_bare l slot client owns entry (shown_entry (slice_get w.slots slot) entry shown)

    -- what may change its face takes away what it shows
    change_takes : (event : Event) → slot_changed w event ≡ Some slot → TakesShown slot w event
    change_takes (events.Show client key0 key1 charge countdown name value) is =
        absurd (unowned client is)
    change_takes (events.Hide client name) is = is
    change_takes (events.Free client freed name) is = cc
    change_takes (events.Empty client) is = absurd (unowned client is)
    change_takes other is = cc

    -- An event leaves what is shown, or takes it away.
    pub step_shows : (event : Event) → (shown_at (after w event) slot ≡ Some entry)
        ⊎ (TakesShown slot w event × (shown_at (after w event) slot ≡ None))
    step_shows event = elim (is_changed (slot_changed w event) slot) [
      | inl is ↦
          let takes = change_takes event is in
          taken takes (outcome_of w event) (outcome_took event takes)
      | inr other ↦ inl (after_shows w event slot other ∙ shown)
    ]
      where
        taken : TakesShown slot w event → (outcome : Outcome) → Took slot event outcome
            → (shown_at (world_after w outcome) slot ≡ Some entry)
            ⊎ (TakesShown slot w event × (shown_at (world_after w outcome) slot ≡ None))
        taken takes (Ok done) took = inr (takes, took.0)
        taken takes (Err error) took = inl shown

-- What neither shows, hides nor frees.

quiet_new : (client : ℕ) (event : Event) → changes_shown event ≡ false
    → is_show client event ≡ false
quiet_new client (events.Show maker key0 key1 charge countdown name value) quiet = cc
quiet_new client other quiet = refl

module _ (w : State) (l : Lawful w) (slot : ℕ) where
  -- an owner's slot has no entry after an event that shows none
  still_bare : (client : ℕ) → owned_by (slice_get w.clients client) ≡ Some slot → (event : Event)
      → changes_shown event ≡ false → (entry : Entry)
      → ¬ (entry_at (after w event) slot ≡ Some entry)
  still_bare client owns event quiet entry there =
      elim (by (outcome_of w event) (outcome_adds w event) there) [
        | inl was ↦ owned_bare l slot client owns entry was
        | inr new ↦ false≢true (sym (quiet_new entry.stamp.client event quiet) ∙ new.shown)
      ]
    where
      by : (outcome : Outcome) → Added w event outcome
          → entry_at (world_after w outcome) slot ≡ Some entry
          → (entry_at w slot ≡ Some entry) ⊎ IsNew w event entry
      by (Ok done) a there = a.entries slot entry there
      by (Err error) a there = inl there

  -- An event that neither shows, hides nor frees leaves what each slot shows.
  pub quiet_shows : (event : Event) → changes_shown event ≡ false
      → shown_at (after w event) slot ≡ shown_at w slot
  quiet_shows event quiet = elim (is_changed (slot_changed w event) slot) [
    | inl is ↦
        let owner = change_owned event quiet is in
        bare_shows (slice_get (after w event).slots slot)
        (still_bare owner.0 owner.1 event quiet)
        ∙ sym (bare_shows (slice_get w.slots slot) (owned_bare l slot owner.0 owner.1))
    | inr other ↦ after_shows w event slot other
  ]
    where
      change_owned : (e : Event) → changes_shown e ≡ false → slot_changed w e ≡ Some slot
          → (client : ℕ) × (owned_by (slice_get w.clients client) ≡ Some slot)
      change_owned (events.Show client key0 key1 charge countdown name value) still is = cc
      change_owned (events.Hide client name) still is = cc
      change_owned (events.Free client freed name) still is = cc
      change_owned (events.Empty client) still is = (client, is)
      change_owned other still is = cc
