-- A release that doesn't ask to erase takes nothing away that a shard of one client shows.
use Rattle.std.proofs.Common.{◌≡◌, ◌⊎◌, inl, inr, ℕ, ◌+◌, ◌*◌, ◌-◌, ◌/◌, ◌%◌, ◌^◌, ◌≤◌, ◌==◌, ◌&&◌, Bool, true, false, Option, Some, None, Ok, sym, refl, ap, ◌∙◌, arith, subst}
use Rattle.std.specs.Prelude.{IsSomeAnd, option_and_then, if◌then◌else◌}
use Rattle.std.specs.Option.{ok_or}
use Rattle.std.proofs.lemmas.Bool.{and_parts, cases_eq, eqb-true}
use Rattle.hcc_word.specs.declared.layout.TheConstants.{VISIBLE}
use Rattle.hcc_word.specs.Word.{acquires_of, is_empty, is_shareable, is_visible, refs_of, releases_of, state_of}
use Rattle.hcc_core.specs.declared.client.Client.{Client}
use Rattle.hcc_core.specs.declared.event.CoreError.TheVariants.{NotAllowed}
use Rattle.hcc_core.specs.declared.event.Event.TheVariants as events
use Rattle.hcc_core.specs.declared.event.Phase.{Phase}
use Rattle.hcc_core.specs.declared.event.Phase.TheVariants as phases
use Rattle.hcc_core.specs.declared.event.Reply.{Reply}
use Rattle.hcc_core.specs.declared.event.Reply.TheVariants as replies
use Rattle.hcc_core.specs.declared.slot.Entry.{Entry}
use Rattle.hcc_core.specs.declared.slot.Reference.{Reference}
use Rattle.hcc_core.specs.declared.slot.Slot.{Slot}
use Rattle.hcc_core.specs.declared.slot.Slot.TheVariants as slots
use Rattle.hcc_core.specs.Outcomes.{◌>>=◌, Outcome, holding, live_at, slot_at}
use Rattle.hcc_core.specs.References.{counting_in, give_of, left_on, slot_given, slot_used, use_of}
use Rattle.hcc_core.specs.Runs.{FindsOne, held_at}
use Rattle.hcc_core.specs.Steps.{outcome_of}
use Rattle.hcc_core.specs.World.{State, phase_if, phase_of, references_of}
use Rattle.hcc_core.proofs.Keeps.{found_ok}
use Rattle.hcc_rule.specs.declared.table.RuleTable.{RuleTable}
use Rattle.hcc_rule.specs.declared.view.Record.{Record}
use Rattle.hcc_rule.specs.Acts.{events_of, past}
use Rattle.hcc_rule.specs.Callers.{IsEvent, clients_of, plan_of, world_at}
use Rattle.hcc_rule.specs.Events.{phase_in}
use Rattle.hcc_rule.specs.Records.{record_in}
use Rattle.hcc_rule.specs.Seats.{SeatOf, view}
use Rattle.hcc_rule.proofs.Seats.Runs.{run_finds}
use Rattle.hcc_table.specs.Freed.{IsLeftBy, is_due, left_of, release_done}
use Rattle.hcc_table.specs.Standing.{entry_shown, shown_at}
use Rattle.hcc_table.specs.Still.{ReleasesBy}
use Rattle.hcc_table.proofs.Alone.{event_alone}
use Rattle.hcc_table.proofs.Shown.{bound, ruled, same_outcome}

-- what a slot shows it shows without the reference that was given or used
given_shows : (client name : ℕ) (seen : Slot)
    → entry_shown (slot_given client name seen) ≡ entry_shown seen
given_shows client name (slots.Empty strays) = refl
given_shows client name (slots.Building other strays) = refl
given_shows client name (slots.Shareable r) = refl

used_shows : (client name : ℕ) (k : Reference) (seen : Slot)
    → entry_shown (slot_used client name k seen) ≡ entry_shown seen
used_shows client name k (slots.Empty strays) = refl
used_shows client name k (slots.Building other strays) = refl
used_shows client name k (slots.Shareable r) = refl

-- a word is that of a visible entry where its slot's phase is told as Shown
seen_phase : (word : ℕ) → phase_in word ≡ phases.Shown → is_visible word ≡ true
seen_phase word is = by (is_empty word) (is_shareable word) (is_visible word) is
  where
    by : (a b c : Bool)
        → (if a then phases.Empty else if b then phase_if c else phases.Building) ≡ phases.Shown
        → c ≡ true
    by true b c is = cc
    by false true true is = refl
    by false true false is = cc
    by false false c is = cc

seen_state : (word : ℕ) → is_visible word ≡ true → state_of word ≡ 7
seen_state word is = eqb-true (state_of word) VISIBLE is

-- such a word with a reference has one less once that is given back, and is visible still
given_state : (found : ℕ) → state_of found ≡ 7 → 1 ≤ refs_of found
    → state_of ((found + (2 ^ 64 - 1)) % 2 ^ 64) ≡ 7
unfolding state_of refs_of acquires_of releases_of
given_state found is some = omega arith

-- once that is a use, it is visible still, or no word of an entry
used_state : (found : ℕ) → state_of found ≡ 7
    → (state_of ((found + 1 * 2 ^ 30) % 2 ^ 64) ≡ 7)
    ⊎ (state_of ((found + 1 * 2 ^ 30) % 2 ^ 64) ≡ 0)
unfolding state_of
used_state found is = by (cases_eq (found / 2 ^ 30) (2 ^ 34 - 1))
  where
    by : (found / 2 ^ 30 ≡ 2 ^ 34 - 1) ⊎ ¬ (found / 2 ^ 30 ≡ 2 ^ 34 - 1)
        → (((found + 1 * 2 ^ 30) % 2 ^ 64 / 2 ^ 61) ≡ 7)
        ⊎ (((found + 1 * 2 ^ 30) % 2 ^ 64 / 2 ^ 61) ≡ 0)
    by (inl last) = inr (omega arith)
    by (inr less) = inl (omega arith)

-- so nobody who doesn't ask to erase tries to take the entry
due_not : (left : ℕ) → (state_of left ≡ 7) ⊎ (state_of left ≡ 0) → is_due false left ≡ false
due_not left (inl seen) = rw seen (no (refs_of left == 0))
  where
    no : (b : Bool) → (b && false) ≡ false
    no true = refl
    no false = refl
due_not left (inr none) = rw none refl

left_kept : (used : Bool) (found : ℕ) → is_visible found ≡ true → 1 ≤ refs_of found
    → is_due false (left_of used 1 found) ≡ false
left_kept true found seen some =
    due_not (left_of true 1 found) (used_state found (seen_state found seen))
left_kept false found seen some =
    due_not (left_of false 1 found) (inl (given_state found (seen_state found seen) some))

-- a slot that shows an entry is Shown
shown_phase : (seen : Slot) {entry : Entry} → entry_shown seen ≡ Some entry
    → phase_of seen ≡ phases.Shown
shown_phase (slots.Empty strays) is = cc
shown_phase (slots.Building other strays) is = cc
shown_phase (slots.Shareable r) {entry} is = by r.shown is
  where
    by : (b : Bool) → (if b then Some r.entry else None) ≡ Some entry
        → phase_if b ≡ phases.Shown
    by true is = refl
    by false is = cc

same_left : {m n : ℕ} {p q : Phase} → replies.Left m p ≡ replies.Left n q → p ≡ q
same_left h = cc

-- what is told where the slot that is left shows an entry
left_told : {entry : Entry} {left : ℕ} {phase : Phase} {next : State} (seen : Slot) {v : State}
    → entry_shown seen ≡ Some entry
    → ◌≡◌ {A = Outcome} (Ok (left_on seen, v)) (Ok (replies.Left left phase, next))
    → phase ≡ phases.Shown
left_told {entry = entry} {left = left} {phase = phase} seen shows is =
    sym (same_left (ap (λ z. z.0) (same_outcome _ _ is)))
    ∙ shown_phase seen shows

module _ {w : State} {held entry : Entry} (client name slot : ℕ) (one : FindsOne w)
    (stands : held_at w client name slot ≡ Some held) (shown : shown_at w slot ≡ Some entry) where
  -- what an event finds on the slot that the name is found on
  on_slot : {f : Client → ℕ → Slot → Outcome} {z : Reply × State}
      → (live_at w client >>= λ found. holding w client name >>= λ there.
      slot_at w there >>= λ seen. f found there seen) ≡ Ok z
      → (found : Client) × (there : ℕ) × (seen : Slot) × (entry_shown seen ≡ Some entry)
      × (f found there seen ≡ Ok z)
  on_slot is =
      let first = bound (live_at w client) _ _ is in
      let second = bound (holding w client name) _ _ first.2 in
      let third = bound (slot_at w second.0) _ _ second.2 in
      let same : Some second.0 ≡ Some slot =
      sym (found_ok _ _ second.0 second.1) ∙ one.found client name slot held stands in
      let here : second.0 ≡ slot = cc in (
        first.0,
        second.0,
        third.0,
        sym (ap (option_and_then entry_shown) (found_ok _ _ third.0 third.1))
            ∙ ap (shown_at w) here ∙ shown,
        third.2,
      )

  -- What a give tells of an entry that is shown,
  give_shown : {left : ℕ} {phase : Phase} {next : State}
      → outcome_of w (events.Give client name) ≡ Ok (replies.Left left phase, next)
      → phase ≡ phases.Shown
  unfolding give_of
  give_shown is =
      let at = on_slot (ruled w (events.Give client name) _ is) in
      left_told (slot_given client name at.2) (given_shows client name at.2 ∙ at.3) at.4

  -- and what a use does.
  use_shown : {left : ℕ} {phase : Phase} {next : State}
      → outcome_of w (events.Use client name) ≡ Ok (replies.Left left phase, next)
      → phase ≡ phases.Shown
  unfolding use_of
  use_shown is =
      let at = on_slot (ruled w (events.Use client name) _ is) in
      let more = bound (ok_or (counting_in client name (references_of at.2)) NotAllowed) _ _ at.4 in
      left_told (slot_used client name more.0 at.2) (used_shows client name more.0 at.2 ∙ at.3)
      more.2

module _ {T A : Type 0} (table : RuleTable T A) (one : clients_of table ≡ 1) where
  -- A reference on an entry that is shown was given back: nobody who doesn't ask to erase takes it.
  left_shown : (slot name : ℕ) {left : ℕ} (used : Bool) {entry : Entry} (a b : SeatOf T)
      → IsLeftBy table slot 1 name used left a b → shown_at (world_at table a) slot ≡ Some entry
      → is_due false left ≡ false
  left_shown slot name used a b h shown =
      rw h.1 (left_kept used h.0 (seen_phase h.0 (by used h.2)) h.3)
    where
      held : (e : Entry)
          × (held_at (world_at table a) (view a).client name slot ≡ Some e)
      held = on (record_in name (view a).records) refl h.4
        where
          on : (o : Option Record) → record_in name (view a).records ≡ o
              → IsSomeAnd o (λ r. r.slot ≡ slot)
              → (e : Entry)
              × (held_at (world_at table a) (view a).client name slot ≡ Some e)
          on None is none = absurd none
          on (Some r) is at = (
            r.entry,
            subst (λ s. held_at (world_at table a) (view a).client name s ≡ Some r.entry) at
                (h.2.0.stood one name r is),
          )

      finds : FindsOne (world_at table a)
      finds = run_finds (plan_of table) (events_of (past a))

      by : (used : Bool) → IsEvent table (release_done used 1 name h.0 (view a)) a b
          → phase_in h.0 ≡ phases.Shown
      by true event =
          use_shown (view a).client name slot finds held.1 shown (event_alone table one _ a b event)
      by false event =
          give_shown (view a).client name slot finds held.1 shown
          (event_alone table one _ a b event)

  -- A release that doesn't ask to erase, and that freed an entry: its slot showed nothing.
  pub unerased_hidden : (slot name charge : ℕ) (room used : Bool) (a b : SeatOf T)
      → ReleasesBy table slot name room used false (Some charge) a b
      → shown_at (world_at table a) slot ≡ None
  unerased_hidden slot name charge room used a b h = by (shown_at (world_at table a) slot) refl
    where
      by : (o : Option Entry) → shown_at (world_at table a) slot ≡ o → o ≡ None
      by None is = refl
      by (Some entry) is =
          let kept = left_shown slot name used a h.between h.gives is in
          let due = (and_parts room _ h.due).1 in
          absurd (cc)
