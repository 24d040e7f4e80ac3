-- What the events of a search tell of what the world shows: they change nothing of it.
use Rattle.std.proofs.Common.{◌≡◌, ℕ, ◌%◌, ◌<◌, ◌≤◌, Bool, true, false, List, [], ◌∷◌, Option, Some, None, Result, Ok, Err, length, slice_get, sym, refl, ap, ◌∙◌, arith}
use Rattle.std.specs.Prelude.{option_and_then, if◌then◌else◌}
use Rattle.std.proofs.lemmas.Bool.{lt-ltb}
use Rattle.std.proofs.lemmas.Option.{same_Some}
use Rattle.hcc_word.specs.Word.{is_empty, is_shareable, is_visible}
use Rattle.hcc_core.specs.declared.event.CoreError.{CoreError}
use Rattle.hcc_core.specs.declared.event.CoreError.TheVariants.{NotAllowed}
use Rattle.hcc_core.specs.declared.event.Event.{Event}
use Rattle.hcc_core.specs.declared.event.Event.TheVariants as events
use Rattle.hcc_core.specs.declared.event.Phase.{Phase}
use Rattle.hcc_core.specs.declared.event.Phase.TheVariants as phases
use Rattle.hcc_core.specs.declared.event.Reply.{Reply}
use Rattle.hcc_core.specs.declared.event.Reply.TheVariants as replies
use Rattle.hcc_core.specs.declared.limits.TheConstants.{MOST_SLOTS}
use Rattle.hcc_core.specs.declared.slot.Entry.{Entry}
use Rattle.hcc_core.specs.declared.slot.Slot.{Slot}
use Rattle.hcc_core.specs.declared.slot.Slot.TheVariants as slots
use Rattle.hcc_core.specs.declared.slot.Stamp.{Stamp}
use Rattle.hcc_core.specs.Entries.{peek_of}
use Rattle.hcc_core.specs.Lawful.{shown_stamp}
use Rattle.hcc_core.specs.Outcomes.{◌>>=◌, Outcome, allow, live_at, slot_at}
use Rattle.hcc_core.specs.References.{acquire_of, acquired, may_acquire}
use Rattle.hcc_core.specs.Runs.{after, after_all, world_after}
use Rattle.hcc_core.specs.Steps.{in_range, outcome_of, rule_of}
use Rattle.hcc_core.specs.Trails.{count_of}
use Rattle.hcc_core.specs.World.{State, counts_in, passed_at, passed_by, phase_if, phase_of, times, trail_of}
use Rattle.hcc_core.proofs.Keeps.{found_ok}
use Rattle.hcc_core.proofs.Shows.{slot_changed}
use Rattle.hcc_core.proofs.StaysShown.{after_shows}
use Rattle.hcc_core.proofs.SumLemmas.{total-member}
use Rattle.hcc_rule.specs.declared.key.Key.{Key}
use Rattle.hcc_rule.specs.declared.view.Done.{Done}
use Rattle.hcc_rule.specs.Acts.{events_of}
use Rattle.hcc_rule.specs.Events.{got_in, phase_in}
use Rattle.hcc_rule.specs.Probes.{probe_slot, trail_to}
use Rattle.hcc_rule.specs.Rule.{AreTrailed}
use Rattle.hcc_rule.specs.Views.{Each}
use Rattle.hcc_rule.specs.Words.{key_of}
use Rattle.hcc_rule.proofs.Basics.Lists.{within}
use Rattle.hcc_rule.proofs.Probes.ProbeLaws.{passed_before}
use Rattle.hcc_table.specs.Seeking.{is_seeking}
use Rattle.hcc_table.specs.Standing.{entry_shown, shown_at}
use Rattle.hcc_table.proofs.Probings.{visible_has}

-- an event of a search changes neither an entry nor whether it is shown
seeking_unchanged : (w : State) (event : Event) → is_seeking event ≡ true
    → slot_changed w event ≡ None
seeking_unchanged w (events.Show client key0 key1 charge countdown name value) is = cc
seeking_unchanged w (events.Hide client name) is = cc
seeking_unchanged w (events.Free client slot name) is = cc
seeking_unchanged w (events.Empty client) is = cc
seeking_unchanged w other is = refl

-- so it leaves what each slot shows
event_stays : (w : State) (event : Event) → is_seeking event ≡ true → (s : ℕ)
    → shown_at (after w event) s ≡ shown_at w s
event_stays w event seeking s =
    after_shows w event s (λ is.
    let bad : None ≡ Some s = sym (seeking_unchanged w event seeking) ∙ is in cc)

-- Events of searches leave what each slot shows.
pub seeking_stays : (ds : List Done) → Each (λ (done : Done). is_seeking done.event ≡ true) ds
    → (w : State) (s : ℕ) → shown_at (after_all w (events_of ds)) s ≡ shown_at w s
seeking_stays [] only w s = refl
seeking_stays (d ∷ ds) only w s =
    seeking_stays ds only.1 (after w d.event) s ∙ event_stays w d.event only.0 s

-- What replies tell.

-- a reading on the way to an outcome that isn't refused was made
pub bound : {A B : Type 0} (r : Result A CoreError) (f : A → Result B CoreError) (z : B)
    → (r >>= f) ≡ Ok z → (x : A) × (r ≡ Ok x) × (f x ≡ Ok z)
bound (Ok x) f z h = (x, refl, h)
bound (Err e) f z h = cc

pub same_outcome : (x y : Reply × State) → ◌≡◌ {A = Outcome} (Ok x) (Ok y) → x ≡ y
same_outcome x y h = cc

pub same_phase : {p q : Phase} → replies.Saw p ≡ replies.Saw q → p ≡ q
same_phase h = cc

pub same_count : (m n : ℕ) → replies.Count m ≡ replies.Count n → m ≡ n
same_count m n h = cc

pub ruled : (w : State) (event : Event) (z : Reply × State) → outcome_of w event ≡ Ok z
    → rule_of w event ≡ Ok z
unfolding outcome_of
ruled w event z h = by (in_range event) h
  where
    by : (b : Bool) → (if b then rule_of w event else Err NotAllowed) ≡ Ok z
        → rule_of w event ≡ Ok z
    by true is = is
    by false is = cc

-- An event of a search that was allowed leaves what each slot shows.
leads_stays : (w : State) {w' : State} (event : Event) {reply : Reply} → is_seeking event ≡ true
    → outcome_of w event ≡ Ok (reply, w') → (s : ℕ) → shown_at w' s ≡ shown_at w s
leads_stays w event seeking is s =
    ap (λ o. shown_at (world_after w o) s) (sym is) ∙ event_stays w event seeking s

module _ (w w' : State) (client slot : ℕ) where
  -- a slot's phase is no visible one where the word is none
  pub unshown_phase : (word : ℕ) (seen : Slot) → phase_in word ≡ phase_of seen
      → is_visible word ≡ false → entry_shown seen ≡ None
  unshown_phase word (slots.Empty strays) is off = refl
  unshown_phase word (slots.Building other strays) is off = refl
  unshown_phase word (slots.Shareable r) is off = by r.shown is
    where
      never : (a b c : Bool) → c ≡ false
          → (if a then phases.Empty else if b then phase_if c else phases.Building)
          ≡ phases.Shown → ⊥
      never true b c off bad = cc
      never false true false off bad = cc
      never false true true off bad = cc
      never false false c off bad = cc

      by : (b : Bool) → phase_in word ≡ phase_if b → (if b then Some r.entry else None) ≡ None
      by false same = refl
      by true same =
          absurd (never (is_empty word) (is_shareable word) (is_visible word) off same)

  -- A look that found the slot not visible: nothing is shown there.
  pub look_tells : (word : ℕ)
      → outcome_of w (events.Look client slot) ≡ Ok (replies.Saw (phase_in word), w')
      → is_visible word ≡ false → shown_at w' slot ≡ None
  look_tells word is off =
      let first = bound (slot_at w slot) _ _ (ruled w (events.Look client slot) _ is) in
      let second = bound (live_at w client) _ _ first.2 in
      let reply = same_phase (ap (λ z. z.0) (same_outcome _ _ second.2)) in
      leads_stays w (events.Look client slot) refl is slot
      ∙ ap (option_and_then entry_shown) (found_ok _ _ first.0 first.1)
      ∙ unshown_phase word first.0 (sym reply) off

  module _ (weight name word : ℕ)
      (is : outcome_of w (events.Acquire client slot weight name) ≡ Ok (got_in word, w')) where
    -- what an acquire found there
    found_there : (seen : Slot) × (slice_get w.slots slot ≡ Some seen)
        × (acquired seen (counts_in seen) ≡ got_in word)
    unfolding acquire_of
    found_there =
        let first = bound (slot_at w slot) _ _
        (ruled w (events.Acquire client slot weight name) _ is) in
        let second = bound (live_at w client) _ _ first.2 in
        let third = bound
        (allow (may_acquire w.setup w.slots client second.0 slot first.0 weight name)) _ _
        second.2 in
        let reply : acquired first.0 (counts_in first.0) ≡ got_in word =
        ap (λ z. z.0) (same_outcome _ _ third.2) in
        (first.0, found_ok _ _ first.0 first.1, reply)

    got_shown : (a : Bool) {b c : Bool} (d : Bool) {counting : Bool}
        → replies.Got b counting ≡ (if a then replies.Got c d else replies.Stray) → b ≡ c
    got_shown true d same = cc
    got_shown false d same = cc

    -- An acquire that found the slot not visible: nothing is shown there.
    pub acquire_hides : is_visible word ≡ false → shown_at w' slot ≡ None
    acquire_hides off =
        leads_stays w (events.Acquire client slot weight name) refl is slot
        ∙ ap (option_and_then entry_shown) found_there.1
        ∙ by found_there.0 found_there.2
      where
        by : (seen : Slot) → acquired seen (counts_in seen) ≡ got_in word
            → entry_shown seen ≡ None
        by (slots.Empty strays) same = refl
        by (slots.Building other strays) same = refl
        by (slots.Shareable r) same =
            let shown = got_shown _ _ same in
            ap (λ b. if b then Some r.entry else None) (shown ∙ off)

    -- An acquire that found the slot visible: an entry is shown there.
    pub acquire_shows : is_visible word ≡ true
        → (entry : Entry) × (shown_at w' slot ≡ Some entry)
    acquire_shows on =
        let there = by found_there.0 found_there.2 in (
          there.0,
          leads_stays w (events.Acquire client slot weight name) refl is slot
              ∙ ap (option_and_then entry_shown) found_there.1
              ∙ there.1,
        )
      where
        stray : (a c d : Bool) → a ≡ true
            → replies.Stray ≡ (if a then replies.Got c d else replies.Stray) → ⊥
        stray true c d has same = cc
        stray false c d has same = cc

        by : (seen : Slot) → acquired seen (counts_in seen) ≡ got_in word
            → (entry : Entry) × (entry_shown seen ≡ Some entry)
        by (slots.Empty strays) same = absurd (stray _ _ _ (visible_has word on) same)
        by (slots.Building other strays) same = absurd (stray _ _ _ (visible_has word on) same)
        by (slots.Shareable r) same =
            let shown = got_shown _ _ same in
            (r.entry, ap (λ b. if b then Some r.entry else None) (shown ∙ on))

  -- A peek that found an entry shown: it is shown there.
  pub peek_shows : (stamp : Stamp)
      → outcome_of w (events.Peek client slot) ≡ Ok (replies.Shows (Some stamp), w')
      → (entry : Entry) × (shown_at w' slot ≡ Some entry) × (entry.stamp ≡ stamp)
  unfolding peek_of
  peek_shows stamp is =
      let first = bound (slot_at w slot) _ _ (ruled w (events.Peek client slot) _ is) in
      let second = bound (live_at w client) _ _ first.2 in
      let reply = same_shows (shown_stamp first.0) (Some stamp)
      (ap (λ z. z.0) (same_outcome _ _ second.2)) in
      let there = by first.0 reply in (
        there.0,
        leads_stays w (events.Peek client slot) refl is slot
            ∙ ap (option_and_then entry_shown) (found_ok _ _ first.0 first.1)
            ∙ there.1,
        there.2,
      )
    where
      same_shows : (a b : Option Stamp) → replies.Shows a ≡ replies.Shows b → a ≡ b
      same_shows a b h = cc

      by : (seen : Slot) → shown_stamp seen ≡ Some stamp
          → (entry : Entry) × (entry_shown seen ≡ Some entry) × (entry.stamp ≡ stamp)
      by (slots.Empty strays) is = cc
      by (slots.Building other strays) is = cc
      by (slots.Shareable r) is = one r.shown refl is
        where
          one : (b : Bool) → r.shown ≡ b → (if b then Some r.entry.stamp else None) ≡ Some stamp
              → (entry : Entry) × ((if b then Some r.entry else None) ≡ Some entry)
              × (entry.stamp ≡ stamp)
          one true shown is = (r.entry, refl, same_Some _ _ is)
          one false shown is = cc

  -- A count: how often the slot stands in trails.
  pub count_tells : (n : ℕ) → outcome_of w (events.Count client slot) ≡ Ok (replies.Count n, w')
      → n ≡ passed_by w'.slots w'.clients slot
  unfolding count_of
  count_tells n is =
      let first = bound (slot_at w slot) _ _ (ruled w (events.Count client slot) _ is) in
      let second = bound (live_at w client) _ _ first.2 in
      let reply = same_count (passed_at w slot) n (ap (λ z. z.0) (same_outcome _ _ second.2)) in
      let same : w ≡ w' = ap (λ z. z.1) (same_outcome _ _ second.2) in
      let near = within w.slots slot first.0 (found_ok _ _ first.0 first.1) in
      sym reply
      ∙ ap (λ b. if b then passed_by w.slots w.clients slot else 0)
      (lt-ltb slot (length w.slots) near)
      ∙ ap (λ (z : State). passed_by z.slots z.clients slot) same

-- Each probe before that of an entry that is shown counts it.
pub shown_counted : (size : ℕ) (w : State) (key : Key) (i j : ℕ) (entry : Entry)
    → MOST_SLOTS % size ≡ 0 → AreTrailed size w.slots → j < i → i < size
    → shown_at w (probe_slot size key i) ≡ Some entry → key_of entry ≡ key
    → 1 ≤ passed_by w.slots w.clients (probe_slot size key j)
shown_counted size w key i j entry power trailed first inside shown asked =
    by (slice_get w.slots slot) refl shown
  where
    slot : ℕ
    slot = probe_slot size key i

    passed : (seen : Slot) → slice_get w.slots slot ≡ Some seen
        → trail_of seen ≡ trail_to size key slot
        → 1 ≤ passed_by w.slots w.clients (probe_slot size key j)
    passed seen at trail =
        let there = passed_before size key power j i first inside in
        let same = ap (times (probe_slot size key j)) trail in
        let member = total-member (λ (x : Slot). times (probe_slot size key j) (trail_of x)) w.slots
        slot seen at in
        omega arith

    by : (o : Option Slot) → slice_get w.slots slot ≡ o
        → option_and_then entry_shown o ≡ Some entry
        → 1 ≤ passed_by w.slots w.clients (probe_slot size key j)
    by None at is = cc
    by (Some (slots.Empty strays)) at is = cc
    by (Some (slots.Building other strays)) at is = cc
    by (Some (slots.Shareable r)) at is =
        passed (slots.Shareable r) at
        (trailed slot (slots.Shareable r) at
        ∙ ap (λ k. trail_to size k slot) (ap key_of (same r.shown is) ∙ asked))
      where
        same : (b : Bool) → (if b then Some r.entry else None) ≡ Some entry → r.entry ≡ entry
        same true is = cc
        same false is = cc
