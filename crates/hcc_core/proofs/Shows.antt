-- What each event moves and shows. Only `show` adds an entry: what it says, under the next stamp of
-- its client.
use Rattle.std.proofs.Common.{◌≡◌, ◌⊎◌, inl, inr, ℕ, ◌+◌, ◌==◌, nat_lt, Bool, true, false, cond}
use Rattle.std.proofs.Common.{List, Option, Some, None, Result, Ok, Err, slice_get, refl, sym, ap}
use Rattle.std.proofs.Common.{arith, ◌&&◌, ◌||◌, ◌<◌, ◌∙◌, length, ◌≤◌}
use Rattle.std.specs.Prelude.{option_and_then}
use Rattle.std.specs.Option.{ok_or}
use Rattle.std.proofs.lemmas.Bool.{and_parts, eq-eqb, ne_eqb, cases_eq}
use Rattle.std.proofs.lemmas.List.{length-set}
use Rattle.std.proofs.lemmas.Option.{slice_get_within}
use Rattle.hcc_core.specs.declared.limits.TheConstants.{STAMPS_PER_CLIENT}
use Rattle.hcc_core.specs.declared.client.Client.{Client}
use Rattle.hcc_core.specs.declared.client.Owned.{Owned}
use Rattle.hcc_core.specs.declared.client.Owned.TheVariants as owned
use Rattle.hcc_core.specs.declared.slot.Entry.{Entry}
use Rattle.hcc_core.specs.declared.slot.Resident.{Resident}
use Rattle.hcc_core.specs.declared.slot.Slot.{Slot}
use Rattle.hcc_core.specs.declared.slot.Slot.TheVariants as slots
use Rattle.hcc_core.specs.declared.event.CoreError.{CoreError}
use Rattle.hcc_core.specs.declared.event.CoreError.TheVariants.{NotAllowed}
use Rattle.hcc_core.specs.declared.event.Event.{Event}
use Rattle.hcc_core.specs.declared.event.Event.TheVariants as events
use Rattle.hcc_core.specs.Sums.{when, total_below}
use Rattle.hcc_core.specs.World.{State, slot_holding}
use Rattle.hcc_core.specs.Outcomes.{Outcome, ◌>>=◌, is_made, allow, slot_at, live_at, with_both}
use Rattle.hcc_core.specs.Entries.{built_by, is_fresh, may_show, first_references, resident_new}
use Rattle.hcc_core.specs.Entries.{client_shown, show_of, free_of}
use Rattle.hcc_core.specs.Steps.{in_range, rule_of, outcome_of}
use Rattle.hcc_core.specs.Lawful.{Lawful, stamps_by, owner_in, owned_by, owned_slot}
use Rattle.hcc_core.specs.Runs.{entry_held, named_on, entry_of, entry_at, is_show, entry_given}
use Rattle.hcc_core.specs.Runs.{takes_away, entry_freed, slot_weighs, slots_weigh}
use Rattle.hcc_core.proofs.ListLemmas.{read_at_set, read_here, read_other}
use Rattle.hcc_core.proofs.Keeps.{found_ok, live_ok, may_ok}
use Rattle.hcc_core.proofs.SumLemmas.{sum_at, total-set, total_below-none, total_below-one}
use Rattle.hcc_core.proofs.HeldNames.{Unheld, unheld, named_free}
use Rattle.hcc_core.proofs.Moves.{Holds, StaysHeld, read_kept, FewOrNew, KeepsHeld, holds_slot}
use Rattle.hcc_core.proofs.Moves.{KeepsFaces, face_of}
use Rattle.hcc_core.proofs.EventMoves.{start_moves, look_moves, acquire_moves, give_moves}
use Rattle.hcc_core.proofs.EventMoves.{use_moves, occupy_moves, hide_moves, free_moves, empty_moves}
use Rattle.hcc_core.proofs.EventMoves.{write_moves, read_moves, enter_moves, charge_moves}
use Rattle.hcc_core.proofs.EventMoves.{slots_moves, settle_moves, end_moves, clock_moves}
use Rattle.hcc_core.proofs.EventMoves.{mark_moves, correct_moves, waive_moves, quit_moves}
use Rattle.hcc_core.proofs.EventMoves.{usage_moves, occupancy_moves, standing_moves, stand_moves}
use Rattle.hcc_core.proofs.EventMoves.{fall_moves, count_moves, pass_moves, unpass_moves}
use Rattle.hcc_core.proofs.EventMoves.{turn_moves, peek_moves, MovedBut, owner_there, owned_held}

-- the entry is what this event says, under the next stamp of the client that shows it
pub record IsNew (w : State) (event : Event) (entry : Entry) : Type 0 where
  pub shown : is_show entry.stamp.client event ≡ true
  pub next : entry.stamp.number ≡ stamps_by (slice_get w.clients entry.stamp.client)
  pub given : entry_given entry.stamp event ≡ Some entry

-- the entry that an event shows, if it is a show of this client
abbrev pub entry_shown : ℕ → State → Event → Option Entry
entry_shown c w event = cond (is_show c event)
    (entry_given (record { client = c; number = stamps_by (slice_get w.clients c) }) event) None

-- what an event shows and frees, of whichever client it is
abbrev pub shown_weighs : (Entry → ℕ) → State → Event → ℕ
shown_weighs h w event = total_below (λ c. sum_at h (entry_shown c w event)) (length w.clients)

abbrev pub freed_weighs : (Entry → ℕ) → State → Event → ℕ
freed_weighs h w event = total_below (λ c. sum_at h (entry_freed c w event)) (length w.clients)

-- the slot whose face an event may change
abbrev pub slot_changed : State → Event → Option ℕ
slot_changed w (events.Show client key0 key1 charge countdown name value) =
    owned_by (slice_get w.clients client)
slot_changed w (events.Hide client name) = slot_holding w.slots client name
slot_changed w (events.Free client slot name) = Some slot
slot_changed w (events.Empty client) = owned_by (slice_get w.clients client)
slot_changed w other = None

-- what a step of this event moves and shows
pub record Adds (w : State) (event : Event) (w' : State) : Type 0 where
  pub holds : Holds w w'
  pub stands : StaysHeld (λ c n. takes_away c n event) w w'
  pub entries : (slot : ℕ) (entry : Entry) → entry_at w' slot ≡ Some entry
      → (entry_at w slot ≡ Some entry) ⊎ IsNew w event entry
  pub faces : KeepsFaces (slot_changed w event) w w'
  pub counts : (c : ℕ) → stamps_by (slice_get w'.clients c)
      ≡ stamps_by (slice_get w.clients c) + when (is_show c event) 1
  pub weighs : Lawful w → (h : Entry → ℕ)
      → slots_weigh h w' + freed_weighs h w event ≡ slots_weigh h w + shown_weighs h w event
  pub many : length w'.clients ≡ length w.clients
  pub there : (c : ℕ) → length w.clients ≤ c → entry_freed c w event ≡ None

-- the same of an outcome, if the step is made
abbrev pub Added : State → Event → Outcome → Type 0
Added w event (Ok done) = Adds w event done.1
Added w event (Err error) = Unit {0}

-- the clients of a world freed what is lost, and no other did
pub record FreesLost (w : State) (event : Event) (lost : Option Entry) : Type 0 where
  pub weighs : (h : Entry → ℕ) → freed_weighs h w event ≡ sum_at h lost
  pub there : (c : ℕ) → length w.clients ≤ c → entry_freed c w event ≡ None

-- so it is where nobody frees
frees_none : (w : State) (event : Event) → ((c : ℕ) → entry_freed c w event ≡ None)
    → FreesLost w event None
frees_none w event none = record {
  weighs = λ h.
      total_below-none (λ c. sum_at h (entry_freed c w event)) (length w.clients)
      (λ c within. ap (sum_at h) (none c));
  there = λ c past. none c;
}

-- and where one client does
frees_one : (w : State) (client slot : ℕ) (name : Option ℕ) → client < length w.clients
    → FreesLost w (events.Free client slot name) (entry_at w slot)
frees_one w client slot name within = record {
  weighs = λ h.
      total_below-one (λ c. sum_at h (entry_freed c w (events.Free client slot name)))
      (length w.clients) client within
      (λ c other. rw (ne_eqb client c (λ same. other (sym same))) refl)
      ∙ rw (eq-eqb client client refl) refl;
  there = λ c past. rw (ne_eqb client c (λ same. omega arith)) refl;
}

-- an event that is no show adds nothing, takes away what it names at most, and frees what is lost
removes : (w : State) (event : Event) (outcome : Outcome) (lost : Option Entry)
    → ((c : ℕ) → is_show c event ≡ false)
    → (is_made outcome ≡ true → FreesLost w event lost)
    → MovedBut (λ c n. takes_away c n event) lost (slot_changed w event) w outcome
    → Added w event outcome
removes w event (Ok done) lost none frees m = record {
  holds = m.holds;
  stands = m.stands;
  entries = λ s e h. inl (m.entries s e h);
  faces = m.faces;
  counts = λ c.
      let same = m.counts c in
      let no_more : when (is_show c event) 1 ≡ 0 = rw (none c) refl in
      omega arith;
  weighs = λ l h.
      let left = m.weighs l h in
      let goes = (frees refl).weighs h in
      let comes = total_below-none (λ c. sum_at h (entry_shown c w event)) (length w.clients)
      (λ c there. rw (none c) refl) in
      omega arith;
  many = m.many;
  there = (frees refl).there;
}
removes w event (Err error) lost none frees m = tt

-- an event that neither shows nor frees
abbrev IsAside : State → Event → Type 0
IsAside w event = (c : ℕ) → (is_show c event ≡ false) × (entry_freed c w event ≡ None)

-- it takes away what it names at most
ends : (w : State) (event : Event) (outcome : Outcome) → IsAside w event
    → MovedBut (λ c n. takes_away c n event) None (slot_changed w event) w outcome
    → Added w event outcome
ends w event outcome aside m =
    removes w event outcome None (λ c. (aside c).0)
    (λ made. frees_none w event (λ c. (aside c).1)) m

-- and may take nothing away either
quiet : (w : State) (event : Event) (outcome : Outcome) → IsAside w event
    → MovedBut (λ c n. false) None (slot_changed w event) w outcome → Added w event outcome
quiet w event (Ok done) aside m = ends w event (Ok done) aside (record {
  holds = m.holds;
  stands = λ l c n s e other. m.stands l c n s e refl;
  entries = m.entries;
  faces = m.faces;
  counts = m.counts;
  weighs = m.weighs;
  many = m.many;
})
quiet w event (Err error) aside m = tt

-- Show.

-- the test of a show finds the name fresh
fresh_to_show : (all : List Slot) (client : ℕ) (found : Client)
    (charge countdown : ℕ) (name : Option ℕ)
    → may_show all client found charge countdown name ≡ true → is_fresh all client name ≡ true
unfolding may_show
fresh_to_show all client found charge countdown name h =
    let a = and_parts _ (nat_lt found.stamps STAMPS_PER_CLIENT) h in
    let b = and_parts _ (is_fresh all client name) a.0 in
    b.1

-- the reference that a show makes is new
shown_keeps : (w : State) (client : ℕ) (name : Option ℕ) (seen : Option Slot) (r : Resident)
    → is_fresh w.slots client name ≡ true → r.references ≡ first_references client name
    → KeepsHeld w seen (slots.Shareable r)
shown_keeps w client None seen r fresh first = record {
  held = λ c n e h. let none = rw first at h in cc;
  times = λ c n. inl (rw first (omega arith));
}
shown_keeps w client (Some name) seen r fresh first = record {
  held = λ c n e h. held c n e ((client == c) && (name == n)) refl (rw first at h);
  times = λ c n. rw first (times c n ((client == c) && (name == n)) refl);
}
  where
    free : (c n : ℕ) → ((client == c) && (name == n)) ≡ true → Unheld w c n
    free c n = named_free w client name c n (unheld w client name fresh)

    held : (c n : ℕ) (e : Entry) (b : Bool) → ((client == c) && (name == n)) ≡ b
        → cond (((client == c) && (name == n)) || false) (Some r.entry) None ≡ Some e
        → (option_and_then (entry_held c n) seen ≡ Some e) ⊎ Unheld w c n
    held c n e true is h = inr (free c n is)
    held c n e false is h = let none = rw is at h in cc

    times : (c n : ℕ) (b : Bool) → ((client == c) && (name == n)) ≡ b
        → FewOrNew w c n (when ((client == c) && (name == n)) 1 + 0) (sum_at (named_on c n) seen)
    times c n true is = inr (free c n is, rw is (omega arith))
    times c n false is = inl (rw is (omega arith))

-- the slot is there, and has no entry
abbrev IsBare : State → ℕ → Type 0
IsBare w slot = (seen : Slot) × (slice_get w.slots slot ≡ Some seen)
    × ((h : Entry → ℕ) → slot_weighs h seen ≡ 0)

-- a slot that has an owner is so
owned_bare : (w : State) (slot owner : ℕ) (o : Option Slot) → slice_get w.slots slot ≡ o
    → owner_in o ≡ Some owner → IsBare w slot
owned_bare w slot owner None at is = cc
owned_bare w slot owner (Some (slots.Empty strays)) at is = cc
owned_bare w slot owner (Some (slots.Building client strays)) at is =
    (slots.Building client strays, at, λ h. refl)
owned_bare w slot owner (Some (slots.Shareable r)) at is = cc

-- no entry is one
none_some : (e : Entry) → None ≡ Some e → ⊥
none_some e h = cc

-- the world after a show
module _ (w : State) (client slot key0 key1 charge countdown : ℕ) (name : Option ℕ) (value : List ℕ)
    (found : Client) (at_client : slice_get w.clients client ≡ Some found) where
  abbrev resident : Resident
  resident = resident_new client found key0 key1 charge countdown name value

  abbrev said : Event
  said = events.Show client key0 key1 charge countdown name value

  abbrev world : State
  world = with_both w slot (slots.Shareable resident) client (client_shown charge found)

  shown_is_new : IsNew w said resident.entry
  shown_is_new = record {
    shown = eq-eqb client client refl;
    next = sym (ap stamps_by at_client);
    given = refl;
  }

  shown_entries : (s : ℕ) (entry : Entry) → entry_at world s ≡ Some entry
      → (entry_at w s ≡ Some entry) ⊎ IsNew w said entry
  shown_entries s entry h =
      elim (read_at_set entry_of w.slots slot s (slots.Shareable resident) entry h) [
        | inl e ↦
            let here : Some resident.entry ≡ Some entry = e.1 in
            let is : resident.entry ≡ entry = cc in
            inr (rw is at shown_is_new)
        | inr e ↦ inl e
      ]

  shown_counts : (c : ℕ) → stamps_by (slice_get world.clients c)
      ≡ stamps_by (slice_get w.clients c) + when (is_show c said) 1
  shown_counts c = elim (cases_eq c client) [
    | inl e ↦
        let new = client_shown charge found in
        let now = ap stamps_by (read_here w.clients client found new at_client) in
        let was = ap stamps_by at_client in
        let one : when (client == client) 1 ≡ 1 = rw (eq-eqb client client refl) refl in
        rw e (omega arith)
    | inr n ↦
        let same = ap stamps_by (read_other w.clients client c (client_shown charge found) n) in
        let none : when (client == c) 1 ≡ 0 = rw (ne_eqb client c (λ e. n (sym e))) refl in
        omega arith
  ]

  -- of all clients only this one shows
  shown_weighs_it : (h : Entry → ℕ) → shown_weighs h w said ≡ h resident.entry
  shown_weighs_it h =
      total_below-one (λ c. sum_at h (entry_shown c w said)) (length w.clients) client
      (slice_get_within w.clients client found at_client)
      (λ c other. rw (ne_eqb client c (λ same. other (sym same))) refl)
      ∙ rw (eq-eqb client client refl, at_client) refl

  shown_adds : is_fresh w.slots client name ≡ true
      → owned_by (slice_get w.clients client) ≡ Some slot
      → (Lawful w → (c n : ℕ) (e : Entry)
      → option_and_then (entry_held c n) (slice_get w.slots slot) ≡ Some e → None ≡ Some e)
      → (Lawful w → IsBare w slot)
      → Adds w said world
  shown_adds fresh owns none bare = record {
    holds = holds_slot w slot _ _
        (shown_keeps w client name (slice_get w.slots slot) resident fresh refl);
    stands = λ l c n s e other.
        read_kept (entry_held c n) w.slots slot s (slots.Shareable resident) e
        (λ held. absurd (none_some e (none l c n e held)));
    entries = shown_entries;
    faces = λ s other.
        ap (option_and_then face_of)
        (read_other w.slots slot s (slots.Shareable resident)
        (λ here. other (owns ∙ ap Some (sym here))));
    counts = shown_counts;
    weighs = λ l h.
        let there = bare l in
        let change = total-set (slot_weighs h) w.slots slot there.0 (slots.Shareable resident)
        there.1 in
        let none = there.2 h in
        let comes = shown_weighs_it h in
        let goes = total_below-none (λ c. sum_at h (entry_freed c w said)) (length w.clients)
        (λ c within. refl) in
        omega arith;
    many = length-set w.clients client (client_shown charge found);
    there = λ c past. refl;
  }

-- the slot that a client builds in is one that it owns
builds_owned : (o : Owned) (slot : ℕ) → built_by o ≡ Some slot → owned_slot o ≡ Some slot
builds_owned owned.Nothing slot h = cc
builds_owned (owned.ForBuilding s) slot h = h
builds_owned (owned.ForFreeing s) slot h = cc

-- a reading on the way, and what it found
chain : (w : State) (event : Event) {A : Type 0} (r : Result A CoreError) (f : A → Outcome)
    → ((x : A) → r ≡ Ok x → Added w event (f x)) → Added w event (r >>= f)
chain w event (Ok x) f h = h x refl
chain w event (Err e) f h = tt

show_adds : (w : State) (client key0 key1 charge countdown : ℕ) (name : Option ℕ) (value : List ℕ)
    → Added w (events.Show client key0 key1 charge countdown name value)
    (show_of w client key0 key1 charge countdown name value)
unfolding show_of
show_adds w client key0 key1 charge countdown name value =
    chain w _ (live_at w client) _ (λ found live.
    chain w _ (ok_or (built_by found.owned) NotAllowed) _ (λ slot builds.
    chain w _ (allow (may_show w.slots client found charge countdown name)) _ (λ u may.
    shown_adds w client slot key0 key1 charge countdown name
    value found (live_ok w client found live)
    (fresh_to_show w.slots client found charge countdown name (may_ok _ u may))
    (rw (live_ok w client found live) (builds_owned found.owned slot (found_ok _ _ slot builds)))
    (λ l. owned_held client slot found l live
    (builds_owned found.owned slot (found_ok _ _ slot builds)))
    (λ l. owned_bare w slot client _ refl (owner_there client slot found l live
    (builds_owned found.owned slot (found_ok _ _ slot builds)))))))

-- Free.

-- a client that freed is there
freer_there : (w : State) (client slot : ℕ) (name : Option ℕ)
    → is_made (free_of w client slot name) ≡ true → client < length w.clients
unfolding free_of
freer_there w client slot name made =
    made_after (slot_at w slot) _ made (λ seen at made.
    made_after (live_at w client) _ made (λ found live made.
    slice_get_within w.clients client found (live_ok w client found live)))
  where
    made_after : {A B : Type 0} (r : Result A CoreError) (f : A → Outcome)
        → is_made (r >>= f) ≡ true → ((x : A) → r ≡ Ok x → is_made (f x) ≡ true → B) → B
    made_after (Ok x) f made h = h x refl made
    made_after (Err e) f made h = cc

free_adds : (w : State) (client slot : ℕ) (name : Option ℕ)
    → Added w (events.Free client slot name) (free_of w client slot name)
free_adds w client slot name =
    removes w _ _ (entry_at w slot) (λ c. refl)
    (λ made. frees_one w client slot name (freer_there w client slot name made))
    (free_moves w client slot name)

-- Any event.

rule_adds : (w : State) (event : Event) → Added w event (rule_of w event)
rule_adds w (events.Start client) = quiet w _ _ (λ c. (refl, refl)) (start_moves w client)
rule_adds w (events.Look client slot) = quiet w _ _ (λ c. (refl, refl)) (look_moves w client slot)
rule_adds w (events.Acquire client slot weight name) =
    quiet w _ _ (λ c. (refl, refl)) (acquire_moves w client slot weight name)
rule_adds w (events.Give client name) = ends w _ _ (λ c. (refl, refl)) (give_moves w client name)
rule_adds w (events.Use client name) = ends w _ _ (λ c. (refl, refl)) (use_moves w client name)
rule_adds w (events.Occupy client slot) =
    quiet w _ _ (λ c. (refl, refl)) (occupy_moves w client slot)
rule_adds w (events.Show client key0 key1 charge countdown name value) =
    show_adds w client key0 key1 charge countdown name value
rule_adds w (events.Hide client name) = quiet w _ _ (λ c. (refl, refl)) (hide_moves w client name)
rule_adds w (events.Free client slot name) =
    free_adds w client slot name
rule_adds w (events.Empty client) = quiet w _ _ (λ c. (refl, refl)) (empty_moves w client)
rule_adds w (events.Write client) = quiet w _ _ (λ c. (refl, refl)) (write_moves w client)
rule_adds w (events.Read client name) = quiet w _ _ (λ c. (refl, refl)) (read_moves w client name)
rule_adds w (events.Enter client) = quiet w _ _ (λ c. (refl, refl)) (enter_moves w client)
rule_adds w (events.Charge client charge) =
    quiet w _ _ (λ c. (refl, refl)) (charge_moves w client charge)
rule_adds w (events.Slots client) = quiet w _ _ (λ c. (refl, refl)) (slots_moves w client)
rule_adds w (events.Settle client) = quiet w _ _ (λ c. (refl, refl)) (settle_moves w client)
rule_adds w (events.End client) = quiet w _ _ (λ c. (refl, refl)) (end_moves w client)
rule_adds w (events.Clock client slot) = quiet w _ _ (λ c. (refl, refl)) (clock_moves w client slot)
rule_adds w (events.Mark client name) = quiet w _ _ (λ c. (refl, refl)) (mark_moves w client name)
rule_adds w (events.Correct client name) =
    quiet w _ _ (λ c. (refl, refl)) (correct_moves w client name)
rule_adds w (events.Waive client) = quiet w _ _ (λ c. (refl, refl)) (waive_moves w client)
rule_adds w (events.Quit client) = quiet w _ _ (λ c. (refl, refl)) (quit_moves w client)
rule_adds w (events.Usage client) = quiet w _ _ (λ c. (refl, refl)) (usage_moves w client)
rule_adds w (events.Occupancy client) = quiet w _ _ (λ c. (refl, refl)) (occupancy_moves w client)
rule_adds w (events.Standing client) = quiet w _ _ (λ c. (refl, refl)) (standing_moves w client)
rule_adds w (events.Stand client charge name) =
    quiet w _ _ (λ c. (refl, refl)) (stand_moves w client charge name)
rule_adds w (events.Fall client name) = quiet w _ _ (λ c. (refl, refl)) (fall_moves w client name)
rule_adds w (events.Count client slot) = quiet w _ _ (λ c. (refl, refl)) (count_moves w client slot)
rule_adds w (events.Pass client slot) = quiet w _ _ (λ c. (refl, refl)) (pass_moves w client slot)
rule_adds w (events.Unpass client slot) =
    quiet w _ _ (λ c. (refl, refl)) (unpass_moves w client slot)
rule_adds w (events.Turn client) = quiet w _ _ (λ c. (refl, refl)) (turn_moves w client)
rule_adds w (events.Peek client slot) = quiet w _ _ (λ c. (refl, refl)) (peek_moves w client slot)

if_adds : (w : State) (event : Event) (b : Bool) (outcome : Outcome) → Added w event outcome
    → Added w event (cond b outcome (Err NotAllowed))
if_adds w event true outcome h = h
if_adds w event false outcome h = tt

pub outcome_adds : (w : State) (event : Event) → Added w event (outcome_of w event)
unfolding outcome_of
outcome_adds w event = if_adds w event (in_range event) (rule_of w event) (rule_adds w event)
