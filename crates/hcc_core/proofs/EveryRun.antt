-- What holds of every run: its worlds are lawful, a reference that stands keeps its slot and its
-- entry, and entries are what their shows gave.
use Rattle.std.proofs.Common.{◌≡◌, ◌⊎◌, inl, inr, ℕ, ◌&&◌, Bool, true, false, cond, List, [], ◌∷◌}
use Rattle.std.proofs.Common.{◌++◌, Option, Some, None, Ok, Err, length, replicate, slice_get, refl}
use Rattle.std.proofs.Common.{sym, ap, ◌∙◌, arith, ◌≤◌, ◌<◌}
use Rattle.std.specs.Prelude.{option_and_then}
use Rattle.std.specs.List.{list_any}
use Rattle.std.proofs.lemmas.Bool.{or_parts}
use Rattle.std.proofs.lemmas.List.{append_assoc, append-nil, length-append}
use Rattle.hcc_core.specs.declared.event.Event.{Event}
use Rattle.hcc_core.specs.declared.client.Client.{Client}
use Rattle.hcc_core.specs.declared.slot.Entry.{Entry}
use Rattle.hcc_core.specs.declared.setup.Setup.{Setup}
use Rattle.hcc_core.specs.declared.slot.Slot.{Slot}
use Rattle.hcc_core.specs.declared.slot.Slot.TheVariants as slots
use Rattle.hcc_core.specs.declared.slot.Stamp.{Stamp}
use Rattle.hcc_core.specs.Sums.{when}
use Rattle.hcc_core.specs.World.{State}
use Rattle.hcc_core.specs.Outcomes.{Outcome, is_made}
use Rattle.hcc_core.specs.Steps.{outcome_of}
use Rattle.hcc_core.specs.Opening.{opening_of, new_slot, new_client, CanOpen}
use Rattle.hcc_core.specs.Runs.{world_after, after, after_all, entry_held, held_at, named_on}
use Rattle.hcc_core.specs.Runs.{named_in, Stands, StandsThrough, KeepsPlaces, FindsOne, CountersFit}
use Rattle.hcc_core.specs.Runs.{entry_of, entry_at, is_show, shows_in, shows_of, entry_given}
use Rattle.hcc_core.specs.Runs.{AreGiven, StandsBetween, takes_away}
use Rattle.hcc_core.specs.Lawful.{Lawful, stamp_in, stamps_by}
use Rattle.hcc_core.proofs.ListLemmas.{nothing_in, in_replicate, read_before, read_last}
use Rattle.hcc_core.proofs.SumLemmas.{total-zero}
use Rattle.hcc_core.proofs.Keeps.{KeepsLaw, outcome_keeps}
use Rattle.hcc_core.proofs.Opening.{lawful_opening}
use Rattle.hcc_core.proofs.Readable.{strays_few}
use Rattle.hcc_core.proofs.HeldNames.{Apart, finds_one}
use Rattle.hcc_core.proofs.Moves.{Holds, StaysHeld, holds_still}
use Rattle.hcc_core.proofs.Shows.{Adds, Added, outcome_adds}

-- Lawful worlds.

outcome_lawful : (w : State) (outcome : Outcome) → Lawful w → KeepsLaw outcome
    → Lawful (world_after w outcome)
outcome_lawful w (Ok done) l h = h
outcome_lawful w (Err error) l h = l

-- the world after any event, refused or not
pub lawful_after : (w : State) (event : Event) → Lawful w → Lawful (after w event)
lawful_after w event l = outcome_lawful w (outcome_of w event) l (outcome_keeps w event l)

-- and after any list of events
pub lawful_all : (events : List Event) (w : State) → Lawful w → Lawful (after_all w events)
lawful_all [] w l = l
lawful_all (event ∷ events) w l = lawful_all events (after w event) (lawful_after w event l)

pub every_run : (setup : Setup) (events : List Event) → CanOpen setup
    → Lawful (after_all (opening_of setup) events)
every_run setup events can = lawful_all events (opening_of setup) (lawful_opening setup can)

-- Counters.

-- in a lawful world uses stay near their bound, and references and strays weigh little
pub counters_fit : (w : State) → Lawful w → CountersFit w
counters_fit w l = record {
  entries = λ s slot at_slot.
      let bound = l.bounded s slot at_slot in
      let references = bound.references in
      let uses = bound.uses in
      let few = l.sized.few_clients in
      omega arith;
  strays = λ s slot at_slot. let strays = strays_few w s slot l at_slot in omega arith;
}

pub run_counters_fit : (setup : Setup) (events : List Event) → CanOpen setup
    → CountersFit (after_all (opening_of setup) events)
run_counters_fit setup events can =
    counters_fit (after_all (opening_of setup) events) (every_run setup events can)

-- References.

-- each event, refused or not, leaves references where they are, or adds a new one
outcome_holds : (w : State) (event : Event) (outcome : Outcome) → Added w event outcome
    → Holds w (world_after w outcome)
outcome_holds w event (Ok done) a = a.holds
outcome_holds w event (Err error) a = holds_still w w refl

after_holds : (w : State) (event : Event) → Holds w (after w event)
after_holds w event = outcome_holds w event (outcome_of w event) (outcome_adds w event)

-- an outcome leaves what is held, but for what its event takes away
outcome_stands : (w : State) (event : Event) (outcome : Outcome) → Added w event outcome
    → StaysHeld (λ c n. takes_away c n event) w (world_after w outcome)
outcome_stands w event (Ok done) a = a.stands
outcome_stands w event (Err error) a = λ l c n s e other h. h

-- and so does each event, refused or not
after_stands : (w : State) (event : Event)
    → StaysHeld (λ c n. takes_away c n event) w (after w event)
after_stands w event = outcome_stands w event (outcome_of w event) (outcome_adds w event)

-- that stays so, since what is new was unheld
apart_kept : (w w' : State) → Apart w → Holds w w' → Apart w'
apart_kept w w' apart holds client name s t e f h k = elim (holds.held client name s e h) [
  | inl was ↦ elim (holds.held client name t f k) [
    | inl were ↦ apart client name s t e f was were
    | inr new ↦ absurd (new.1 s e was)
  ]
  | inr new ↦ elim (holds.held client name t f k) [
    | inl were ↦ absurd (new.1 t f were)
    | inr too ↦ new.0 ∙ sym too.0
  ]
]

pub apart_all : (events : List Event) (w : State) → Apart w → Apart (after_all w events)
apart_all [] w apart = apart
apart_all (event ∷ events) w apart =
    apart_all events (after w event) (apart_kept w (after w event) apart (after_holds w event))

-- one slot has one entry
one_place : (w : State) → Apart w → KeepsPlaces w []
one_place w apart client name through s t e f h k =
    let same = apart client name s t e f h k in
    let one : Some e ≡ Some f = sym h ∙ ap (held_at w client name) same ∙ k in
    (same, let is : e ≡ f = cc in is)

-- what stands before a step and after it stands where it stood
step_keeps : (w w' : State) (client name s t : ℕ) (e f : Entry) → Apart w → Holds w w'
    → held_at w client name s ≡ Some e → held_at w' client name t ≡ Some f → (s ≡ t) × (e ≡ f)
step_keeps w w' client name s t e f apart holds h k = elim (holds.held client name t f k) [
  | inl were ↦ one_place w apart client name (s, e, h) s t e f h were
  | inr new ↦ absurd (new.1 s e h)
]

-- what stands through events stands before them
stands_first : (events : List Event) (w : State) (client name : ℕ)
    → StandsThrough w events client name → Stands w client name
stands_first [] w client name through = through
stands_first (event ∷ events) w client name through = through.0

-- and so through all events
pub keeps_places : (events : List Event) (w : State) → Apart w → KeepsPlaces w events
keeps_places [] w apart client name through s t e f h k =
    one_place w apart client name through s t e f h k
keeps_places (event ∷ events) w apart client name through s t e f h k =
    let next = stands_first events (after w event) client name through.1 in
    let holds = after_holds w event in
    let step = step_keeps w (after w event) client name s next.0 e next.1 apart holds h next.2 in
    let rest = keeps_places events (after w event) (apart_kept w (after w event) apart holds)
    client name through.1 next.0 t next.1 f next.2 k in
    (step.0 ∙ rest.0, step.1 ∙ rest.1)

apart_opening : (setup : Setup) → Apart (opening_of setup)
unfolding opening_of
apart_opening setup client name s t e f h k =
    absurd (nothing_in (option_and_then (entry_held client name))
    setup.slots s new_slot e refl refl h)

pub run_keeps_places : (setup : Setup) (before events : List Event)
    → KeepsPlaces (after_all (opening_of setup) before) events
run_keeps_places setup before events =
    keeps_places events (after_all (opening_of setup) before)
    (apart_all before (opening_of setup) (apart_opening setup))

-- a client has one reference of a name at most
abbrev pub Once : State → Type 0
Once w = (client name : ℕ) → named_in w client name ≤ 1

once_kept : (w w' : State) → Once w → Holds w w' → Once w'
once_kept w w' once holds client name = elim (holds.times client name) [
  | inl few ↦ let before = once client name in omega arith
  | inr one ↦ one
]

pub once_all : (events : List Event) (w : State) → Once w → Once (after_all w events)
once_all [] w once = once
once_all (event ∷ events) w once =
    once_all events (after w event) (once_kept w (after w event) once (after_holds w event))

once_opening : (setup : Setup) → Once (opening_of setup)
unfolding opening_of
once_opening setup client name =
    let none = total-zero (named_on client name) setup.slots new_slot refl in omega arith

pub run_finds_one : (setup : Setup) (events : List Event)
    → FindsOne (after_all (opening_of setup) events)
run_finds_one setup events =
    finds_one (after_all (opening_of setup) events)
    (apart_all events (opening_of setup) (apart_opening setup))
    (once_all events (opening_of setup) (once_opening setup))

-- a reference stands until its own client takes it away
pub stands_all : (events : List Event) {w : State} (client name slot : ℕ) (entry : Entry)
    → Lawful w → list_any (takes_away client name) events ≡ false
    → held_at w client name slot ≡ Some entry
    → held_at (after_all w events) client name slot ≡ Some entry
stands_all [] client name slot entry l none held = held
stands_all (event ∷ events) {w} client name slot entry l none held =
    let parts = or_parts (takes_away client name event) _ none in
    stands_all events client name slot entry (lawful_after w event l) parts.1
    (after_stands w event l client name slot entry parts.0 held)

-- so in every run
pub run_stands : (setup : Setup) (before events : List Event) → CanOpen setup
    → (client name slot : ℕ) (entry : Entry)
    → list_any (takes_away client name) events ≡ false
    → held_at (after_all (opening_of setup) before) client name slot ≡ Some entry
    → held_at (after_all (after_all (opening_of setup) before) events) client name slot
    ≡ Some entry
run_stands setup before events can client name slot entry =
    stands_all events client name slot entry (every_run setup before can)

-- Entries.

-- a stamp is counted, once an event has shown it
outcome_counts : (w : State) (event : Event) (outcome : Outcome) (c : ℕ) → Added w event outcome
    → stamps_by (slice_get w.clients c) ≤ stamps_by (slice_get (world_after w outcome).clients c)
outcome_counts w event (Ok done) c a = let more = a.counts c in omega arith
outcome_counts w event (Err error) c a = omega arith

-- an entry whose stamp was counted before an event stood there before it
outcome_stood : (w : State) (event : Event) (outcome : Outcome) (slot : ℕ) (entry : Entry)
    → Added w event outcome
    → entry.stamp.number < stamps_by (slice_get w.clients entry.stamp.client)
    → entry_at (world_after w outcome) slot ≡ Some entry → entry_at w slot ≡ Some entry
outcome_stood w event (Ok done) slot entry a counted there = elim (a.entries slot entry there) [
  | inl old ↦ old
  | inr new ↦ absurd (let next = new.next in omega arith)
]
outcome_stood w event (Err error) slot entry a counted there = there

-- and before any events
stood_before : (events : List Event) (w : State) (slot : ℕ) (entry : Entry)
    → entry.stamp.number < stamps_by (slice_get w.clients entry.stamp.client)
    → entry_at (after_all w events) slot ≡ Some entry → entry_at w slot ≡ Some entry
stood_before [] w slot entry counted there = there
stood_before (event ∷ events) w slot entry counted there =
    let added = outcome_adds w event in
    let more = outcome_counts w event (outcome_of w event) entry.stamp.client added in
    outcome_stood w event (outcome_of w event) slot entry added counted
    (stood_before events (after w event) slot entry (omega arith) there)

-- stamps that are counted stay so
counted_on : (events : List Event) (w : State) (c : ℕ)
    → stamps_by (slice_get w.clients c) ≤ stamps_by (slice_get (after_all w events).clients c)
counted_on [] w c = omega arith
counted_on (event ∷ events) w c =
    let more = outcome_counts w event (outcome_of w event) c (outcome_adds w event) in
    let rest = counted_on events (after w event) c in
    omega arith

-- the world after events and more
after_both : (front rest : List Event) (w : State)
    → after_all w (front ++ rest) ≡ after_all (after_all w front) rest
after_both [] rest w = refl
after_both (event ∷ front) rest w = after_both front rest (after w event)

-- the stamp of a slot's entry
stamp_is : (o : Option Slot) (entry : Entry) → option_and_then entry_of o ≡ Some entry
    → stamp_in o ≡ Some entry.stamp
stamp_is None entry is = cc
stamp_is (Some (slots.Empty strays)) entry is = cc
stamp_is (Some (slots.Building client strays)) entry is = cc
stamp_is (Some (slots.Shareable r)) entry is =
    let same : r.entry ≡ entry = cc in ap Some (ap (λ (e : Entry). e.stamp) same)

-- so an entry that stands twice stands between
pub stands_between : (w : State) (events : List Event) → Lawful w → StandsBetween w events
stands_between w events l slot entry later here there same front rest is =
    stood_before rest (after_all w front) slot later counted ends
  where
    counted : later.stamp.number
        < stamps_by (slice_get (after_all w front).clients later.stamp.client)
    counted =
        let made = l.stamped.made slot later.stamp
        (stamp_is (slice_get w.slots slot) entry here ∙ ap Some (sym same)) in
        let more = counted_on front w later.stamp.client in
        omega arith

    ends : entry_at (after_all (after_all w front) rest) slot ≡ Some later
    ends = ap (λ (x : State). entry_at x slot) (sym (after_both front rest w))
        ∙ (ap (λ es. entry_at (after_all w es) slot) (sym is) ∙ there)

pub run_stands_between : (setup : Setup) (before events : List Event) → CanOpen setup
    → StandsBetween (after_all (opening_of setup) before) events
run_stands_between setup before events can =
    stands_between (after_all (opening_of setup) before) events (every_run setup before can)

-- what the show of a stamp gave, of these shows of each client
abbrev pub given_by : (ℕ → List Event) → Stamp → Option Entry
given_by shows stamp = option_and_then (entry_given stamp)
    (slice_get (shows stamp.client) stamp.number)

-- with these shows of each client so far, each client's count is that of its shows, and each entry
-- is what its show gave
pub record Given (w : State) (shows : ℕ → List Event) : Type 0 where
  pub counts : (c : ℕ) → length (shows c) ≡ stamps_by (slice_get w.clients c)
  pub entries : (slot : ℕ) (entry : Entry) → entry_at w slot ≡ Some entry
      → given_by shows entry.stamp ≡ Some entry

-- the same shows, in other words
given_same : (w : State) (shows shows' : ℕ → List Event) → ((c : ℕ) → shows c ≡ shows' c)
    → Given w shows → Given w shows'
given_same w shows shows' same g = record {
  counts = λ c. ap length (sym (same c)) ∙ g.counts c;
  entries = λ s e h.
      let gave = λ (list : List Event).
      option_and_then (entry_given e.stamp) (slice_get list e.stamp.number) in
      ap gave (sym (same e.stamp.client)) ∙ g.entries s e h;
}

-- how many events are in a list of one, where it is one
pub one_more : (event : Event) (b : Bool) → length (cond b (event ∷ []) []) ≡ when b 1
one_more event true = refl
one_more event false = refl

-- a step that is made
made_given : (w : State) (event : Event) (w' : State) (shows : ℕ → List Event) → Given w shows
    → Adds w event w' → Given w' (λ c. shows c ++ cond (is_show c event) (event ∷ []) [])
made_given w event w' shows g adds = record {
  counts = λ c.
      let all = length-append (shows c) (cond (is_show c event) (event ∷ []) []) in
      let before = g.counts c in
      let now = adds.counts c in
      let more = one_more event (is_show c event) in
      omega arith;
  entries = λ s e h. elim (adds.entries s e h) [
    | inl old ↦
        read_before (entry_given e.stamp) (shows e.stamp.client)
        _ e.stamp.number e (g.entries s e old)
    | inr new ↦
        let c : ℕ = e.stamp.client in
        let is_last : e.stamp.number ≡ length (shows c) = new.next ∙ sym (g.counts c) in
        let last = ap (slice_get (shows c ++ event ∷ [])) is_last ∙ read_last (shows c) event in
        rw new.shown (ap (option_and_then (entry_given e.stamp)) last ∙ new.given)
  ];
}

outcome_given : (w : State) (event : Event) (outcome : Outcome) (shows : ℕ → List Event)
    → Given w shows
    → Added w event outcome
    → Given (world_after w outcome)
    (λ c. shows c ++ cond (is_made outcome && is_show c event) (event ∷ []) [])
outcome_given w event (Ok done) shows g added = made_given w event done.1 shows g added
outcome_given w event (Err error) shows g added =
    given_same w shows _ (λ c. sym (append-nil (shows c))) g

-- after any event, refused or not
pub after_given : (w : State) (event : Event) (shows : ℕ → List Event) → Given w shows
    → Given (after w event) (λ c. shows c ++ shows_in c w event)
after_given w event shows g =
    outcome_given w event (outcome_of w event) shows g (outcome_adds w event)

-- and after any list of events
pub all_given : (events : List Event) (w : State) (shows : ℕ → List Event) → Given w shows
    → Given (after_all w events) (λ c. shows c ++ shows_of c w events)
all_given [] w shows g = given_same w shows _ (λ c. sym (append-nil (shows c))) g
all_given (event ∷ events) w shows g =
    let next = after w event in
    given_same _ _ _ (λ c. append_assoc (shows c) (shows_in c w event) (shows_of c next events))
    (all_given events next (λ c. shows c ++ shows_in c w event) (after_given w event shows g))

pub given_opening : (setup : Setup) → Given (opening_of setup) (λ c. [])
unfolding opening_of
given_opening setup = record {
  counts = λ c.
      none (slice_get (replicate setup.clients new_client) c)
      (in_replicate setup.clients c new_client);
  entries = λ s e h.
      absurd (nothing_in (option_and_then entry_of) setup.slots s new_slot e refl refl h);
}
  where
    none : (o : Option Client) → (o ≡ None) ⊎ (o ≡ Some new_client) → 0 ≡ stamps_by o
    none o (inl e) = sym (ap stamps_by e)
    none o (inr e) = sym (ap stamps_by e)

pub run_is_given : (setup : Setup) (events : List Event) → AreGiven (opening_of setup) events
run_is_given setup events =
    (all_given events (opening_of setup) (λ c. []) (given_opening setup)).entries
