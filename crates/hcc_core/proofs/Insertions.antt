-- What stands in slots after a run, with what was freed in it, weighs what stood in them before and
-- what was shown. So each entry that was shown stands in one slot or was freed once, and one that
-- was freed is gone.
use Rattle.std.proofs.Common.{◌≡◌, ◌⊎◌, inl, inr, ℕ, zero, suc, ◌+◌, ◌<◌, ◌≤◌, ◌&&◌, ◌==◌, Bool, true}
use Rattle.std.proofs.Common.{false, cond, List, [], ◌∷◌, ◌++◌, Option, Some, None, Ok, Err, length}
use Rattle.std.proofs.Common.{slice_get, refl, sym, ap, ◌∙◌, arith}
use Rattle.std.specs.Prelude.{option_and_then, option_to_list}
use Rattle.std.specs.List.{list_any}
use Rattle.std.proofs.lemmas.Bool.{cases_eq, cases_lt, false≢true}
use Rattle.std.proofs.lemmas.List.{append_assoc}
use Rattle.std.proofs.lemmas.Option.{slice_get_past}
use Rattle.hcc_core.specs.declared.event.Event.{Event}
use Rattle.hcc_core.specs.declared.event.Event.TheVariants as events
use Rattle.hcc_core.specs.declared.setup.Setup.{Setup}
use Rattle.hcc_core.specs.declared.slot.Entry.{Entry}
use Rattle.hcc_core.specs.declared.slot.Slot.{Slot}
use Rattle.hcc_core.specs.declared.slot.Slot.TheVariants as slots
use Rattle.hcc_core.specs.declared.slot.Stamp.{Stamp}
use Rattle.hcc_core.specs.Sums.{when, total, total_below}
use Rattle.hcc_core.specs.World.{State, stamp_of, has_reference}
use Rattle.hcc_core.specs.Outcomes.{Outcome, is_made}
use Rattle.hcc_core.specs.Steps.{outcome_of}
use Rattle.hcc_core.specs.Opening.{opening_of}
use Rattle.hcc_core.specs.Lawful.{Lawful, stamps_by, stamp_in}
use Rattle.hcc_core.specs.Runs.{world_after, after, after_all, entry_of, entry_at, entry_held}
use Rattle.hcc_core.specs.Runs.{is_show, shows_in, shows_of, entry_given, numbered}
use Rattle.hcc_core.specs.Runs.{entries_shown, entry_freed, frees_in, frees_of, slot_weighs}
use Rattle.hcc_core.specs.Runs.{slots_weigh, shows_weigh, AreBalanced, is_of, counts_of}
use Rattle.hcc_core.specs.Runs.{AreOnce, AreGone, FreesAreGiven}
use Rattle.hcc_core.proofs.ListLemmas.{read_before}
use Rattle.hcc_core.proofs.SumLemmas.{sum_at, total-append, total-member, total-once, total-nothing}
use Rattle.hcc_core.proofs.SumLemmas.{total_below-same, total_below-none, total_below-both}
use Rattle.hcc_core.proofs.SumLemmas.{total_below-most, total_below-member}
use Rattle.hcc_core.proofs.DeadParts.{same_stamp}
use Rattle.hcc_core.proofs.HeldNames.{any_counts}
use Rattle.hcc_core.proofs.Shows.{Added, outcome_adds, entry_shown}
use Rattle.hcc_core.proofs.EveryRun.{lawful_after, one_more, given_by, Given, after_given}
use Rattle.hcc_core.proofs.EveryRun.{given_opening}

-- One event.

-- what a client's shows of an event of this outcome are, and its frees
abbrev shows_then : ℕ → Event → Outcome → List Event
shows_then c event outcome = cond (is_made outcome && is_show c event) (event ∷ []) []

abbrev frees_then : ℕ → State → Event → Outcome → List Entry
frees_then c w event outcome =
    cond (is_made outcome) (option_to_list (entry_freed c w event)) []

-- the number of a client's next stamp
abbrev next_stamp : State → ℕ → ℕ
next_stamp w c = stamps_by (slice_get w.clients c)

-- an entry in a list weighs what it does alone
listed_weighs : (h : Entry → ℕ) (o : Option Entry) → total h (option_to_list o) ≡ sum_at h o
listed_weighs h None = refl
listed_weighs h (Some entry) = omega arith

given_weighs : (h : Entry → ℕ) (o : Option Entry) → total h (option_to_list o ++ []) ≡ sum_at h o
given_weighs h None = refl
given_weighs h (Some entry) = omega arith

-- a show in a list weighs the entry that it gives
show_weighs : (h : Entry → ℕ) (c k : ℕ) (event : Event) (b : Bool)
    → total h (numbered c k (cond b (event ∷ []) []))
    ≡ sum_at h (cond b (entry_given (record { client = c; number = k }) event) None)
show_weighs h c k event true =
    given_weighs h (entry_given (record { client = c; number = k }) event)
show_weighs h c k event false = refl

-- what all clients' frees of an event of this outcome weigh, and their shows
abbrev frees_weigh_then : (Entry → ℕ) → State → Event → Outcome → ℕ
frees_weigh_then h w event outcome =
    total_below (λ c. total h (frees_then c w event outcome)) (length w.clients)

abbrev shows_weigh_then : (Entry → ℕ) → State → Event → Outcome → ℕ
shows_weigh_then h w event outcome =
    total_below (λ c. total h (numbered c (next_stamp w c) (shows_then c event outcome)))
    (length w.clients)

outcome_weighs : (w : State) (event : Event) (outcome : Outcome) → Added w event outcome → Lawful w
    → (h : Entry → ℕ)
    → slots_weigh h (world_after w outcome) + frees_weigh_then h w event outcome
    ≡ slots_weigh h w + shows_weigh_then h w event outcome
outcome_weighs w event (Ok done) a l h =
    let balance = a.weighs l h in
    let frees = total_below-same (λ c. total h (option_to_list (entry_freed c w event)))
    (λ c. sum_at h (entry_freed c w event)) (length w.clients)
    (λ c. listed_weighs h (entry_freed c w event)) in
    let shows = total_below-same
    (λ c. total h (numbered c (next_stamp w c) (shows_then c event (Ok done))))
    (λ c. sum_at h (entry_shown c w event)) (length w.clients)
    (λ c. show_weighs h c (next_stamp w c) event (is_show c event)) in
    omega arith
outcome_weighs w event (Err error) a l h =
    let frees = total_below-none (λ c. total h (frees_then c w event (Err error)))
    (length w.clients) (λ c within. refl) in
    let shows = total_below-none
    (λ c. total h (numbered c (next_stamp w c) (shows_then c event (Err error))))
    (length w.clients) (λ c within. refl) in
    omega arith

-- a client's next stamp once its shows of the event were counted
outcome_stamps : (w : State) (event : Event) (outcome : Outcome) (c : ℕ) → Added w event outcome
    → next_stamp (world_after w outcome) c
    ≡ next_stamp w c + length (shows_then c event outcome)
outcome_stamps w event (Ok done) c a =
    let more = a.counts c in let one = one_more event (is_show c event) in omega arith
outcome_stamps w event (Err error) c a = omega arith

outcome_many : (w : State) (event : Event) (outcome : Outcome) → Added w event outcome
    → length (world_after w outcome).clients ≡ length w.clients
outcome_many w event (Ok done) a = a.many
outcome_many w event (Err error) a = refl

-- Any list of events.

-- entries are numbered on behind those of the first events
numbered_both : (h : Entry → ℕ) (c k : ℕ) (xs ys : List Event)
    → total h (numbered c k (xs ++ ys))
    ≡ total h (numbered c k xs) + total h (numbered c (k + length xs) ys)
numbered_both h c k [] ys =
    let same : k ≡ k + 0 = omega arith in
    let weighs = ap (λ n. total h (numbered c n ys)) same in
    omega arith
numbered_both h c k (x ∷ xs) ys =
    let first = option_to_list (entry_given (record { client = c; number = k }) x) in
    let whole = total-append h first (numbered c (k + 1) (xs ++ ys)) in
    let front = total-append h first (numbered c (k + 1) xs) in
    let rest = numbered_both h c (k + 1) xs ys in
    let next = ap (λ n. total h (numbered c n ys))
    (let same : k + 1 + length xs ≡ k + length (x ∷ xs) = omega arith in same) in
    omega arith

-- what stands and what was freed weigh what stood and what was shown
pub balanced : (events : List Event) (w : State) → Lawful w → AreBalanced w events
balanced [] w l h =
    let frees = total_below-none (λ c. total h (frees_of c w [])) (length w.clients)
    (λ c within. refl) in
    let shows = total_below-none (λ c. total h (entries_shown c w [])) (length w.clients)
    (λ c within. refl) in
    omega arith
balanced (event ∷ events) w l h =
    let next : State = after w event in
    let many : length next.clients ≡ length w.clients =
    outcome_many w event (outcome_of w event) adds in
    let step = outcome_weighs w event (outcome_of w event) adds l h in
    let rest = balanced events next (lawful_after w event l) h in
    let frees_rest = ap (total_below (λ c. total h (frees_of c next events))) many in
    let shows_rest = ap (total_below (λ c. total h (entries_shown c next events))) many in
    let frees = total_below-same (λ c. total h (frees_of c w (event ∷ events)))
    (λ c. total h (frees_in c w event) + total h (frees_of c next events)) (length w.clients)
    (λ c. total-append h (frees_in c w event) (frees_of c next events)) in
    let frees_sum = total_below-both (λ c. total h (frees_in c w event))
    (λ c. total h (frees_of c next events)) (length w.clients) in
    let shows = total_below-same (λ c. total h (entries_shown c w (event ∷ events)))
    (λ c. total h (numbered c (next_stamp w c) (shows_in c w event))
    + total h (entries_shown c next events)) (length w.clients) both in
    let shows_sum = total_below-both
    (λ c. total h (numbered c (next_stamp w c) (shows_in c w event)))
    (λ c. total h (entries_shown c next events)) (length w.clients) in
    omega arith
  where
    adds : Added w event (outcome_of w event)
    adds = outcome_adds w event

    both : (c : ℕ) → total h (entries_shown c w (event ∷ events))
        ≡ total h (numbered c (next_stamp w c) (shows_in c w event))
        + total h (entries_shown c (after w event) events)
    both c =
        let sum = numbered_both h c (next_stamp w c) (shows_in c w event)
        (shows_of c (after w event) events) in
        let count = outcome_stamps w event (outcome_of w event) c adds in
        let same = ap (λ n. total h (numbered c n (shows_of c (after w event) events))) count in
        omega arith

-- Entries of one stamp.

-- whoever shows or frees is a client of the world
shower_there : (w : State) (event : Event) (outcome : Outcome) (c : ℕ) → Added w event outcome
    → length w.clients ≤ c → shows_then c event outcome ≡ []
shower_there w event (Ok done) c a past = by (is_show c event) refl
  where
    none : stamps_by (slice_get done.1.clients c) ≡ 0
    none = ap stamps_by (slice_get_past done.1.clients c (let many = a.many in omega arith))

    by : (b : Bool) → is_show c event ≡ b → cond b (event ∷ []) [] ≡ []
    by true is =
        let more = a.counts c in
        let one : when (is_show c event) 1 ≡ 1 = rw is refl in
        absurd (let zero = none in omega arith)
    by false is = refl
shower_there w event (Err error) c a past = refl

freer_there : (w : State) (event : Event) (outcome : Outcome) (c : ℕ) → Added w event outcome
    → length w.clients ≤ c → frees_then c w event outcome ≡ []
freer_there w event (Ok done) c a past = ap option_to_list (a.there c past)
freer_there w event (Err error) c a past = refl

-- so nobody else shows or frees in a run
shows_past : (events : List Event) (w : State) (c : ℕ) → length w.clients ≤ c
    → shows_of c w events ≡ []
shows_past [] w c past = refl
shows_past (event ∷ events) w c past =
    let a = outcome_adds w event in
    let many = outcome_many w event (outcome_of w event) a in
    let first = shower_there w event (outcome_of w event) c a past in
    let rest = shows_past events (after w event) c (omega arith) in
    ap (λ xs. xs ++ shows_of c (after w event) events) first ∙ rest

frees_past : (events : List Event) (w : State) (c : ℕ) → length w.clients ≤ c
    → frees_of c w events ≡ []
frees_past [] w c past = refl
frees_past (event ∷ events) w c past =
    let a = outcome_adds w event in
    let many = outcome_many w event (outcome_of w event) a in
    let first = freer_there w event (outcome_of w event) c a past in
    let rest = frees_past events (after w event) c (omega arith) in
    ap (λ xs. xs ++ frees_of c (after w event) events) first ∙ rest

-- what one client's list has is counted among all clients' lists
counted_among : (stamp : Stamp) (of : ℕ → List Entry) (n c : ℕ)
    → (n ≤ c → of c ≡ []) → list_any (is_of stamp) (of c) ≡ true
    → 1 ≤ total_below (λ k. total (counts_of stamp) (of k)) n
counted_among stamp of n c past some = elim (cases_lt c n) [
  | inl there ↦
      let one = any_counts (is_of stamp) (of c) some in
      let within = total_below-member (λ k. total (counts_of stamp) (of k)) n c there in
      omega arith
  | inr beyond ↦
      absurd (false≢true (sym (ap (list_any (is_of stamp)) (past beyond)) ∙ some))
]

-- the entry of a show has the stamp under which it was shown
given_stamp : (stamp : Stamp) (event : Event) (entry : Entry)
    → entry_given stamp event ≡ Some entry → entry.stamp ≡ stamp
given_stamp stamp (events.Show maker key0 key1 charge countdown name value) entry h =
    let is : record { key0 = key0; key1 = key1; stamp = stamp; value = value; charge = charge }
    ≡ entry = cc in
    ap (λ (e : Entry). e.stamp) (sym is)
given_stamp stamp other entry h = cc

-- an entry counts once, where it has the stamp
counts_once : (stamp : Stamp) (entry : Entry) → counts_of stamp entry ≤ 1
counts_once stamp entry = by (is_of stamp entry)
  where
    by : (b : Bool) → when b 1 ≤ 1
    by true = omega arith
    by false = omega arith

counts_same : (stamp : Stamp) (entry : Entry) → 1 ≤ counts_of stamp entry → stamp ≡ entry.stamp
counts_same stamp entry h = by (is_of stamp entry) refl h
  where
    by : (b : Bool) → is_of stamp entry ≡ b → 1 ≤ when b 1 → stamp ≡ entry.stamp
    by true is one = same_stamp stamp entry.stamp is
    by false is one = absurd (omega arith)

-- what a show gives counts once, and only for its own stamp
shown_counts : (stamp under : Stamp) (o : Option Entry)
    → ((entry : Entry) → o ≡ Some entry → entry.stamp ≡ under)
    → (total (counts_of stamp) (option_to_list o) ≡ 0)
    ⊎ ((total (counts_of stamp) (option_to_list o) ≡ 1) × (stamp ≡ under))
shown_counts stamp under None is = inl refl
shown_counts stamp under (Some entry) is = elim (cases_eq (counts_of stamp entry) 0) [
  | inl none ↦ inl (omega arith)
  | inr some ↦
      let once = counts_once stamp entry in
      inr (omega arith, counts_same stamp entry (omega arith) ∙ is entry refl)
]

-- entries that are numbered from one on don't have another client's stamp, nor an earlier one
numbered_other : (stamp : Stamp) (c k : ℕ) (events : List Event)
    → ((c ≡ stamp.client) → stamp.number < k)
    → total (counts_of stamp) (numbered c k events) ≡ 0
numbered_other stamp c k [] past = refl
numbered_other stamp c k (event ∷ events) past =
    let o = entry_given (record { client = c; number = k }) event in
    let all = total-append (counts_of stamp) (option_to_list o) (numbered c (k + 1) events) in
    let rest = numbered_other stamp c (k + 1) events
    (λ same. let less = past same in omega arith) in
    elim (shown_counts stamp (record { client = c; number = k }) o
    (given_stamp (record { client = c; number = k }) event)) [
      | inl none ↦ omega arith
      | inr one ↦
          let less = past (ap (λ (m : Stamp). m.client) (sym one.1)) in
          let same = ap (λ (m : Stamp). m.number) one.1 in
          absurd (omega arith)
    ]

-- and each stamp comes once among them
numbered_once : (stamp : Stamp) (c k : ℕ) (events : List Event)
    → total (counts_of stamp) (numbered c k events) ≤ 1
numbered_once stamp c k [] = omega arith
numbered_once stamp c k (event ∷ events) =
    let o = entry_given (record { client = c; number = k }) event in
    let all = total-append (counts_of stamp) (option_to_list o) (numbered c (k + 1) events) in
    elim (shown_counts stamp (record { client = c; number = k }) o
    (given_stamp (record { client = c; number = k }) event)) [
      | inl none ↦ let rest = numbered_once stamp c (k + 1) events in omega arith
      | inr one ↦
          let same = ap (λ (m : Stamp). m.number) one.1 in
          let rest = numbered_other stamp c (k + 1) events (λ mine. omega arith) in
          omega arith
    ]

-- so a run shows each stamp once at most, and none that was counted before
shown_once : (stamp : Stamp) (w : State) (events : List Event)
    → shows_weigh (counts_of stamp) w events ≤ 1
shown_once stamp w events =
    let most = total_below-most (λ c. total (counts_of stamp) (entries_shown c w events))
    (length w.clients) stamp.client
    (λ c other. numbered_other stamp c (next_stamp w c) (shows_of c w events)
    (λ same. absurd (other same))) in
    let once = numbered_once stamp stamp.client (next_stamp w stamp.client)
    (shows_of stamp.client w events) in
    omega arith

shown_new : (stamp : Stamp) (w : State) (events : List Event)
    → stamp.number < next_stamp w stamp.client → shows_weigh (counts_of stamp) w events ≡ 0
shown_new stamp w events counted =
    total_below-none (λ c. total (counts_of stamp) (entries_shown c w events)) (length w.clients)
    (λ c within. numbered_other stamp c (next_stamp w c) (shows_of c w events)
    (λ same. let is = ap (next_stamp w) same in omega arith))

-- a slot that counts has the stamp
slot_once : (stamp : Stamp) (slot : Slot) → slot_weighs (counts_of stamp) slot ≤ 1
slot_once stamp (slots.Empty strays) = omega arith
slot_once stamp (slots.Building client strays) = omega arith
slot_once stamp (slots.Shareable r) = counts_once stamp r.entry

slot_has : (stamp : Stamp) (slot : Slot) → 1 ≤ slot_weighs (counts_of stamp) slot
    → stamp_of slot ≡ Some stamp
slot_has stamp (slots.Empty strays) some = absurd (omega arith)
slot_has stamp (slots.Building client strays) some = absurd (omega arith)
slot_has stamp (slots.Shareable r) some = ap Some (sym (counts_same stamp r.entry some))

slot_at_has : (stamp : Stamp) (w : State) (s : ℕ) (slot : Slot) → slice_get w.slots s ≡ Some slot
    → slot_weighs (counts_of stamp) slot ≡ 1 → stamp_in (slice_get w.slots s) ≡ Some stamp
slot_at_has stamp w s slot at one = ap stamp_in at ∙ slot_has stamp slot (omega arith)

-- a lawful world has each stamp in one slot at most, and none that isn't counted
stands_once : (stamp : Stamp) (w : State) → Lawful w → slots_weigh (counts_of stamp) w ≤ 1
stands_once stamp w l =
    total-once (slot_weighs (counts_of stamp)) w.slots (slot_once stamp)
    (λ i j x y at at' one two. l.stamped.apart i j stamp (slot_at_has stamp w i x at one)
    (slot_at_has stamp w j y at' two))

stands_counted : (stamp : Stamp) (w : State) → Lawful w
    → next_stamp w stamp.client ≤ stamp.number → slots_weigh (counts_of stamp) w ≡ 0
stands_counted stamp w l uncounted =
    total-nothing (slot_weighs (counts_of stamp)) w.slots (λ s slot at.
    elim (cases_eq (slot_weighs (counts_of stamp) slot) 1) [
      | inl one ↦
          let made = l.stamped.made s stamp (slot_at_has stamp w s slot at one) in
          absurd (omega arith)
      | inr other ↦ let most = slot_once stamp slot in omega arith
    ])

-- before a run and in it there is one entry of a stamp at most
one_entry : (stamp : Stamp) (w : State) (events : List Event) → Lawful w
    → slots_weigh (counts_of stamp) w + shows_weigh (counts_of stamp) w events ≤ 1
one_entry stamp w events l = elim (cases_lt stamp.number (next_stamp w stamp.client)) [
  | inl counted ↦
      let stands = stands_once stamp w l in
      let none = shown_new stamp w events counted in
      omega arith
  | inr uncounted ↦
      let none = stands_counted stamp w l uncounted in
      let shown = shown_once stamp w events in
      omega arith
]

-- an entry that was shown stands or was freed, once
pub shown_are_once : (w : State) (events : List Event) → Lawful w → AreOnce w events
shown_are_once w events l c stamp some =
    let balance = balanced events w l (counts_of stamp) in
    let most = one_entry stamp w events l in
    let one = counted_among stamp (λ k. entries_shown k w events) (length w.clients) c
    (λ past. ap (numbered c (next_stamp w c)) (shows_past events w c past)) some in
    omega arith

-- an entry that stands is within what the slots weigh
stands_within : (h : Entry → ℕ) (w : State) (s : ℕ) (entry : Entry) (o : Option Slot)
    → slice_get w.slots s ≡ o → option_and_then entry_of o ≡ Some entry → h entry ≤ slots_weigh h w
stands_within h w s entry None at is = cc
stands_within h w s entry (Some (slots.Empty strays)) at is = cc
stands_within h w s entry (Some (slots.Building client strays)) at is = cc
stands_within h w s entry (Some (slots.Shareable r)) at is =
    let same : r.entry ≡ entry = cc in
    let as_much = ap h same in
    let within = total-member (slot_weighs h) w.slots s (slots.Shareable r) at in
    omega arith

-- what is held is the entry that stands in the slot
held_stands : (client name : ℕ) (entry : Entry) (o : Option Slot)
    → option_and_then (entry_held client name) o ≡ Some entry
    → option_and_then entry_of o ≡ Some entry
held_stands client name entry None h = cc
held_stands client name entry (Some slot) h = by (has_reference client name slot) h
  where
    by : (b : Bool) → cond b (entry_of slot) None ≡ Some entry → entry_of slot ≡ Some entry
    by true is = is
    by false is = cc

-- an entry that was freed is gone
pub freed_are_gone : (w : State) (events : List Event) → Lawful w → AreGone w events
freed_are_gone w events l c stamp some = record {
  unplaced = gone;
  unheld = λ client name slot entry held.
      gone slot entry (held_stands client name entry (slice_get end.slots slot) held);
}
  where
    end : State
    end = after_all w events

    none : slots_weigh (counts_of stamp) end ≡ 0
    none =
        let balance = balanced events w l (counts_of stamp) in
        let most = one_entry stamp w events l in
        let one = counted_among stamp (λ k. frees_of k w events) (length w.clients) c
        (λ past. frees_past events w c past) some in
        omega arith

    gone : (slot : ℕ) (entry : Entry) → entry_at end slot ≡ Some entry → is_of stamp entry ≡ false
    gone slot entry there =
        by (is_of stamp entry)
        (let within = stands_within (counts_of stamp) end slot entry _ refl there in
        let zero = none in omega arith)
      where
        by : (b : Bool) → when b 1 ≤ 0 → b ≡ false
        by true few = absurd (omega arith)
        by false few = refl

-- What was freed.

-- a member of two lists together is one of the first or of the second
in_either : {X : Type 0} (xs ys : List X) (i : ℕ) (x : X) → slice_get (xs ++ ys) i ≡ Some x
    → (slice_get xs i ≡ Some x) ⊎ ((j : ℕ) × (slice_get ys j ≡ Some x))
in_either [] ys i x h = inr (i, h)
in_either (z ∷ zs) ys zero x h = inl h
in_either (z ∷ zs) ys (suc i) x h = in_either zs ys i x h

-- an entry that an event frees stood in a slot before it
freed_stood : (client : ℕ) (w : State) (event : Event) (entry : Entry)
    → entry_freed client w event ≡ Some entry → (slot : ℕ) × (entry_at w slot ≡ Some entry)
freed_stood client w (events.Free taker slot name) entry h = by (taker == client) h
  where
    by : (b : Bool) → cond b (entry_at w slot) None ≡ Some entry
        → (slot : ℕ) × (entry_at w slot ≡ Some entry)
    by true h = (slot, h)
    by false h = cc
freed_stood client w other entry h = cc

listed_freed : (client : ℕ) (w : State) (event : Event) (outcome : Outcome) (i : ℕ) (entry : Entry)
    → slice_get (frees_then client w event outcome) i ≡ Some entry
    → entry_freed client w event ≡ Some entry
listed_freed client w event (Ok done) i entry h = by (entry_freed client w event) i h
  where
    by : (o : Option Entry) (i : ℕ) → slice_get (option_to_list o) i ≡ Some entry → o ≡ Some entry
    by None i h = cc
    by (Some found) zero h = h
    by (Some found) (suc i) h = cc
listed_freed client w event (Err error) i entry h = cc

-- with these shows of each client so far, what is freed in a run is what its show gave
freed_given : (events : List Event) (w : State) (shows : ℕ → List Event) → Given w shows
    → (client i : ℕ) (entry : Entry) → slice_get (frees_of client w events) i ≡ Some entry
    → given_by (λ c. shows c ++ shows_of c w events) entry.stamp ≡ Some entry
freed_given [] w shows g client i entry h = cc
freed_given (event ∷ events) w shows g client i entry h =
    elim (in_either (frees_in client w event) (frees_of client next events) i entry h) [
      | inl now ↦
          let stood = freed_stood client w event entry
          (listed_freed client w event (outcome_of w event) i entry now) in
          read_before (entry_given entry.stamp) (shows entry.stamp.client)
          _ entry.stamp.number entry (g.entries stood.0 entry stood.1)
      | inr later ↦
          let rest = freed_given events next (λ c. shows c ++ shows_in c w event)
          (after_given w event shows g) client later.0 entry later.1 in
          let c : ℕ = entry.stamp.client in
          let same = append_assoc (shows c) (shows_in c w event) (shows_of c next events) in
          ap gave (sym same) ∙ rest
    ]
  where
    next : State
    next = after w event

    gave : List Event → Option Entry
    gave list = option_and_then (entry_given entry.stamp) (slice_get list entry.stamp.number)

pub frees_are_given : (setup : Setup) (events : List Event)
    → FreesAreGiven (opening_of setup) events
frees_are_given setup events =
    freed_given events (opening_of setup) (λ c. []) (given_opening setup)
