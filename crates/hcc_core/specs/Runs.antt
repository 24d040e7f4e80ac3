-- What is said of runs. A run tries events one after the other from a world; what is refused
-- changes nothing. The worlds on the way are the worlds after the fronts of the run.
use Rattle.std.specs.Prelude.{◌≡◌, ℕ, ◌+◌, ◌^◌, ◌<◌, ◌≤◌, Bool, false, ◌&&◌, ◌==◌, List, [], ◌∷◌}
use Rattle.std.specs.Prelude.{◌++◌, Option, Some, None, Ok, Err, slice_get, option_and_then, length}
use Rattle.std.specs.Prelude.{if◌then◌else◌, option_to_list, true}
use Rattle.std.specs.List.{list_any}
use Rattle.hcc_core.specs.declared.slot.Stamp.{Stamp}
use Rattle.hcc_core.specs.declared.slot.Entry.{Entry}
use Rattle.hcc_core.specs.declared.slot.Slot.{Slot}
use Rattle.hcc_core.specs.declared.slot.Slot.TheVariants as slots
use Rattle.hcc_core.specs.declared.event.Event.{Event}
use Rattle.hcc_core.specs.declared.event.Event.TheVariants as events
use Rattle.hcc_core.specs.Sums.{when, total, total_below}
use Rattle.hcc_core.specs.World.{State, references_of, uses_of, weight_of, strays_of, is_named}
use Rattle.hcc_core.specs.World.{has_reference, slot_holding}
use Rattle.hcc_core.specs.Outcomes.{Outcome, is_made}
use Rattle.hcc_core.specs.References.{is_stamp}
use Rattle.hcc_core.specs.Steps.{outcome_of}
use Rattle.hcc_core.specs.Lawful.{stamps_by}

-- The worlds on the way.

-- the world after an outcome: a refusal changes nothing
abbrev pub world_after : State → Outcome → State
world_after world (Ok done) = done.1
world_after world (Err error) = world

-- the world after an event, and after events in turn
abbrev pub after : State → Event → State
after world event = world_after world (outcome_of world event)

abbrev pub after_all : State → List Event → State
after_all world [] = world
after_all world (event ∷ events) = after_all (after world event) events

-- Counters.

-- the acquires of each slot fit a counter of 30 bits: as uses and references of an entry, or strays
pub record CountersFit (world : State) : Type 0 where
  pub entries : (s : ℕ) (slot : Slot) → slice_get world.slots s ≡ Some slot
      → uses_of slot + weight_of slot < 2 ^ 30
  pub strays : (s : ℕ) (slot : Slot) → slice_get world.slots s ≡ Some slot
      → strays_of slot < 2 ^ 30

-- References.

-- the entry of a slot
abbrev pub entry_of : Slot → Option Entry
entry_of (slots.Empty strays) = None
entry_of (slots.Building client strays) = None
entry_of (slots.Shareable r) = Some r.entry

abbrev pub entry_at : State → ℕ → Option Entry
entry_at world slot = option_and_then entry_of (slice_get world.slots slot)

-- the entry on which this client holds a reference of this name, if it does so on this slot
abbrev pub entry_held : ℕ → ℕ → Slot → Option Entry
entry_held client name slot = if has_reference client name slot then entry_of slot else None

abbrev pub held_at : State → ℕ → ℕ → ℕ → Option Entry
held_at world client name slot =
    option_and_then (entry_held client name) (slice_get world.slots slot)

-- whether a step of a client by a name, if it gives one, is by this client and this name
abbrev pub is_by_name : ℕ → ℕ → ℕ → Option ℕ → Bool
is_by_name client name c None = false
is_by_name client name c (Some n) = (c == client) && (n == name)

-- whether the event takes this client's reference of this name away: the client's own give or use
-- of it, or its free of the slot by that name
abbrev pub takes_away : ℕ → ℕ → Event → Bool
takes_away client name (events.Give c n) = (c == client) && (n == name)
takes_away client name (events.Use c n) = (c == client) && (n == name)
takes_away client name (events.Free c slot n) = is_by_name client name c n
takes_away client name other = false

-- this client's reference of this name stands, on some slot
abbrev pub Stands : State → ℕ → ℕ → Type 0
Stands world client name =
    (slot : ℕ) × (entry : Entry) × (held_at world client name slot ≡ Some entry)

-- it stands in this world, in the world after the events, and in all worlds between
abbrev pub StandsThrough : State → List Event → ℕ → ℕ → Type 0
StandsThrough world [] client name = Stands world client name
StandsThrough world (event ∷ events) client name =
    Stands world client name × StandsThrough (after world event) events client name

-- a reference that stands so has one slot and one entry, in the first world and in the last
abbrev pub KeepsPlaces : State → List Event → Type 0
KeepsPlaces world events =
    (client name : ℕ) → StandsThrough world events client name
    → (slot slot' : ℕ) (entry entry' : Entry)
    → held_at world client name slot ≡ Some entry
    → held_at (after_all world events) client name slot' ≡ Some entry'
    → (slot ≡ slot') × (entry ≡ entry')

-- how many references of this client and name a slot has, and a world
abbrev pub named_on : ℕ → ℕ → Slot → ℕ
named_on client name slot = total (λ k. when (is_named client name k) 1) (references_of slot)

abbrev pub named_in : State → ℕ → ℕ → ℕ
named_in world client name = total (named_on client name) world.slots

-- a client has one reference of a name at most, and a step that is given the name finds the slot on
-- which it stands
pub record FindsOne (world : State) : Type 0 where
  pub one : (client name : ℕ) → named_in world client name ≤ 1
  pub stands : (client name slot : ℕ) → slot_holding world.slots client name ≡ Some slot
      → (entry : Entry) × (held_at world client name slot ≡ Some entry)
  pub found : (client name slot : ℕ) (entry : Entry)
      → held_at world client name slot ≡ Some entry
      → slot_holding world.slots client name ≡ Some slot

-- Entries.

-- an entry that stands in a slot in this world and in the one after the events, by its stamp, is
-- the same in both, and stands there in all worlds between
abbrev pub StandsBetween : State → List Event → Type 0
StandsBetween world events =
    (slot : ℕ) (entry later : Entry) → entry_at world slot ≡ Some entry
    → entry_at (after_all world events) slot ≡ Some later → later.stamp ≡ entry.stamp
    → (front rest : List Event) → events ≡ front ++ rest
    → entry_at (after_all world front) slot ≡ Some later

-- whether the event is a show of this client
abbrev pub is_show : ℕ → Event → Bool
is_show client (events.Show maker key0 key1 charge countdown name value) = maker == client
is_show client other = false

-- the event, where it is a show of this client that is allowed
abbrev pub shows_in : ℕ → State → Event → List Event
shows_in client world event =
    if is_made (outcome_of world event) && is_show client event then event ∷ [] else []

-- the shows of this client that are allowed in a run, the first one first
abbrev pub shows_of : ℕ → State → List Event → List Event
shows_of client world [] = []
shows_of client world (event ∷ events) =
    shows_in client world event ++ shows_of client (after world event) events

-- the entry that a show gives under a stamp: its key, its value and its charge
abbrev pub entry_given : Stamp → Event → Option Entry
entry_given stamp (events.Show maker key0 key1 charge countdown name value) =
    Some (record { key0 = key0; key1 = key1; stamp = stamp; value = value; charge = charge })
entry_given stamp other = None

-- what the show of a stamp gave: of the shows of its client the one of its number, from 0
abbrev pub given_as : Stamp → State → List Event → Option Entry
given_as stamp world events =
    option_and_then (entry_given stamp)
    (slice_get (shows_of stamp.client world events) stamp.number)

-- each entry after the events is what the show of its stamp gave
abbrev pub AreGiven : State → List Event → Type 0
AreGiven world events =
    (slot : ℕ) (entry : Entry) → entry_at (after_all world events) slot ≡ Some entry
    → given_as entry.stamp world events ≡ Some entry

-- Insertions: what was shown, and what was taken to free its slot.

-- the entries that shows gave, under the stamps of their client from this number on
abbrev pub numbered : (client number : ℕ) → List Event → List Entry
numbered client number [] = []
numbered client number (event ∷ events) =
    option_to_list (entry_given (record { client = client; number = number }) event)
    ++ numbered client (number + 1) events

-- the entries that this client's shows gave that are allowed in a run, the first one first
abbrev pub entries_shown : ℕ → State → List Event → List Entry
entries_shown client world events =
    numbered client (stamps_by (slice_get world.clients client)) (shows_of client world events)

-- the entry that stands in the slot that the event frees, if it is a free of this client
abbrev pub entry_freed : ℕ → State → Event → Option Entry
entry_freed client world (events.Free taker slot name) =
    if taker == client then entry_at world slot else None
entry_freed client world other = None

-- the entry that the event takes, where it is a free of this client that is allowed
abbrev pub frees_in : ℕ → State → Event → List Entry
frees_in client world event =
    if is_made (outcome_of world event) then option_to_list (entry_freed client world event) else []

-- the entries that this client's frees took that are allowed in a run, the first one first
abbrev pub frees_of : ℕ → State → List Event → List Entry
frees_of client world [] = []
frees_of client world (event ∷ events) =
    frees_in client world event ++ frees_of client (after world event) events

-- each entry that was freed is what the show of its stamp gave
abbrev pub FreesAreGiven : State → List Event → Type 0
FreesAreGiven world events =
    (client number : ℕ) (entry : Entry)
    → slice_get (frees_of client world events) number ≡ Some entry
    → given_as entry.stamp world events ≡ Some entry

-- What a weighing of entries finds in a slot, in a world, and in what all clients of a world showed
-- or freed in a run.

abbrev pub slot_weighs : (Entry → ℕ) → Slot → ℕ
slot_weighs h (slots.Empty strays) = 0
slot_weighs h (slots.Building client strays) = 0
slot_weighs h (slots.Shareable r) = h r.entry

abbrev pub slots_weigh : (Entry → ℕ) → State → ℕ
slots_weigh h world = total (slot_weighs h) world.slots

abbrev pub shows_weigh : (Entry → ℕ) → State → List Event → ℕ
shows_weigh h world events =
    total_below (λ client. total h (entries_shown client world events)) (length world.clients)

abbrev pub frees_weigh : (Entry → ℕ) → State → List Event → ℕ
frees_weigh h world events =
    total_below (λ client. total h (frees_of client world events)) (length world.clients)

-- however entries are weighed, those in slots after the events and those that were freed weigh what
-- those in slots before and those that were shown do
abbrev pub AreBalanced : State → List Event → Type 0
AreBalanced world events =
    (h : Entry → ℕ)
    → slots_weigh h (after_all world events) + frees_weigh h world events
    ≡ slots_weigh h world + shows_weigh h world events

-- the weighing that counts the entries of one stamp
abbrev pub is_of : Stamp → Entry → Bool
is_of stamp entry = is_stamp stamp entry.stamp

abbrev pub counts_of : Stamp → Entry → ℕ
counts_of stamp entry = when (is_of stamp entry) 1

-- each entry that was shown, by its stamp, stands in one slot after the events or was freed by one
-- of them, once
abbrev pub AreOnce : State → List Event → Type 0
AreOnce world events =
    (client : ℕ) (stamp : Stamp)
    → list_any (is_of stamp) (entries_shown client world events) ≡ true
    → slots_weigh (counts_of stamp) (after_all world events)
    + frees_weigh (counts_of stamp) world events
    ≡ 1

-- no slot has the entry of this stamp, and nobody holds a reference on it
pub record IsGone (world : State) (stamp : Stamp) : Type 0 where
  pub unplaced : (slot : ℕ) (entry : Entry) → entry_at world slot ≡ Some entry
      → is_of stamp entry ≡ false
  pub unheld : (client name slot : ℕ) (entry : Entry) → held_at world client name slot ≡ Some entry
      → is_of stamp entry ≡ false

-- each entry that was freed is gone after the events
abbrev pub AreGone : State → List Event → Type 0
AreGone world events =
    (client : ℕ) (stamp : Stamp)
    → list_any (is_of stamp) (frees_of client world events) ≡ true
    → IsGone (after_all world events) stamp
