-- The lawful worlds: what holds of each world that events lead to from an opening world. Each part
-- speaks of some readings alone, so a step that leaves these readings keeps the part.
use Rattle.std.specs.Prelude.{◌≡◌, ℕ, ◌+◌, ◌*◌, ◌<◌, ◌≤◌, List, Option, Some, None, length}
use Rattle.std.specs.Prelude.{slice_get, option_and_then, Bool, true, [], if◌then◌else◌}
use Rattle.std.specs.List.{list_any}
use Rattle.hcc_core.specs.declared.limits.TheConstants.{MOST_SLOTS, MOST_CLIENTS, MOST_WEIGHT}
use Rattle.hcc_core.specs.declared.limits.TheConstants.{MOST_REFERENCES, NEAR, MOST_USAGE}
use Rattle.hcc_core.specs.declared.setup.Setup.{Setup}
use Rattle.hcc_core.specs.declared.slot.Stamp.{Stamp}
use Rattle.hcc_core.specs.declared.client.Client.{Client}
use Rattle.hcc_core.specs.declared.client.Owned.{Owned}
use Rattle.hcc_core.specs.declared.client.Owned.TheVariants as owned
use Rattle.hcc_core.specs.declared.slot.Slot.{Slot}
use Rattle.hcc_core.specs.declared.slot.Slot.TheVariants as slots
use Rattle.hcc_core.specs.Sums.{when, total}
use Rattle.hcc_core.specs.World.{State, taken_by_slot, strays_of, references_of, uses_of, stamp_of}
use Rattle.hcc_core.specs.World.{weight_of, counted, trail_of, is_granted, usage_of, limit_of}
use Rattle.hcc_core.specs.World.{standing_of, charge_of}
use Rattle.hcc_core.specs.References.{is_stamp, looks_at, most_weight}

-- Readings of a slot or a client that may not be there.

-- who owns a slot
abbrev pub owner_of : Slot → Option ℕ
owner_of (slots.Empty strays) = None
owner_of (slots.Building client strays) = Some client
owner_of (slots.Shareable r) = None

abbrev pub owner_in : Option Slot → Option ℕ
owner_in o = option_and_then owner_of o

-- the slot that is owned, for building or for freeing
abbrev pub owned_slot : Owned → Option ℕ
owned_slot owned.Nothing = None
owned_slot (owned.ForBuilding slot) = Some slot
owned_slot (owned.ForFreeing slot) = Some slot

abbrev pub owned_by : Option Client → Option ℕ
owned_by o = option_and_then (λ client. owned_slot client.owned) o

-- the stamp of a slot's entry
abbrev pub stamp_in : Option Slot → Option Stamp
stamp_in o = option_and_then stamp_of o

-- how many stamps a client made
abbrev pub stamps_by : Option Client → ℕ
stamps_by None = 0
stamps_by (Some client) = client.stamps

-- The parts.

-- the world has the size of its setup
pub record Sized (w : State) : Type 0 where
  pub few_slots : w.setup.slots ≤ MOST_SLOTS
  pub few_clients : w.setup.clients ≤ MOST_CLIENTS
  pub slot_count : length w.slots ≡ w.setup.slots
  pub client_count : length w.clients ≡ w.setup.clients

-- a slot's references weigh little, and its uses and counting references stay near
pub record IsBounded (setup : Setup) (slot : Slot) : Type 0 where
  pub references : weight_of slot ≤ most_weight setup
  pub uses : uses_of slot + counted (references_of slot) ≤ NEAR + MOST_REFERENCES

abbrev pub Bounded : Setup → List Slot → Type 0
Bounded setup all = (s : ℕ) (slot : Slot) → slice_get all s ≡ Some slot → IsBounded setup slot

-- how many clients looked at the slot and haven't acquired since
abbrev pub lookers : List Client → ℕ → ℕ
lookers clients slot = total (λ client. when (looks_at client slot) 1) clients

-- each client that looked may still leave as many strays as one acquire adds
abbrev pub Strayed : Setup → List Slot → List Client → Type 0
Strayed setup all clients =
    (s : ℕ) (slot : Slot) → slice_get all s ≡ Some slot
    → strays_of slot + MOST_WEIGHT * lookers clients s ≤ MOST_WEIGHT * setup.clients

-- a slot is Building by a client exactly where that client owns it
pub record Owners (all : List Slot) (clients : List Client) : Type 0 where
  pub owns : (s c : ℕ) → owner_in (slice_get all s) ≡ Some c
      → owned_by (slice_get clients c) ≡ Some s
  pub owned : (s c : ℕ) → owned_by (slice_get clients c) ≡ Some s
      → owner_in (slice_get all s) ≡ Some c

-- no two slots have entries of one stamp, and each stamp is below its maker's count
pub record Stamped (all : List Slot) (clients : List Client) : Type 0 where
  pub made : (s : ℕ) (m : Stamp) → stamp_in (slice_get all s) ≡ Some m
      → m.number < stamps_by (slice_get clients m.client)
  pub apart : (s t : ℕ) (m : Stamp) → stamp_in (slice_get all s) ≡ Some m
      → stamp_in (slice_get all t) ≡ Some m → s ≡ t

-- the dead list of a client that may not be there
abbrev pub dead_by : Option Client → List Stamp
dead_by None = []
dead_by (Some client) = client.dead

-- the stamp of an entry that is shown
abbrev pub shown_stamp : Slot → Option Stamp
shown_stamp (slots.Empty strays) = None
shown_stamp (slots.Building client strays) = None
shown_stamp (slots.Shareable r) = if r.shown then Some r.entry.stamp else None

abbrev pub shown_in : Option Slot → Option Stamp
shown_in o = option_and_then shown_stamp o

-- whether a stamp stands in a list
abbrev pub is_in : Stamp → List Stamp → Bool
is_in stamp list = list_any (is_stamp stamp) list

-- no stamp that a client has seen dead is shown, and each of them was made
pub record Dead (all : List Slot) (clients : List Client) : Type 0 where
  pub made : (c : ℕ) (m : Stamp) → is_in m (dead_by (slice_get clients c)) ≡ true
      → m.number < stamps_by (slice_get clients m.client)
  pub unshown : (c s : ℕ) (m : Stamp) → is_in m (dead_by (slice_get clients c)) ≡ true
      → shown_in (slice_get all s) ≡ Some m → ⊥

-- a trail has no more members than the world has slots
pub record Trailed (slots : ℕ) (all : List Slot) (clients : List Client) : Type 0 where
  pub entries : (s : ℕ) (slot : Slot) → slice_get all s ≡ Some slot → length (trail_of slot) ≤ slots
  pub hands : (c : ℕ) (client : Client) → slice_get clients c ≡ Some client
      → length client.trail ≤ slots

-- what a client holds of granted places and freed slots
abbrev pub taken_by : Client → ℕ
taken_by client = when (is_granted client.place) 1 + client.freed_slots

-- the places taken, with the slots freed and not yet given back
abbrev pub taken_in : List Slot → List Client → ℕ
taken_in all clients = total taken_by_slot all + total taken_by clients

-- what of a client's amounts stands for entries, or did until it was freed
abbrev pub real_to : Client → ℕ
real_to client = client.granted + client.freed + standing_of client

-- the charges of all entries, with what was granted and what was freed
abbrev pub real_in : List Slot → List Client → ℕ
real_in all clients = total charge_of all + total real_to clients

-- the usage has its bound, the real charge under strict the capacity, and the places taken theirs
pub record Ledgers (w : State) : Type 0 where
  pub usage : usage_of w ≤ MOST_USAGE
  pub real : w.setup.strict ≡ true → real_in w.slots w.clients ≤ w.setup.capacity
  pub places : taken_in w.slots w.clients ≤ limit_of w.setup

-- what holds of each world that steps lead to from an opening world
pub record Lawful (w : State) : Type 0 where
  pub sized : Sized w
  pub bounded : Bounded w.setup w.slots
  pub strayed : Strayed w.setup w.slots w.clients
  pub owners : Owners w.slots w.clients
  pub stamped : Stamped w.slots w.clients
  pub dead : Dead w.slots w.clients
  pub trailed : Trailed w.setup.slots w.slots w.clients
  pub ledgers : Ledgers w

-- the same, which tactics do not open
unfoldable pub IsLawful : State → Type 0
IsLawful w = Lawful w
