-- What a world is, and what is read of it. Nothing here is stored but the world itself.
use Rattle.std.specs.Prelude.{ℕ, ◌+◌, ◌*◌, ◌/◌, Bool, true, false, ◌&&◌, ◌==◌, nat_lt, List, []}
use Rattle.std.specs.Prelude.{Option, Some, None, find, length, position, if◌then◌else◌}
use Rattle.std.specs.List.{list_any}
use Rattle.hcc_core.specs.declared.limits.TheConstants.{OCCUPANCY_PERCENT, NEAR}
use Rattle.hcc_core.specs.declared.setup.Setup.{Setup}
use Rattle.hcc_core.specs.declared.slot.Stamp.{Stamp}
use Rattle.hcc_core.specs.declared.slot.Reference.{Reference}
use Rattle.hcc_core.specs.declared.client.Standalone.{Standalone}
use Rattle.hcc_core.specs.declared.client.Client.{Client}
use Rattle.hcc_core.specs.declared.slot.Slot.{Slot}
use Rattle.hcc_core.specs.declared.slot.Slot.TheVariants as slots
use Rattle.hcc_core.specs.declared.client.Owned.{Owned}
use Rattle.hcc_core.specs.declared.client.Owned.TheVariants as owned
use Rattle.hcc_core.specs.declared.client.Place.{Place}
use Rattle.hcc_core.specs.declared.client.Place.TheVariants as places
use Rattle.hcc_core.specs.declared.event.Phase.{Phase}
use Rattle.hcc_core.specs.declared.event.Phase.TheVariants as phases
use Rattle.hcc_core.specs.Sums.{when, total}

-- a world: its setup, its slots, its clients and a hand
pub record State : Type 0 where
  pub setup : Setup
  pub slots : List Slot
  pub clients : List Client
  pub hand : ℕ

-- Of a slot.

-- the phase of a slot with an entry
abbrev pub phase_if : Bool → Phase
phase_if true = phases.Shown
phase_if false = phases.Hidden

abbrev pub phase_of : Slot → Phase
phase_of (slots.Empty strays) = phases.Empty
phase_of (slots.Building client strays) = phases.Building
phase_of (slots.Shareable r) = phase_if r.shown

-- 1 for a slot with an entry
abbrev pub taken_by_slot : Slot → ℕ
taken_by_slot (slots.Empty strays) = 0
taken_by_slot (slots.Building client strays) = 0
taken_by_slot (slots.Shareable r) = 1

-- whether a slot is Shown or Hidden
abbrev pub is_shareable : Slot → Bool
is_shareable (slots.Empty strays) = false
is_shareable (slots.Building client strays) = false
is_shareable (slots.Shareable r) = true

abbrev pub strays_of : Slot → ℕ
strays_of (slots.Empty strays) = strays
strays_of (slots.Building client strays) = strays
strays_of (slots.Shareable r) = 0

abbrev pub references_of : Slot → List Reference
references_of (slots.Empty strays) = []
references_of (slots.Building client strays) = []
references_of (slots.Shareable r) = r.references

abbrev pub uses_of : Slot → ℕ
uses_of (slots.Empty strays) = 0
uses_of (slots.Building client strays) = 0
uses_of (slots.Shareable r) = r.uses

abbrev pub charge_of : Slot → ℕ
charge_of (slots.Empty strays) = 0
charge_of (slots.Building client strays) = 0
charge_of (slots.Shareable r) = r.entry.charge

-- the stamp of a slot's entry, and of one that is hidden
abbrev pub stamp_of : Slot → Option Stamp
stamp_of (slots.Empty strays) = None
stamp_of (slots.Building client strays) = None
stamp_of (slots.Shareable r) = Some r.entry.stamp

abbrev pub hidden_stamp : Slot → Option Stamp
hidden_stamp (slots.Empty strays) = None
hidden_stamp (slots.Building client strays) = None
hidden_stamp (slots.Shareable r) = if r.shown then None else Some r.entry.stamp

abbrev pub trail_of : Slot → List ℕ
trail_of (slots.Empty strays) = []
trail_of (slots.Building client strays) = []
trail_of (slots.Shareable r) = r.trail

-- what references weigh in sum, and those of them that count
abbrev pub weight : List Reference → ℕ
weight = total (λ (r : Reference). r.weight)

abbrev pub counted : List Reference → ℕ
counted = total (λ (r : Reference). when r.counting r.weight)

-- the weight of a slot's references
abbrev pub weight_of : Slot → ℕ
weight_of slot = weight (references_of slot)

-- whether a reference made now counts
abbrev pub counts_in : Slot → Bool
counts_in (slots.Empty strays) = false
counts_in (slots.Building client strays) = false
counts_in (slots.Shareable r) = nat_lt r.uses NEAR

-- this client's reference of this name
abbrev pub is_named : ℕ → ℕ → Reference → Bool
is_named client name r = (r.client == client) && (r.name == name)

abbrev pub reference_in : ℕ → ℕ → List Reference → Option Reference
reference_in client name references = find (is_named client name) references

abbrev pub has_reference : ℕ → ℕ → Slot → Bool
has_reference client name slot = list_any (is_named client name) (references_of slot)

-- whether the slot has a reference of this client
abbrev pub has_client : ℕ → Slot → Bool
has_client client slot = list_any (λ (r : Reference). r.client == client) (references_of slot)

-- the slot on which this client holds this name
abbrev pub slot_holding : List Slot → ℕ → ℕ → Option ℕ
slot_holding all client name = position (has_reference client name) all

-- Of a client.

abbrev pub standing_of : Client → ℕ
standing_of client = total (λ (s : Standalone). s.charge) client.standalones

-- all that stands in the usage for a client
abbrev pub charged_to : Client → ℕ
charged_to client = client.granted + client.needed + client.freed + standing_of client

-- whether a client owns no slot
abbrev pub owns_nothing : Owned → Bool
owns_nothing owned.Nothing = true
owns_nothing (owned.ForBuilding slot) = false
owns_nothing (owned.ForFreeing slot) = false

abbrev pub is_absent : Place → Bool
is_absent places.Absent = true
is_absent places.Open = false
is_absent places.Granted = false

abbrev pub is_placed : Place → Bool
is_placed places.Absent = false
is_placed places.Open = true
is_placed places.Granted = true

abbrev pub is_granted : Place → Bool
is_granted places.Absent = false
is_granted places.Open = false
is_granted places.Granted = true

-- all that stands in the occupancy for a client
abbrev pub occupied_by : Client → ℕ
occupied_by client = when (is_placed client.place) 1 + client.freed_slots

-- Of a world.

-- the charges of all entries and all amounts of clients
abbrev pub usage_of : State → ℕ
usage_of world = total charge_of world.slots + total charged_to world.clients

-- the charges of all standalone entries
abbrev pub standing_in : State → ℕ
standing_in world = total standing_of world.clients

-- the entries, and what clients hold of places and freed slots
abbrev pub occupancy_of : State → ℕ
occupancy_of world = total taken_by_slot world.slots + total occupied_by world.clients

-- how often a slot stands in a trail
abbrev pub times : ℕ → List ℕ → ℕ
times slot = total (λ s. when (s == slot) 1)

-- how often a slot stands in the trails of entries and clients
abbrev pub passed_by : List Slot → List Client → ℕ → ℕ
passed_by all clients slot =
    total (λ s. times slot (trail_of s)) all + total (λ (c : Client). times slot c.trail) clients

-- the same in a world, for a slot that it has
abbrev pub passed_at : State → ℕ → ℕ
passed_at world slot =
    if nat_lt slot (length world.slots) then passed_by world.slots world.clients slot else 0

-- how many places the table grants
abbrev pub limit_of : Setup → ℕ
limit_of setup = setup.slots * OCCUPANCY_PERCENT / 100
