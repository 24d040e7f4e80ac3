-- What callers say of a table, by its public value alone, and of the view of a seat at it.
use Rattle.std.specs.Prelude.{◌≡◌, ℕ, ◌<◌, Bool, [], IsSomeAnd}
use Rattle.atomic_table.specs.Seated.{TableId}
use Rattle.hcc_core.specs.World.{State}
use Rattle.hcc_rule.specs.declared.addresses.SlotAt.{SlotAt}
use Rattle.hcc_rule.specs.declared.geometry.Geometry.{Geometry}
use Rattle.hcc_rule.specs.declared.layout.TheConstants.{DATA}
use Rattle.hcc_rule.specs.declared.rule.Plan.{Plan}
use Rattle.hcc_rule.specs.declared.table.RuleTable.{RuleTable}
use Rattle.hcc_rule.specs.declared.view.Done.{Done}
use Rattle.hcc_rule.specs.declared.view.View.{View}
use Rattle.hcc_rule.specs.Acts.{IsAllowed, IsNext, heard, past, world_of}
use Rattle.hcc_rule.specs.PassedLogs.{witness_logged}
use Rattle.hcc_rule.specs.Seats.{SeatOf, IsSeatOf}
use Rattle.hcc_rule.specs.Records.{record_in}
use Rattle.hcc_rule.specs.Words.{field_at}

module _ {T A : Type 0} where
  -- which table it is; each seat has that of its own
  abbrev pub id_of : RuleTable T A → TableId
  id_of table = table.words.table.shared.table_id

  -- its sizes, its rule of capacity and its tag
  abbrev pub plan_of : RuleTable T A → Plan T
  plan_of table = table.words.table.shared.key

  abbrev pub geometry_of : RuleTable T A → Geometry
  geometry_of table = table.geometry

  abbrev pub capacity_of : RuleTable T A → ℕ
  capacity_of table = table.capacity

  abbrev pub is_strict : RuleTable T A → Bool
  is_strict table = table.strict

  abbrev pub slots_of : RuleTable T A → ℕ
  slots_of table = table.geometry.slots

  abbrev pub room_of : RuleTable T A → ℕ
  room_of table = table.geometry.room

  abbrev pub clients_of : RuleTable T A → ℕ
  clients_of table = table.geometry.clients

  -- a seat at this table that stands for a client
  abbrev pub IsSeatAt : RuleTable T A → SeatOf T → Type 0
  IsSeatAt table seat = IsSeatOf (id_of table) (plan_of table).tag seat

  -- a witness at this table: it stands for no client, and tells what its giver knew
  pub record IsWitnessAt (table : RuleTable T A) (seat : SeatOf T) : Type 0 where
    pub table_is : seat.table_id ≡ id_of table
    pub witness : seat.me ≡ (witness_logged (heard seat), [])

  -- the seat's step was this event with this reply, and the machine allows all that the seat knows
  abbrev pub IsEvent : RuleTable T A → Done → (old new : SeatOf T) → Type 0
  IsEvent table done old new =
      IsNext (plan_of table) (clients_of table) done old.me.0 new.me.0
      × IsAllowed (plan_of table) (past new)

  -- the world at the seat's own last event
  abbrev pub world_at : RuleTable T A → SeatOf T → State
  world_at table seat = world_of (plan_of table) (past seat)

  -- a slot of this table
  abbrev pub IsSlotOf : RuleTable T A → ℕ → Type 0
  IsSlotOf table slot = slot < table.geometry.slots

  -- a slot of this table, with the address of its first data word
  abbrev pub IsSlotAt : RuleTable T A → SlotAt → Type 0
  IsSlotAt table at =
      IsSlotOf table at.slot × (at.data ≡ field_at table.geometry.room at.slot DATA)

module _ {T : Type 0} where
  -- the seat's step was no event
  abbrev pub IsNoEvent : (old new : SeatOf T) → Type 0
  IsNoEvent old new = past new ≡ past old

  -- the client has a record of this name on this slot
  abbrev pub HasOn : (slot name : ℕ) → View T → Type 0
  HasOn slot name v = IsSomeAnd (record_in name v.records) (λ r. r.slot ≡ slot)
