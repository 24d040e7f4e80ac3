-- A seat at a table, the steps that it made, and the sizes that a table may have.
use Rattle.std.specs.Prelude.{◌≡◌, ℕ, ◌+◌, ◌%◌, ◌≤◌, List, [], ◌∷◌, ◌++◌, length, Some}
use Rattle.atomic_table.specs.declared.shared.Seat.{Seat}
use Rattle.atomic_table.specs.Seated.{TableId}
use Rattle.hcc_core.specs.declared.limits.TheConstants.{MOST_SLOTS, MOST_CLIENTS}
use Rattle.hcc_rule.specs.declared.geometry.Geometry.{Geometry}
use Rattle.hcc_rule.specs.declared.layout.TheConstants.{FEWEST_SLOTS, MOST_ROOM, MOST_CAPACITY}
use Rattle.hcc_rule.specs.declared.view.Atomic.{Atomic}
use Rattle.hcc_rule.specs.declared.view.Logged.{Logged}
use Rattle.hcc_rule.specs.declared.view.View.{View}

-- The sizes and the capacity that a shard may have. The slots are a power of two: these are the
-- numbers that divide the most slots.
pub record IsPlanned (geometry : Geometry) (capacity : ℕ) : Type 0 where
  pub some_slots : FEWEST_SLOTS ≤ geometry.slots
  pub slots : geometry.slots ≤ MOST_SLOTS
  pub power : MOST_SLOTS % geometry.slots ≡ 0
  pub some_room : 1 ≤ geometry.room
  pub room : geometry.room ≤ MOST_ROOM
  pub some_client : 1 ≤ geometry.clients
  pub clients : geometry.clients ≤ MOST_CLIENTS
  pub capacity_low : capacity ≤ MOST_CAPACITY

-- an atomic step on the word of this address, with these operands, that found this
abbrev pub atomic : (address first second found : ℕ) → Atomic
atomic address first second found =
    record { address = address; first = first; second = second; found = found }

abbrev pub SeatOf : Type 0 → Type 0
SeatOf T = Seat (Unit {0}) (Logged T)

module _ {T : Type 0} where
  -- what contracts see of a seat
  abbrev pub view : SeatOf T → View T
  view seat = seat.me.0.known

  -- the atomic steps that it made, in order
  abbrev pub steps : SeatOf T → List Atomic
  steps seat = seat.me.0.steps

  -- how many it has made
  abbrev pub made : SeatOf T → ℕ
  made seat = length (steps seat)

  -- how many steps were made by it and by the seats that it took in
  abbrev pub moves_of : Logged T → ℕ
  moves_of l = length l.steps + l.taken_in

  abbrev pub moves : SeatOf T → ℕ
  moves seat = moves_of seat.me.0

  -- The seat has made one atomic step more: on the word of this address, with these operands, and
  -- it found this.
  pub record Makes (address first second found : ℕ) (old new : SeatOf T) : Type 0 where
    pub step : steps new ≡ steps old ++ atomic address first second found ∷ []
    pub one : made new ≡ made old + 1

  -- the same, and what it found is told to nobody
  abbrev pub MakesSome : (address first second : ℕ) → (old new : SeatOf T) → Type 0
  MakesSome address first second old new = (found : ℕ) × Makes address first second found old new

  -- the same seat, though its view and its steps may differ
  pub record IsSameSeat (old new : SeatOf T) : Type 0 where
    pub table : new.table_id ≡ old.table_id
    pub number : new.id ≡ old.id
    pub slots : new.me.1 ≡ old.me.1

  -- a seat of this table that stands for a client
  pub record IsSeatOf (id : TableId) (tag : T) (seat : SeatOf T) : Type 0 where
    pub table : seat.table_id ≡ id
    pub slots : seat.me.1 ≡ []
    pub tagged : (view seat).tag ≡ Some tag
