-- What callers say of a shard and of a seat at it, by their public values alone.
use Rattle.std.specs.Prelude.{◌≡◌, ℕ, ◌+◌, Bool, List, Option}
use Rattle.hcc_word.specs.Word.{is_counting}
use Rattle.hcc_rule.specs.declared.geometry.Geometry.{Geometry}
use Rattle.hcc_rule.specs.declared.key.Key.{Key}
use Rattle.hcc_rule.specs.declared.layout.TheConstants.{OCCUPANCY}
use Rattle.hcc_rule.specs.declared.rule.Plan.{Plan}
use Rattle.hcc_rule.specs.declared.view.View.{View}
use Rattle.hcc_rule.specs.Addresses.{address_of_displacement, address_of_ledger, address_of_meta}
use Rattle.hcc_rule.specs.Callers as table
use Rattle.hcc_rule.specs.Events.{occupancy_done}
use Rattle.hcc_rule.specs.Gone.{Takes}
use Rattle.hcc_rule.specs.Seats.{SeatOf, Makes, made, view}
use Rattle.hcc_table.specs.declared.hiding.Erased.{Erased}
use Rattle.hcc_table.specs.declared.pins.Pin.{Pin}
use Rattle.hcc_table.specs.Hides.{HidesAll}
use Rattle.hcc_table.specs.Probed.{Searches}
use Rattle.hcc_table.specs.Seeking.{GoesOnBy, is_settling}
use Rattle.hcc_table.specs.Steps.{Acquires, Adds, Corrects}
use Rattle.hcc_shard.specs.declared.erasing.TheConstants.{IN_FLIGHT}
use Rattle.hcc_shard.specs.declared.seat.ShardSeat.{ShardSeat}
use Rattle.hcc_shard.specs.declared.shard.Shard.{Shard}
use Rattle.hcc_shard.specs.Referred.{GivesBack}

module _ {T A : Type 0} where
  -- its sizes, its rule of capacity and its tag
  abbrev pub plan_of : Shard T A → Plan T
  plan_of shard = table.plan_of shard.table

  abbrev pub geometry_of : Shard T A → Geometry
  geometry_of shard = table.geometry_of shard.table

  abbrev pub capacity_of : Shard T A → ℕ
  capacity_of shard = table.capacity_of shard.table

  abbrev pub is_strict : Shard T A → Bool
  is_strict shard = table.is_strict shard.table

  -- whether look-ups mark what they find
  abbrev pub is_marking : Shard T A → Bool
  is_marking shard = shard.marks

module _ {T : Type 0} where
  -- what the client of a seat knows of the shard
  abbrev pub view_of : ShardSeat T → View T
  view_of seat = view seat.seat

  -- the number of that client
  abbrev pub number_of : ShardSeat T → ℕ
  number_of seat = seat.client

  -- how many atomic steps it made there
  abbrev pub steps_of : ShardSeat T → ℕ
  steps_of seat = made seat.seat

module _ {T A : Type 0} where
  -- The client of a seat acquired one reference more at this slot: it counts by the word that the
  -- add found, and where it doesn't a correction was tried and counted.
  abbrev pub AcquiresAt : Shard T A → (slot : ℕ) → (counting : Bool) → (old new : ShardSeat T)
      → Type 0
  AcquiresAt shard slot counting old new =
      (found : ℕ) × (counting ≡ is_counting found)
      × Acquires (address_of_meta shard.table slot) 1 found old.seat new.seat
      × Corrects (address_of_meta shard.table slot) 1 found old.effort new.effort
      old.seat new.seat

  -- The client of a seat gave a reference at this slot back, as a use or not, and tried to take the
  -- entry where that was due.
  abbrev pub GivesBackAt : Shard T A → (slot : ℕ) → (room used erase freed : Bool)
      → (old new : ShardSeat T) → Type 0
  GivesBackAt shard slot room used erase freed old new =
      GivesBack (address_of_meta shard.table slot) room used erase freed old.effort new.effort
      old.seat new.seat

module _ {T A : Type 0} (fits : T → Key → List ℕ → Type 0) where
  -- A look-up of the key was made by the client of a seat, under this serial: what it found at each
  -- probe, by its answer.
  abbrev pub SearchesAt : Shard T A → Key → (serial : ℕ) → Option Pin
      → (old new : ShardSeat T) → Type 0
  SearchesAt shard key serial found old new =
      Searches fits shard.table key serial shard.marks found old.effort new.effort
      old.seat new.seat

  -- An erasure of the key was made by the client of a seat: what it found and hid at each probe,
  -- and what it took. What settles that came behind it, and left what is dead to the client.
  pub record ErasesAt (shard : Shard T A) (key : Key) (room : Bool) (hidden : ℕ)
      (old new : ShardSeat T) : Type 0 where
    pub all : Erased
    pub hidden_is : all.hidden ≡ hidden
    pub mid : SeatOf T
    pub hides : HidesAll fits shard.table key IN_FLIGHT room all old.effort new.effort old.seat mid
    pub taken : (view new.seat).takings ≡ (view old.seat).takings + all.slots
    -- the entries that it took are those that it freed, of that charge
    pub gone : Takes all.slots all.charge (view old.seat) (view new.seat)
    pub rest : Adds mid new.seat
    pub settles : GoesOnBy shard.table is_settling mid new.seat
    pub dead : (view new.seat).work.dead ≡ (view mid).work.dead

module _ {T A : Type 0} where
  -- one load found this meta word of a slot, this displacement word or this occupancy, and was the
  -- only step
  abbrev pub LoadsWord : Shard T A → (slot word : ℕ) → (old new : ShardSeat T) → Type 0
  LoadsWord shard slot word old new =
      Makes (address_of_meta shard.table slot) 0 0 word old.seat new.seat

  abbrev pub LoadsDisplacement : Shard T A → (slot count : ℕ) → (old new : ShardSeat T) → Type 0
  LoadsDisplacement shard slot count old new =
      Makes (address_of_displacement shard.table slot) 0 0 count old.seat new.seat

  abbrev pub LoadsOccupancy : Shard T A → (count : ℕ) → (old new : ShardSeat T) → Type 0
  LoadsOccupancy shard count old new =
      Makes (address_of_ledger shard.table OCCUPANCY) 0 0 count old.seat new.seat
      × table.IsEvent shard.table (occupancy_done count (view old.seat)) old.seat new.seat
