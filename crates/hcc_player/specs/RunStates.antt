-- What the lines and answers of a trace of calls tell of its clients, so far.
use Rattle.std.specs.Prelude.{◌≡◌, ℕ, ◌+◌, ◌-◌, ◌<◌, ◌≤◌, ◌==◌, true, false, Bool, List, Option}
use Rattle.std.specs.Prelude.{Some, None, IsSome, length, slice_get, if◌then◌else◌}
use Rattle.hcc_core.specs.Sums.{total}
use Rattle.hcc_cache.specs.declared.config.Config.{Config}
use Rattle.hcc_cache.specs.declared.errors.InsertError.{InsertError}
use Rattle.hcc_cache.specs.declared.errors.InsertError.TheVariants.{HandlesFull, Spent, TooLarge, CapacityFull, OccupancyFull}
use Rattle.hcc_cache.specs.Clients.{Insertion}
use Rattle.hcc_cache.specs.Configs.{shard_capacity}

-- What is told of a client: the insertion on whose entry each of its registers is, none where it is
-- empty; whether the entry of a full one stands alone, outside the table; how many registers are
-- full; and how many serials were used.
pub record State : Type 0 where
  pub registers : ℕ → Option Insertion
  pub alone : ℕ → Bool
  pub full : ℕ
  pub used : ℕ

abbrev pub new_state : State
new_state =
    record { registers = λ register. None; alone = λ register. false; full = 0; used = 0 }

-- one register changed
abbrev pub with_register : {A : Type 0} → (ℕ → A) → ℕ → A → ℕ → A
with_register registers register told r = if r == register then told else registers r

-- a serial more was used
abbrev pub with_serial : State → State
with_serial s = record {
  registers = s.registers;
  alone = s.alone;
  full = s.full;
  used = s.used + 1;
}

-- an empty register was filled, by a handle that used a serial, on a standalone entry or not
abbrev pub with_filled : State → ℕ → Insertion → (alone : Bool) → State
with_filled s register held alone = record {
  registers = with_register s.registers register (Some held);
  alone = with_register s.alone register alone;
  full = s.full + 1;
  used = s.used + 1;
}

-- a full register was emptied
abbrev pub with_emptied : State → ℕ → State
with_emptied s register = record {
  registers = with_register s.registers register None;
  alone = s.alone;
  full = s.full - 1;
  used = s.used;
}

abbrev pub IsFull : State → ℕ → Type 0
IsFull s register = IsSome (s.registers register)

abbrev pub IsEmpty : State → ℕ → Type 0
IsEmpty s register = s.registers register ≡ None

-- what was charged for an insertion
abbrev pub charge_of : Option Insertion → ℕ
charge_of None = 0
charge_of (Some insertion) = insertion.charge

-- the insertions of these registers are pairwise different
abbrev pub AreApart : State → List ℕ → Type 0
AreApart s registers =
    (j k r q : ℕ) → slice_get registers j ≡ Some r → slice_get registers k ≡ Some q
    → s.registers r ≡ s.registers q → j ≡ k

-- A sum of charges is at least those of what the registers hold, each insertion counted once.
abbrev pub CoversHeld : State → (sum : ℕ) → Type 0
CoversHeld s sum =
    (registers : List ℕ) → AreApart s registers
    → total (λ r. charge_of (s.registers r)) registers ≤ sum

-- these registers are full, each with an entry of the table
abbrev pub AreInTable : State → List ℕ → Type 0
AreInTable s registers =
    (k r : ℕ) → slice_get registers k ≡ Some r → IsFull s r × (s.alone r ≡ false)

-- A count is at least how many entries of the table the registers hold, each insertion counted
-- once.
abbrev pub CoversEntries : State → (count : ℕ) → Type 0
CoversEntries s count =
    (registers : List ℕ) → AreApart s registers → AreInTable s registers
    → length registers ≤ count

-- By the options: what a client that stands so may do, and why it may not.
module _ (config : Config) where
  abbrev pub MayHold : State → Type 0
  MayHold s = (s.full < config.handles) × (s.used < config.serials)

  abbrev pub MayInsert : State → (charge : ℕ) → Type 0
  MayInsert s charge =
      (s.used < config.serials) × (config.strict ≡ true → charge ≤ shard_capacity config)

  -- an insertion with a handle filled a register, whose entry stands alone or not
  abbrev pub IsPinned : (old : State) → (register : ℕ) → Insertion → (alone : Bool)
      → (new : State) → Type 0
  IsPinned old register made alone new =
      (old.full < config.handles) × MayInsert old made.charge
      × (new ≡ with_filled old register made alone)

  -- a handle is refused so
  abbrev pub IsRefused : InsertError → State → Type 0
  IsRefused HandlesFull s = config.handles ≤ s.full
  IsRefused Spent s = (s.full < config.handles) × (config.serials ≤ s.used)
  IsRefused other s = ⊥

  -- An insertion is refused so, and leaves this. What it is refused for after it was begun is told
  -- under strict capacity alone, and uses a serial.
  abbrev pub RefusesInsert : (charge : ℕ) → InsertError → (old new : State) → Type 0
  RefusesInsert charge HandlesFull old new = ⊥
  RefusesInsert charge Spent old new = (config.serials ≤ old.used) × (new ≡ old)
  RefusesInsert charge TooLarge old new =
      (old.used < config.serials) × (config.strict ≡ true) × (shard_capacity config < charge)
      × (new ≡ old)
  RefusesInsert charge CapacityFull old new =
      MayInsert old charge × (config.strict ≡ true) × (new ≡ with_serial old)
  RefusesInsert charge OccupancyFull old new =
      MayInsert old charge × (config.strict ≡ true) × (new ≡ with_serial old)

  -- and one that is to give a handle
  abbrev pub RefusesPin : (charge : ℕ) → InsertError → (old new : State) → Type 0
  RefusesPin charge HandlesFull old new = (config.handles ≤ old.full) × (new ≡ old)
  RefusesPin charge other old new =
      (old.full < config.handles) × RefusesInsert charge other old new

-- Of all clients, by their numbers.

abbrev pub States : Type 0
States = ℕ → State

abbrev pub new_states : States
new_states client = new_state

-- one client's changed
abbrev pub with_state : States → ℕ → State → States
with_state states client s c = if c == client then s else states c
