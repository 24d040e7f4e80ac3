-- What calls leave of what a shard shows, by their events.
use Rattle.std.specs.Prelude.{◌≡◌, ℕ, ◌<◌, Bool, List, [], Option, is_some}
use Rattle.hcc_word.specs.Word.{is_counting}
use Rattle.hcc_rule.specs.declared.key.Key.{Key}
use Rattle.hcc_rule.specs.Acts.{past}
use Rattle.hcc_rule.specs.Callers.{slots_of, IsEvent, world_at}
use Rattle.hcc_rule.specs.Events.{count_done, look_done}
use Rattle.hcc_rule.specs.Seats.{SeatOf, view}
use Rattle.hcc_rule.specs.Views.{Each}
use Rattle.hcc_table.specs.Seeking.{GoesOnBy, ReachesBy, Seeks, is_settling}
use Rattle.hcc_table.specs.Standing.{ShowsKey}
use Rattle.hcc_table.specs.Still.{BeganWithin, GoesOnStill, ReleasesBy}
use Rattle.hcc_shard.specs.declared.seat.ShardSeat.{ShardSeat}
use Rattle.hcc_shard.specs.declared.shard.Shard.{Shard}

module _ {T A : Type 0} (shard : Shard T A) where
  -- The shard shows a key in a slot, in the world that the seat knows.
  pub record ShowsIn (key : Key) (slot : ℕ) (seat : ShardSeat T) : Type 0 where
    pub within : slot < slots_of shard.table
    pub shows : ShowsKey (world_at shard.table seat.seat) key slot

  -- What the seat knows goes on: its client made and took no entry in that, and showed and hid
  -- none; in a shard of one client nobody did.
  abbrev pub StaysAt : (old new : ShardSeat T) → Type 0
  StaysAt old new = GoesOnStill shard.table old.seat new.seat

  -- All that the seat did was to search, or to read what it holds.
  abbrev pub SeeksAt : (old new : ShardSeat T) → Type 0
  SeeksAt old new = Seeks shard.table old.seat new.seat

  -- the events of the load of a slot's word, and of that of its displacement word
  abbrev pub LooksBy : (slot word : ℕ) → (old new : ShardSeat T) → Type 0
  LooksBy slot word old new =
      IsEvent shard.table (look_done slot word (view old.seat)) old.seat new.seat

  abbrev pub CountsBy : (slot count : ℕ) → (old new : ShardSeat T) → Type 0
  CountsBy slot count old new =
      IsEvent shard.table (count_done slot count (view old.seat)) old.seat new.seat

  -- One reference more was acquired at this slot, under this name, by these events: it counts by
  -- the word that the add found.
  abbrev pub AcquiresBy : (slot name : ℕ) → (counting : Bool) → (old new : ShardSeat T) → Type 0
  AcquiresBy slot name counting old new =
      (found : ℕ) × (counting ≡ is_counting found)
      × ReachesBy shard.table slot 1 name found old.seat new.seat

  -- A release by its events: the reference was given back, and the entry taken or not; what was
  -- freed was settled behind that.
  pub record ReleasesAt (slot name : ℕ) (room used erase freed : Bool) (old new : ShardSeat T)
      : Type 0 where
    pub charge : Option ℕ
    pub freed_is : freed ≡ is_some charge
    pub mid : SeatOf T
    pub releases : ReleasesBy shard.table slot name room used erase charge old.seat mid
    pub settles : GoesOnBy shard.table is_settling mid new.seat

  -- the entries with which the shard began keep their limits
  abbrev pub BeganWithinLimits : (fits : T → Key → List ℕ → Type 0) → Type 0
  BeganWithinLimits fits = BeganWithin shard.table fits

-- no event is known to these seats
abbrev pub KnowNoEvent : {T : Type 0} → List (ShardSeat T) → Type 0
KnowNoEvent = Each (λ seat. past seat.seat ≡ [])
