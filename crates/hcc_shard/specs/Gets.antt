-- What the reading of a key's value found and copied: by loads alone, or by a reference that it
-- gave back.
use Rattle.std.specs.Prelude.{◌≡◌, ◌⊎◌, ℕ, ◌<◌, Bool, List, None, Some}
use Rattle.hcc_core.specs.declared.slot.Entry.{Entry}
use Rattle.hcc_rule.specs.declared.key.Key.{Key}
use Rattle.hcc_rule.specs.declared.view.Record.{Record}
use Rattle.hcc_rule.specs.Callers.{room_of, slots_of}
use Rattle.hcc_rule.specs.Probes.{probe_slot}
use Rattle.hcc_rule.specs.Records.{record_in}
use Rattle.hcc_rule.specs.Seats.{SeatOf, view}
use Rattle.hcc_rule.specs.Words.{key_of}
use Rattle.hcc_table.specs.declared.optimistic.Got.{Got}
use Rattle.hcc_table.specs.declared.optimistic.Got.TheVariants.{Hit, Miss, Short}
use Rattle.hcc_table.specs.declared.pins.Pin.{Pin}
use Rattle.hcc_table.specs.Freed.{GivesOnce}
use Rattle.hcc_table.specs.Optimistic.{LacksAll, OnlyLoads, ReadsOptimistic}
use Rattle.hcc_table.specs.Pins.{IsOf}
use Rattle.hcc_table.specs.Readings.{CopiesOut, loads_of}
use Rattle.hcc_table.specs.Searched.{IsFound, IsMissed, Sought}
use Rattle.hcc_table.specs.Seeking.{Seeks}
use Rattle.hcc_table.specs.Standing.{LacksOnce, ShowsOnce}
use Rattle.hcc_table.specs.Steps.{MakesAtMost}
use Rattle.hcc_table.specs.Still.{GoesOnStill}
use Rattle.hcc_shard.specs.declared.erasing.TheConstants.{IN_FLIGHT}
use Rattle.hcc_shard.specs.declared.seat.ShardSeat.{ShardSeat}
use Rattle.hcc_shard.specs.declared.shard.Shard.{Shard}
use Rattle.hcc_shard.specs.Callers.{SearchesAt, view_of}

module _ {T A : Type 0} (shard : Shard T A) where
  -- A reading without a reference was given up: all that the seat did was to load words, and none
  -- of its probes is counted.
  pub record GivesUp (old began : ShardSeat T) : Type 0 where
    pub loads : OnlyLoads shard.table old.seat began.seat
    pub sought : Sought (view_of old) (view_of began)
    pub counted : began.effort ≡ old.effort

module _ {T A : Type 0} (fits : T → Key → List ℕ → Type 0) (shard : Shard T A) (key : Key)
    (useful : Bool) where
  -- Without a reference: all that the seat did was to load words.
  pub record ReadsAtOnce (got : Got) (before after : List ℕ) (old new : ShardSeat T)
      : Type 0 where
    pub loads : OnlyLoads shard.table old.seat new.seat
    pub reads : ReadsOptimistic fits shard.table key useful shard.marks got before after
        old.seat new.seat

  -- That was given up. Then a look-up found an entry of the key, under the name of references that
  -- no call keeps. Its value was read: by so many steps at most, and all that the seat did in that
  -- was what a search does. Then the reference was given back.
  pub record ReadsOut (got : Got) (before after : List ℕ) (old new : ShardSeat T) : Type 0 where
    pub began : ShardSeat T
    pub given_up : GivesUp shard old began
    pub pin : Pin
    pub held : ShardSeat T
    pub searches : SearchesAt fits shard key IN_FLIGHT (Some pin) began held
    pub found : Record
    pub finds : IsFound fits (room_of shard.table) pin.slot IN_FLIGHT key (view_of old)
        (view_of held) found
    pub holds : record_in IN_FLIGHT (view_of held).records ≡ Some found
    pub of : IsOf pin found
    pub copies : CopiesOut got found.entry.value before after
    pub read : SeatOf T
    pub kept : view read ≡ view_of held
    pub reads : Seeks shard.table held.seat read
    pub loads : MakesAtMost (loads_of got) held.seat read
    pub gives : GivesOnce shard.table pin useful read new.seat
    pub counted : new.effort ≡ held.effort

  -- That was given up, and then a look-up found none.
  pub record MissesOut (before after : List ℕ) (old new : ShardSeat T) : Type 0 where
    pub same : after ≡ before
    pub missed : IsMissed key (view_of old) (view_of new)
    pub began : ShardSeat T
    pub given_up : GivesUp shard old began
    pub searches : SearchesAt fits shard key IN_FLIGHT None began new

  -- what a reading by a reference did, by its answer
  abbrev pub GetsHeld : Got → (before after : List ℕ) → (old new : ShardSeat T) → Type 0
  GetsHeld Miss before after old new = MissesOut before after old new
  GetsHeld (Hit count) before after old new = ReadsOut (Hit count) before after old new
  GetsHeld (Short count) before after old new = ReadsOut (Short count) before after old new

  -- what a reading did
  abbrev pub Gets : Got → (before after : List ℕ) → (old new : ShardSeat T) → Type 0
  Gets got before after old new =
      ReadsAtOnce got before after old new ⊎ GetsHeld got before after old new

module _ {T A : Type 0} (shard : Shard T A) (key : Key) where
  -- The value of an entry of the key was read, at this probe: one that was shown once until the
  -- search ended. Each slot of an earlier probe lacked the key once until then. From then on the
  -- seat made and took no entry, and showed and hid none.
  pub record GotShown (got : Got) (before after : List ℕ) (old new : ShardSeat T) : Type 0 where
    pub last : SeatOf T
    pub goes_on : GoesOnStill shard.table last new.seat
    pub probe : ℕ
    pub entry : Entry
    pub asked : key_of entry ≡ key
    pub shown : ShowsOnce shard.table (probe_slot (slots_of shard.table) key probe) entry
        old.seat last
    pub earlier : (j : ℕ) → j < probe
        → LacksOnce shard.table key (probe_slot (slots_of shard.table) key j) old.seat last
    pub copies : CopiesOut got entry.value before after

  -- Of a reading that missed each slot lacked the key once in the call.
  abbrev pub GotLasting : Got → (before after : List ℕ) → (old new : ShardSeat T) → Type 0
  GotLasting Miss before after old new = LacksAll shard.table key old.seat new.seat
  GotLasting (Hit count) before after old new = GotShown (Hit count) before after old new
  GotLasting (Short count) before after old new = GotShown (Short count) before after old new
