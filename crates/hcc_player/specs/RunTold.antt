-- What the lines of a trace of calls and their answers alone tell of what is there, on a new cache
-- with one client.
use Rattle.std.specs.Prelude.{◌≡◌, ◌⊎◌, ℕ, ◌+◌, ◌*◌, ◌/◌, ◌<◌, ◌≤◌, Bool, true, false, List, [], ◌∷◌}
use Rattle.std.specs.Prelude.{Option, Some, None, is_some, slice_get, if◌then◌else◌}
use Rattle.hcc_core.specs.declared.limits.TheConstants.{OCCUPANCY_PERCENT}
use Rattle.hcc_core.specs.Sums.{when}
use Rattle.hcc_rule.specs.declared.key.Key.{Key}
use Rattle.hcc_table.specs.Searched.{is_key}
use Rattle.hcc_shard.specs.declared.seat.ShardSeat.{ShardSeat}
use Rattle.hcc_cache.specs.declared.cache.Cache.{Cache}
use Rattle.hcc_cache.specs.declared.client.Client.{Client}
use Rattle.hcc_cache.specs.declared.config.Config.{Config}
use Rattle.hcc_cache.specs.declared.errors.InsertError.TheVariants.{CapacityFull, OccupancyFull}
use Rattle.hcc_cache.specs.declared.seeded.Seeded.{Seeded}
use Rattle.hcc_cache.specs.Calls.{shard_in}
use Rattle.hcc_cache.specs.Clients.{Insertion}
use Rattle.hcc_cache.specs.Configs.{shard_capacity}
use Rattle.hcc_cache.specs.Room.{TurnsNone}
use Rattle.hcc_player.specs.declared.run.answer.Answer.{Answer}
use Rattle.hcc_player.specs.declared.run.answer.Answer.TheVariants as answers
use Rattle.hcc_player.specs.declared.run.call.Call.{Call}
use Rattle.hcc_player.specs.declared.run.call.Call.TheVariants as calls
use Rattle.hcc_player.specs.declared.run.call.RunLine.{RunLine}
use Rattle.hcc_player.specs.declared.run.registers.Registers.{Registers}
use Rattle.hcc_player.specs.Runs.{MakesAll, placed_by, stood_by}
use Rattle.hcc_player.specs.RunStates.{charge_of, with_register}

-- What is told of each key: that an entry of it is shown, that none is, or neither.
abbrev pub Keys : Type 0
Keys = Key → Option Bool

-- one key is told so
abbrev pub with_told : Key → Bool → Keys → Keys
with_told key is keys other = if is_key key other then Some is else keys other

-- only that none is shown
abbrev pub only_gone : Option Bool → Option Bool
only_gone (Some false) = Some false
only_gone other = None

-- An entry of this key was freed, if there is a key: it isn't told any more that one is there.
abbrev pub with_freed : Option Key → Keys → Keys
with_freed None keys = keys
with_freed (Some key) keys =
    λ other. if is_key key other then only_gone (keys other) else keys other

-- What is told of registers: the key of the table's entry that each one holds. None is told of a
-- register that is empty, or whose entry stands alone.
abbrev pub Holding : Type 0
Holding = ℕ → Option Key

-- What is told of keys once a call was answered so. Each that was placed or hit is there; each that
-- was erased or missed isn't. Where a release freed an entry, that was the one of its register.
abbrev pub keys_after : Call → Answer → Holding → Keys → Keys
keys_after (calls.Insert key charge priority value) answers.Placed held keys =
    with_told key true keys
keys_after (calls.Pin register key charge priority value) answers.Placed held keys =
    with_told key true keys
keys_after (calls.Lookup register key) answers.Hit held keys = with_told key true keys
keys_after (calls.Lookup register key) answers.Miss held keys = with_told key false keys
keys_after (calls.Erase key) (answers.Erased count) held keys = with_told key false keys
keys_after (calls.Release register useful erase) answers.Freed held keys =
    with_freed (held register) keys
keys_after call answer held keys = keys

-- what is told of registers
abbrev pub held_after : Call → Answer → Holding → Holding
held_after (calls.Pin register key charge priority value) answers.Placed held =
    with_register held register (Some key)
held_after (calls.Pin register key charge priority value) answers.Standalone held =
    with_register held register None
held_after (calls.Lookup register key) answers.Hit held = with_register held register (Some key)
held_after (calls.Reref register from) answers.Held held = with_register held register (held from)
held_after (calls.Release register useful erase) answers.Freed held =
    with_register held register None
held_after (calls.Release register useful erase) answers.Kept held =
    with_register held register None
held_after call answer held = held

-- What lines and answers tell so far: of each key and of registers, how many entries were placed,
-- and what was charged for these and for those that stand alone.
pub record Told : Type 0 where
  pub keys : Keys
  pub held : Holding
  pub placed : ℕ
  pub charged : ℕ

-- of a new cache: nothing is there, nothing is held, and nothing was placed
abbrev pub new_told : Told
new_told = record {
  keys = λ key. Some false;
  held = λ register. None;
  placed = 0;
  charged = 0;
}

abbrev pub told_after : Call → Answer → Told → Told
told_after call answer told = record {
  keys = keys_after call answer told.held told.keys;
  held = held_after call answer told.held;
  placed = told.placed + when (is_some (placed_by call answer)) 1;
  charged = told.charged + charge_of (placed_by call answer) + stood_by call answer;
}

-- the insertion that a call asks for
abbrev pub asked_by : Call → Option Insertion
asked_by call = placed_by call answers.Placed

-- one was refused for want of room
abbrev pub WantsRoom : Answer → Type 0
WantsRoom (answers.Refused CapacityFull) = Unit {0}
WantsRoom (answers.Refused OccupancyFull) = Unit {0}
WantsRoom answer = ⊥

-- one was left out of the table, though it wasn't refused
abbrev pub IsLeftOut : Answer → Type 0
IsLeftOut answers.Dropped = Unit {0}
IsLeftOut answers.Standalone = Unit {0}
IsLeftOut answer = ⊥

module _ (config : Config) where
  -- By the options there is room in one shard for an entry of this charge, beside all that was
  -- placed so far in any.
  pub record FitsBeside (told : Told) (charge : ℕ) : Type 0 where
    pub place : told.placed < config.slots * OCCUPANCY_PERCENT / 100
    pub within : told.charged + charge ≤ shard_capacity config

  -- A line's answer is as it is told: a look-up of a key that is there doesn't miss, one of a key
  -- that isn't doesn't hit, and an erasure hides entries just where some are. An insertion for
  -- which there is room so isn't refused for want of it, and where its key isn't there its entry
  -- isn't left out of the table.
  pub record IsTold (told : Told) (line : RunLine) (answer : Answer) : Type 0 where
    pub hits : (register : ℕ) (key : Key) → line.call ≡ calls.Lookup register key
        → told.keys key ≡ Some true → ¬ (answer ≡ answers.Miss)
    pub misses : (register : ℕ) (key : Key) → line.call ≡ calls.Lookup register key
        → told.keys key ≡ Some false → ¬ (answer ≡ answers.Hit)
    pub erases : (key : Key) (count : ℕ) → line.call ≡ calls.Erase key
        → answer ≡ answers.Erased count → told.keys key ≡ Some true → 1 ≤ count
    pub erases_none : (key : Key) (count : ℕ) → line.call ≡ calls.Erase key
        → answer ≡ answers.Erased count → told.keys key ≡ Some false → count ≡ 0
    pub fits : (asked : Insertion) → asked_by line.call ≡ Some asked
        → FitsBeside told asked.charge → ¬ WantsRoom answer
    pub places : (asked : Insertion) → asked_by line.call ≡ Some asked
        → FitsBeside told asked.charge → told.keys asked.key ≡ Some false → ¬ IsLeftOut answer

  module _ {T : Type 0} (cache : Cache T) where
    -- the client turned the hand of a key's shard no further
    abbrev pub TurnsNoneFor : Key → (old new : Client T) → Type 0
    TurnsNoneFor key old new =
        (was is : ShardSeat (Seeded T)) → slice_get old.seats.items (shard_in cache key) ≡ Some was
        → slice_get new.seats.items (shard_in cache key) ≡ Some is → TurnsNone was is

    -- The call was no insertion that had cause to evict. One has none where, by options, lines and
    -- answers, there is room for its entry; and none had one that turned the hand no further.
    abbrev pub HadNoCause : Told → Call → (old new : Client T) → Type 0
    HadNoCause told (calls.Insert key charge priority value) old new =
        FitsBeside told charge ⊎ TurnsNoneFor key old new
    HadNoCause told (calls.Pin register key charge priority value) old new =
        FitsBeside told charge ⊎ TurnsNoneFor key old new
    HadNoCause told call old new = Unit {0}

    -- The answers of lines are so, one after another, as long as no insertion had cause to evict.
    abbrev pub AreAllTold : (fits : T → Key → List ℕ → Type 0) → Told → (lines : List RunLine)
        (answered : List Answer) (old new : List (Client T)) (was now : List Registers)
        → MakesAll fits cache lines answered old new was now → Type 0
    AreAllTold fits told [] answered old new was now makes = Unit {0}
    AreAllTold fits told (line ∷ lines) [] old new was now makes = ⊥
    AreAllTold fits told (line ∷ lines) (answer ∷ answered) old new was now makes =
        IsTold told line answer
        × (HadNoCause told line.call makes.2.before makes.2.after
        → AreAllTold fits (told_after line.call answer told) lines answered makes.0 new makes.1 now
        makes.3)
