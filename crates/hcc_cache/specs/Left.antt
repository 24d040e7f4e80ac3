-- What is left of a closed cache: of each of its shards, in order, and of all in sum.
use Rattle.std.specs.Prelude.{◌≡◌, ℕ, ◌≤◌, true, false, List, Option, Some, None, length, slice_get, slice_index}
use Rattle.std.specs.declared.alloc.Global.{Global}
use Rattle.hcc_core.specs.declared.limits.TheConstants.{MOST_SLOTS}
use Rattle.hcc_core.specs.Sums.{total}
use Rattle.hcc_rule.specs.declared.layout.TheConstants.{CHARGE, LENGTH}
use Rattle.hcc_rule.specs.Closing.{data_at, has_entry, key_at, meta_at, words_of}
use Rattle.hcc_rule.specs.Words.{field_at, ledger_at}
use Rattle.hcc_shard.specs.declared.entries.ClosedEntry.{ClosedEntry}
use Rattle.hcc_shard.specs.declared.entries.ClosedShard.{ClosedShard}
use Rattle.hcc_shard.specs.Left.{length_at, passed_left, value_at}
use Rattle.hcc_cache.specs.declared.limits.TheConstants.{MOST_SHARDS}
use Rattle.hcc_cache.specs.Keys.{key_from}

-- Of one shard.

-- a ledger word of it, and a word of one of its slots
abbrev pub ledger_of : (ledger : ℕ) → ClosedShard Global → ℕ
ledger_of ledger left =
    slice_index (words_of left.table)
    (ledger_at left.table.geometry.slots left.table.geometry.room ledger)

abbrev pub field_of : (slot field : ℕ) → ClosedShard Global → ℕ
field_of slot field left =
    slice_index (words_of left.table) (field_at left.table.geometry.room slot field)

-- how often a slot of it stands in the trails of its entries
abbrev pub passed_over : (slot : ℕ) → ClosedShard Global → ℕ
passed_over slot left = passed_left left.table slot

-- how many bytes the value of a slot's entry has, and which
abbrev pub length_of : (slot : ℕ) → ClosedShard Global → ℕ
length_of slot left = length_at left.table.geometry.room (words_of left.table) slot

abbrev pub value_of : (slot : ℕ) → ClosedShard Global → List ℕ
value_of slot left = value_at left.table.geometry.room (words_of left.table) slot

-- the slot has an entry, and the buffer has room for its value
abbrev pub HasRoomFor : (slot : ℕ) → (buffer : List ℕ) → ClosedShard Global → Type 0
HasRoomFor slot buffer left =
    (has_entry left.table.geometry.room (words_of left.table) slot ≡ true)
    × (length_of slot left ≤ length buffer)

-- what a slot of it tells of its entry, if it has one: the key is the caller's
abbrev pub TellsEntry : (seed slot : ℕ) → Option ClosedEntry → ClosedShard Global → Type 0
TellsEntry seed slot None left =
    has_entry left.table.geometry.room (words_of left.table) slot ≡ false
TellsEntry seed slot (Some e) left =
    (has_entry left.table.geometry.room (words_of left.table) slot ≡ true)
    × (e.key ≡ key_from seed (key_at left.table.geometry.room (words_of left.table) slot))
    × (e.charge ≡ data_at left.table.geometry.room (words_of left.table) slot CHARGE)
    × (e.len ≡ data_at left.table.geometry.room (words_of left.table) slot LENGTH)
    × (e.word ≡ meta_at left.table.geometry.room (words_of left.table) slot)

-- Of all shards.

-- They are no more than a cache may have, none is missing, and none has more slots than a shard may
-- have.
pub record AreWhole (shards : List (Option (ClosedShard Global))) : Type 0 where
  pub short : length shards ≤ MOST_SHARDS
  pub there : (s : ℕ) → ¬ (slice_get shards s ≡ Some None)
  pub few : (s : ℕ) (left : ClosedShard Global) → slice_get shards s ≡ Some (Some left)
      → left.table.geometry.slots ≤ MOST_SLOTS

-- what is read of a shard; 0 where there is none
abbrev pub given : (ClosedShard Global → ℕ) → Option (ClosedShard Global) → ℕ
given read None = 0
given read (Some left) = read left

-- what is read of the shard of this number; 0 where there is none
abbrev pub at_shard : List (Option (ClosedShard Global)) → (shard : ℕ)
    → (ClosedShard Global → ℕ) → ℕ
at_shard shards shard read = by (slice_get shards shard)
  where
    by : Option (Option (ClosedShard Global)) → ℕ
    by None = 0
    by (Some one) = given read one

-- how many slots it has
abbrev pub slots_at : List (Option (ClosedShard Global)) → (shard : ℕ) → ℕ
slots_at shards shard = at_shard shards shard (λ left. left.table.geometry.slots)

-- this holds of the shard of this number
abbrev pub InShard : List (Option (ClosedShard Global)) → (shard : ℕ)
    → (ClosedShard Global → Type 0) → Type 0
InShard shards shard Tells =
    (left : ClosedShard Global) × (slice_get shards shard ≡ Some (Some left)) × Tells left

-- the sum of what is read of each
abbrev pub over_shards : List (Option (ClosedShard Global)) → (ClosedShard Global → ℕ) → ℕ
over_shards shards read = total (given read) shards
