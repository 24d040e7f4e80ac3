-- What C reads of a cache that was closed.
use Rattle.std.specs.Prelude.{◌≡◌, ℕ, ◌<◌, ◌++◌, List, true, false, Option, Some, None, Result, Ok, Err, IfOk, IfErr, OnOk, IsOk, drop, length, nat_lt, option_map, if◌then◌else◌}
use Rattle.std.specs.declared.alloc.Global.{Global}
use Rattle.hcc_rule.specs.declared.layout.TheConstants.{HAND}
use Rattle.hcc_rule.specs.Closing.{has_entry, words_of}
use Rattle.hcc_shard.specs.declared.entries.ClosedEntry.{ClosedEntry}
use Rattle.hcc_shard.specs.declared.entries.ClosedShard.{ClosedShard}
use Rattle.hcc_table.specs.declared.optimistic.Got.{Got}
use Rattle.hcc_table.specs.declared.optimistic.Got.TheVariants.{Hit, Miss, Short}
use Rattle.hcc_shard.specs.Left.{charges_left, slots_left}
use Rattle.hcc_cache.specs.declared.closed.Closed.{Closed}
use Rattle.hcc_cache.specs.Left.{InShard, TellsEntry, at_shard, field_of, ledger_of, length_of, over_shards, slots_at, value_of}
use Rattle.hcc_c.specs.declared.refusal.Refusal.{Refusal}
use Rattle.hcc_c.specs.declared.refusal.Refusal.TheVariants.{ClientsOut, OutOfRange}
use Rattle.hcc_c.specs.declared.shapes.Entry.{Entry}
use Rattle.hcc_c.specs.declared.shapes.Totals.{Totals}
use Rattle.hcc_c.specs.Shapes.{entry_of}

-- the sums over its entries, twice
abbrev pub totals_of : Closed → Totals
totals_of closed = record {
  usage = over_shards closed.shards.items (λ left. charges_left left.table);
  occupied = over_shards closed.shards.items (λ left. slots_left left.table);
  slot_charges = over_shards closed.shards.items (λ left. charges_left left.table);
  slot_count = over_shards closed.shards.items (λ left. slots_left left.table);
}

-- what it tells in sum; no cache may be closed yet
abbrev pub totals_left : Option Closed → Result Totals Refusal
totals_left None = Err ClientsOut
totals_left (Some closed) = Ok (totals_of closed)

-- why nothing is read of a slot: none was closed yet, or it has no such slot
abbrev pub judged_slot : (shard slot : ℕ) → Option Closed → Result (Unit {0}) Refusal
judged_slot shard slot None = Err ClientsOut
judged_slot shard slot (Some closed) =
    if nat_lt slot (slots_at closed.shards.items shard) then Ok tt else Err OutOfRange

-- a word of a slot, or why it isn't read
abbrev pub field_left : (shard slot field : ℕ) → Option Closed → Result ℕ Refusal
field_left shard slot field None = Err ClientsOut
field_left shard slot field (Some closed) =
    if nat_lt slot (slots_at closed.shards.items shard)
    then Ok (at_shard closed.shards.items shard (field_of slot field)) else Err OutOfRange

-- where the hand of a shard's clock stands, or why that isn't read
abbrev pub hand_left : (shard : ℕ) → Option Closed → Result ℕ Refusal
hand_left shard None = Err ClientsOut
hand_left shard (Some closed) =
    if nat_lt shard (length closed.shards.items)
    then Ok (at_shard closed.shards.items shard (ledger_of HAND)) else Err OutOfRange

-- a cache was closed, and this holds of it
abbrev pub IfClosed : Option Closed → (Closed → Type 0) → Type 0
IfClosed None Holds = ⊥
IfClosed (Some closed) Holds = Holds closed

-- what is copied of a slot of a shard, if it has an entry
abbrev pub CopiesLeft : (slot : ℕ) → Got → (before after : List ℕ) → ClosedShard Global → Type 0
CopiesLeft slot (Hit count) before after left =
    (has_entry left.table.geometry.room (words_of left.table) slot ≡ true)
    × (count ≡ length_of slot left) × (after ≡ value_of slot left ++ drop count before)
CopiesLeft slot (Short count) before after left =
    (has_entry left.table.geometry.room (words_of left.table) slot ≡ true)
    × (count ≡ length_of slot left) × (length before < count) × (after ≡ before)
CopiesLeft slot Miss before after left =
    (has_entry left.table.geometry.room (words_of left.table) slot ≡ false) × (after ≡ before)

module _ (shard slot : ℕ) where
  -- A slot tells of its entry, if it has one.
  pub record TellsLeft (answer : Result (Option Entry) Refusal) (from : Option Closed)
      : Type 0 where
    pub refused : IfErr (judged_slot shard slot from) (λ why. answer ≡ Err why)
    pub told : OnOk (judged_slot shard slot from) (IsOk answer)
    pub exact : IfOk answer (λ entry. IfClosed from (λ closed. (it : Option ClosedEntry)
        × (entry ≡ option_map entry_of it)
        × InShard closed.shards.items shard (TellsEntry closed.seed slot it)))

  -- The value of a slot's entry is copied to the front of a buffer, if it isn't longer.
  pub record ReadsLeft (answer : Result Got Refusal) (before after : List ℕ)
      (from : Option Closed) : Type 0 where
    pub refused : IfErr (judged_slot shard slot from) (λ why.
        (answer ≡ Err why) × (after ≡ before))
    pub told : OnOk (judged_slot shard slot from) (IsOk answer)
    pub copied : IfOk answer (λ got. IfClosed from (λ closed.
        InShard closed.shards.items shard (CopiesLeft slot got before after)))
