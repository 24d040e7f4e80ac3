-- What the words are that are left of a closed shard.
use Rattle.std.specs.Prelude.{◌≡◌, ℕ, ◌+◌, ◌*◌, ◌/◌, ◌^◌, ◌<◌, ◌≤◌, true, false, List, Option, Some, None, map, take}
use Rattle.std.specs.Int.{to_le_bytes}
use Rattle.std.specs.List.{flat_map, range_with_len}
use mir.Syntax.{w64}
use Rattle.hcc_word.specs.Word.{releases_of}
use Rattle.hcc_core.specs.declared.limits.TheConstants.{MOST_USES, OCCUPANCY_PERCENT}
use Rattle.hcc_core.specs.declared.slot.Stamp.{Stamp}
use Rattle.hcc_core.specs.World.{times}
use Rattle.hcc_rule.specs.declared.closed.ClosedTable.{ClosedTable}
use Rattle.hcc_rule.specs.declared.key.Key.{Key}
use Rattle.hcc_rule.specs.declared.layout.TheConstants.{CHARGE, LENGTH, PAYLOAD}
use Rattle.hcc_rule.specs.declared.view.View.{View}
use Rattle.hcc_rule.specs.Closing.{IsKept, IsSettled, data_at, has_entry, key_at, meta_at, over_entries, words_of}
use Rattle.hcc_rule.specs.Probes.{trail_to}
use Rattle.hcc_rule.specs.Words.{words_for}
use Rattle.hcc_shard.specs.declared.entries.ClosedEntry.{ClosedEntry}

-- The ledger words and the displacement words are the sums over the entries; each entry's charge is
-- above 0 and below 2^32, its value fits its slot, and it has no more uses than one may begin with;
-- and they are no more than 84 of a hundred slots.
pub record AreLeft (slots room : ℕ) (words : List ℕ) : Type 0 where
  pub settled : IsSettled slots room words
  pub paid : (s : ℕ) → s < slots → has_entry room words s ≡ true
      → 0 < data_at room words s CHARGE
  pub small : (s : ℕ) → s < slots → has_entry room words s ≡ true
      → data_at room words s CHARGE < 2 ^ 32
  pub short : (s : ℕ) → s < slots → has_entry room words s ≡ true
      → data_at room words s LENGTH ≤ 8 * room
  pub uses : (s : ℕ) → s < slots → has_entry room words s ≡ true
      → releases_of (meta_at room words s) ≤ MOST_USES
  pub places : over_entries room words slots (λ s. 1) ≤ slots * OCCUPANCY_PERCENT / 100

module _ (room : ℕ) (words : List ℕ) (slot : ℕ) where
  -- how many bytes the value of a slot's entry has, and the payload words that they take
  abbrev pub length_at : ℕ
  length_at = data_at room words slot LENGTH

  abbrev pub payload_at : List ℕ
  payload_at = map (λ k. data_at room words slot (PAYLOAD + k))
      (range_with_len 0 (words_for length_at))

  -- the value: the bytes of these words, each from its lowest on, as many as it has
  abbrev pub value_at : List ℕ
  value_at = take length_at (flat_map (to_le_bytes w64) payload_at)

-- The value of each entry that its maker made is the value that it was made with.
abbrev pub GivesValues : {T : Type 0} (fits : T → Key → List ℕ → Type 0) (tag : T) (room : ℕ)
    (words : List ℕ) (v : View T) → Type 0
GivesValues fits tag room words v =
    (slot : ℕ) (stamp : Stamp) (kept : IsKept fits tag room words v slot stamp)
    → value_at room words slot ≡ kept.made.value

module _ {A : Type 0} (table : ClosedTable A) where
  -- the sum of what each slot with an entry gives
  abbrev pub over_slots : (ℕ → ℕ) → ℕ
  over_slots = over_entries table.geometry.room (words_of table) table.geometry.slots

  -- how many entries there are, and their charges in sum
  abbrev pub slots_left : ℕ
  slots_left = over_slots (λ s. 1)

  abbrev pub charges_left : ℕ
  charges_left = over_slots (λ s. data_at table.geometry.room (words_of table) s CHARGE)

  -- how often this slot stands in the trails of the entries
  abbrev pub passed_left : (slot : ℕ) → ℕ
  passed_left slot =
      over_slots (λ s. times slot (trail_to table.geometry.slots
      (key_at table.geometry.room (words_of table) s) s))

  -- what the slot tells of its entry, if it has one
  abbrev pub EntryAt : (slot : ℕ) → Option ClosedEntry → Type 0
  EntryAt slot None = has_entry table.geometry.room (words_of table) slot ≡ false
  EntryAt slot (Some e) =
      (has_entry table.geometry.room (words_of table) slot ≡ true)
      × (e.key ≡ key_at table.geometry.room (words_of table) slot)
      × (e.charge ≡ data_at table.geometry.room (words_of table) slot CHARGE)
      × (e.len ≡ data_at table.geometry.room (words_of table) slot LENGTH)
      × (e.word ≡ meta_at table.geometry.room (words_of table) slot)
