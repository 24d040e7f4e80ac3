-- The image of a closed shard: its visible entries, as a shard may be opened with them.
use Rattle.std.specs.Prelude.{◌≡◌, ℕ, true, false, Bool, List, Option, Some, None, filter, map}
use Rattle.std.specs.List.{range_with_len}
use Rattle.hcc_word.specs.Word.{is_visible, releases_of}
use Rattle.hcc_rule.specs.declared.closed.ClosedTable.{ClosedTable}
use Rattle.hcc_rule.specs.declared.image.ImageEntry.{ImageEntry}
use Rattle.hcc_rule.specs.declared.key.Key.{Key}
use Rattle.hcc_rule.specs.declared.layout.TheConstants.{CHARGE}
use Rattle.hcc_rule.specs.Closing.{data_at, key_at, meta_at, words_of}
use Rattle.hcc_rule.specs.Views.{Each}
use Rattle.hcc_shard.specs.Left.{value_at}
use Rattle.hcc_shard.specs.Reopened.{AreFitting}

module _ {A : Type 0} (table : ClosedTable A) where
  -- whether a slot's entry is visible
  abbrev pub is_shown : (slot : ℕ) → Bool
  is_shown slot = is_visible (meta_at table.geometry.room (words_of table) slot)

  -- The entry is what the words of its slot say: its uses are those of the meta word.
  pub record IsOfWords (e : ImageEntry) : Type 0 where
    pub key : e.key ≡ key_at table.geometry.room (words_of table) e.slot
    pub value : e.value.items ≡ value_at table.geometry.room (words_of table) e.slot
    pub charge : e.charge ≡ data_at table.geometry.room (words_of table) e.slot CHARGE
    pub uses : e.uses ≡ releases_of (meta_at table.geometry.room (words_of table) e.slot)

  -- They are those of the visible entries, in the order of their slots.
  pub record AreShown (size : ℕ) (es : List ImageEntry) : Type 0 where
    pub slots : map (λ (e : ImageEntry). e.slot) es ≡ filter is_shown (range_with_len 0 size)
    pub each : Each IsOfWords es

  -- any image of it is one whose values are right for their keys
  abbrev pub GivesFitting : {T : Type 0} (fits : T → Key → List ℕ → Type 0) (tag : T) → Type 0
  GivesFitting fits tag =
      (es : List ImageEntry) → AreShown table.geometry.slots es → AreFitting fits tag es

  -- what the slot gives to the image
  abbrev pub ShownAt : (slot : ℕ) → Option ImageEntry → Type 0
  ShownAt slot None = is_shown slot ≡ false
  ShownAt slot (Some e) = (is_shown slot ≡ true) × (e.slot ≡ slot) × IsOfWords e
