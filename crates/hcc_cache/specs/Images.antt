-- The image of a closed cache: its visible entries, with the caller's keys.
use Rattle.std.specs.Prelude.{ℕ, List, Option, Some, None, [], map}
use Rattle.std.specs.List.{filter, flat_map, range_with_len}
use Rattle.std.specs.declared.alloc.Global.{Global}
use Rattle.hcc_word.specs.Word.{releases_of}
use Rattle.hcc_rule.specs.declared.image.ImageEntry.{ImageEntry}
use Rattle.hcc_rule.specs.declared.key.Key.{Key}
use Rattle.hcc_rule.specs.declared.layout.TheConstants.{CHARGE}
use Rattle.hcc_rule.specs.Closing.{data_at, key_at, meta_at, words_of}
use Rattle.hcc_rule.specs.Views.{Each}
use Rattle.hcc_shard.specs.declared.entries.ClosedShard.{ClosedShard}
use Rattle.hcc_shard.specs.Imaged.{is_shown}
use Rattle.hcc_shard.specs.Left.{value_at}
use Rattle.hcc_cache.specs.declared.image.Saved.{Saved}
use Rattle.hcc_cache.specs.Keys.{key_from}

-- An entry of a cache, as its user knows it, wherever it stands.
pub record Visible : Type 0 where
  pub key : Key
  pub value : List ℕ
  pub charge : ℕ
  pub uses : ℕ

-- what is saved of an entry
abbrev pub visible_of : Saved → Visible
visible_of e = record { key = e.key; value = e.value.items; charge = e.charge; uses = e.uses }

-- an entry of a shard, under this seed
abbrev pub visible_from : (seed : ℕ) → ImageEntry → Visible
visible_from seed e =
    record { key = key_from seed e.key; value = e.value.items; charge = e.charge; uses = e.uses }

-- what the words of a slot say
abbrev pub visible_at : (seed : ℕ) → ClosedShard Global → (slot : ℕ) → Visible
visible_at seed left slot = record {
  key = key_from seed (key_at left.table.geometry.room (words_of left.table) slot);
  value = value_at left.table.geometry.room (words_of left.table) slot;
  charge = data_at left.table.geometry.room (words_of left.table) slot CHARGE;
  uses = releases_of (meta_at left.table.geometry.room (words_of left.table) slot);
}

-- the visible entries of a shard, in the order of their slots
abbrev pub visible_in : (seed : ℕ) → Option (ClosedShard Global) → List Visible
visible_in seed None = []
visible_in seed (Some left) =
    map (visible_at seed left)
    (filter (is_shown left.table) (range_with_len 0 left.table.geometry.slots))

-- those of all shards, shard by shard
abbrev pub visible_entries : (seed : ℕ) → List (Option (ClosedShard Global)) → List Visible
visible_entries seed shards = flat_map (visible_in seed) shards

-- the value of each is right for its key
abbrev pub AreRight : {T : Type 0} (fits : T → Key → List ℕ → Type 0) (tag : T) → List Visible
    → Type 0
AreRight fits tag = Each (λ (e : Visible). fits tag e.key e.value)
