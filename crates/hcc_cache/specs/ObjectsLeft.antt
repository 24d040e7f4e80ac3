-- What a closed cache of objects has left to hand out.
use Rattle.std.specs.Prelude.{◌≡◌, ℕ, ◌+◌, ◌-◌, ◌<◌, ◌++◌, ◌∷◌, [], zero, suc, true, List, Option, None, Some, drop, flat_map, slice_get, if◌then◌else◌}
use Rattle.std.specs.declared.alloc.Global.{Global}
use Rattle.std.specs.Int.{from_le_bytes}
use mir.Syntax.{w64}
use Rattle.hcc_rule.specs.declared.key.Key.{Key}
use Rattle.hcc_rule.specs.Closing.{has_entry, key_at, words_of}
use Rattle.hcc_shard.specs.declared.entries.ClosedShard.{ClosedShard}
use Rattle.hcc_cache.specs.declared.closed.Closed.{Closed}
use Rattle.hcc_cache.specs.declared.objects.Object.{Object}
use Rattle.hcc_cache.specs.Keys.{key_from}
use Rattle.hcc_cache.specs.Left.{InShard, length_of, value_of}
use Rattle.hcc_cache.specs.Objects.{object_of}

module _ (seed : ℕ) (left : ClosedShard Global) where
  -- the key and the object of a slot's entry
  abbrev pub object_at : (slot : ℕ) → Key × Object
  object_at slot = (
    key_from seed (key_at left.table.geometry.room (words_of left.table) slot),
    object_of (from_le_bytes w64 (value_of slot left)),
  )

  -- those of so many slots from one on, where they have an entry
  abbrev pub objects_of : (count from : ℕ) → List (Key × Object)
  objects_of zero from = []
  objects_of (suc count) from =
      if has_entry left.table.geometry.room (words_of left.table) from
      then object_at from ∷ objects_of count (suc from) else objects_of count (suc from)

-- those of a shard, from a slot on
abbrev pub objects_in : (seed from : ℕ) → Option (ClosedShard Global) → List (Key × Object)
objects_in seed from None = []
objects_in seed from (Some left) =
    objects_of seed left (left.table.geometry.slots - from) from

abbrev pub objects_there : (seed from : ℕ) → Option (Option (ClosedShard Global))
    → List (Key × Object)
objects_there seed from None = []
objects_there seed from (Some shard) = objects_in seed from shard

-- those of all shards, from a slot of one on
abbrev pub left_at : Closed → (shard slot : ℕ) → List (Key × Object)
left_at closed shard slot =
    objects_there closed.seed slot (slice_get closed.shards.items shard)
    ++ flat_map (objects_in closed.seed 0) (drop (shard + 1) closed.shards.items)

-- what a slot of a shard has: the object of its entry, if it has one
abbrev pub ObjectAt : Closed → (shard slot : ℕ) → Option (Key × Object) → Type 0
ObjectAt closed shard slot object =
    InShard closed.shards.items shard (λ left. object
    ≡ (if has_entry left.table.geometry.room (words_of left.table) slot
    then Some (object_at closed.seed left slot) else None))

-- each entry that is left is of one word
abbrev pub AreWords : List (Option (ClosedShard Global)) → Type 0
AreWords shards =
    (s slot : ℕ) (left : ClosedShard Global) → slice_get shards s ≡ Some (Some left)
    → slot < left.table.geometry.slots
    → has_entry left.table.geometry.room (words_of left.table) slot ≡ true
    → length_of slot left ≡ 8
