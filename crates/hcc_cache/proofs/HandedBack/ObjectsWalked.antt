-- What a walk over a closed cache of objects has left.
use Rattle.std.proofs.Common.{◌≡◌, ◌∙◌, ◌⊎◌, inl, inr, ℕ, suc, ◌+◌, ◌-◌, ◌<◌, ◌≤◌, [], ◌∷◌, Option, None, Some, Bool, true, false, get_or, length, slice_get, sym, refl, ap, add-one, arith, if◌then◌else◌}
use Rattle.std.proofs.lemmas.List.{drop_all}
use Rattle.std.proofs.lemmas.Option.{same_Some, slice_get_cases, slice_get_past}
use Rattle.std.specs.declared.alloc.Global.{Global}
use Rattle.hcc_rule.specs.declared.key.Key.{Key}
use Rattle.hcc_rule.specs.Closing.{has_entry, words_of}
use Rattle.hcc_shard.specs.declared.entries.ClosedShard.{ClosedShard}
use Rattle.hcc_cache.specs.declared.closed.Closed.{Closed}
use Rattle.hcc_cache.specs.declared.objects.Object.{Object}
use Rattle.hcc_cache.specs.Left.{slots_at}
use Rattle.hcc_cache.specs.ObjectsLeft.{ObjectAt, left_at, object_at, objects_in, objects_there}
use Rattle.hcc_cache.proofs.Basics.Lists.{drop_more}

-- Behind the last shard there is none.
pub left_past : (closed : Closed) (shard slot : ℕ) → length closed.shards.items ≤ shard
    → left_at closed shard slot ≡ []
left_past closed shard slot past =
    rw (
      slice_get_past closed.shards.items shard past,
      drop_all (shard + 1) closed.shards.items (omega arith),
    ) refl

module _ (closed : Closed) (shard slot : ℕ) (left : ClosedShard Global)
    (there : slice_get closed.shards.items shard ≡ Some (Some left)) where
  -- Behind the last slot of a shard there are those of the next.
  pub left_next : left.table.geometry.slots ≤ slot
      → left_at closed shard slot ≡ left_at closed (shard + 1) 0
  left_next past =
      let none : left.table.geometry.slots - slot ≡ 0 = omega arith in
      let behind = drop_more (objects_in closed.seed 0) (objects_there closed.seed 0)
      closed.shards.items (shard + 1) refl (λ x. refl) in
      rw (there, none) behind

  -- At a slot there is its entry, or what is behind it.
  left_step : slot < left.table.geometry.slots
      → left_at closed shard slot
      ≡ (if has_entry left.table.geometry.room (words_of left.table) slot
      then object_at closed.seed left slot ∷ left_at closed shard (slot + 1)
      else left_at closed shard (slot + 1))
  left_step inside =
      let more : left.table.geometry.slots - slot ≡ suc (left.table.geometry.slots - (slot + 1)) =
      omega arith in
      let next : slot + 1 ≡ suc slot = add-one slot in
      by (has_entry left.table.geometry.room (words_of left.table) slot) refl more next
    where
      by : (b : Bool) → has_entry left.table.geometry.room (words_of left.table) slot ≡ b
          → left.table.geometry.slots - slot ≡ suc (left.table.geometry.slots - (slot + 1))
          → slot + 1 ≡ suc slot
          → left_at closed shard slot
          ≡ (if has_entry left.table.geometry.room (words_of left.table) slot
          then object_at closed.seed left slot ∷ left_at closed shard (slot + 1)
          else left_at closed shard (slot + 1))
      by true has more next = rw (there, more, has, next) refl
      by false has more next = rw (there, more, has, next) refl

-- What a slot has comes first of what is left.
pub walk_some : (closed : Closed) (shard slot : ℕ) (object : Key × Object)
    → slot < slots_at closed.shards.items shard → ObjectAt closed shard slot (Some object)
    → left_at closed shard slot ≡ object ∷ left_at closed shard (slot + 1)
walk_some closed shard slot object inside at =
    let left = at.0 in
    let there = at.1 in
    let within : slot < left.table.geometry.slots = rw there at inside in
    by (has_entry left.table.geometry.room (words_of left.table) slot) refl at.2
    (left_step closed shard slot left there within)
  where
    by : (b : Bool)
        → has_entry at.0.table.geometry.room (words_of at.0.table) slot ≡ b
        → Some object ≡ (if has_entry at.0.table.geometry.room (words_of at.0.table) slot
        then Some (object_at closed.seed at.0 slot) else None)
        → left_at closed shard slot
        ≡ (if has_entry at.0.table.geometry.room (words_of at.0.table) slot
        then object_at closed.seed at.0 slot ∷ left_at closed shard (slot + 1)
        else left_at closed shard (slot + 1))
        → left_at closed shard slot ≡ object ∷ left_at closed shard (slot + 1)
    by true has told step =
        let is : Some object ≡ Some (object_at closed.seed at.0 slot) = rw has at told in
        let same : object ≡ object_at closed.seed at.0 slot = same_Some _ _ is in
        (rw has at step) ∙ ap (λ o. o ∷ left_at closed shard (slot + 1)) (sym same)
    by false has told step =
        let no : Some object ≡ None = rw has at told in
        cc

pub walk_none : (closed : Closed) (shard slot : ℕ)
    → slot < slots_at closed.shards.items shard → ObjectAt closed shard slot None
    → left_at closed shard slot ≡ left_at closed shard (slot + 1)
walk_none closed shard slot inside at =
    let left = at.0 in
    let there = at.1 in
    let within : slot < left.table.geometry.slots = rw there at inside in
    by (has_entry left.table.geometry.room (words_of left.table) slot) refl at.2
    (left_step closed shard slot left there within)
  where
    by : (b : Bool)
        → has_entry at.0.table.geometry.room (words_of at.0.table) slot ≡ b
        → None ≡ (if has_entry at.0.table.geometry.room (words_of at.0.table) slot
        then Some (object_at closed.seed at.0 slot) else None)
        → left_at closed shard slot
        ≡ (if has_entry at.0.table.geometry.room (words_of at.0.table) slot
        then object_at closed.seed at.0 slot ∷ left_at closed shard (slot + 1)
        else left_at closed shard (slot + 1))
        → left_at closed shard slot ≡ left_at closed shard (slot + 1)
    by true has told step =
        let no : None ≡ Some (object_at closed.seed at.0 slot) = rw has at told in
        cc
    by false has told step = rw has at step

-- a shard that is there
pub shard_there : (closed : Closed) (shard : ℕ) → shard < length closed.shards.items
    → (left : ClosedShard Global) × (slice_get closed.shards.items shard ≡ Some (Some left))
shard_there closed shard inside =
    by (slice_get_cases closed.shards.items shard).1 (closed.whole.there shard)
  where
    by : ((x : Option (ClosedShard Global)) × (shard < length closed.shards.items)
        × (slice_get closed.shards.items shard ≡ Some x)
        × (get_or closed.shards.items shard x ≡ x))
        ⊎ ((length closed.shards.items ≤ shard)
        × (slice_get closed.shards.items shard ≡ None))
        → ¬ (slice_get closed.shards.items shard ≡ Some None)
        → (left : ClosedShard Global)
        × (slice_get closed.shards.items shard ≡ Some (Some left))
    by (inl (Some left, within, there, read)) whole = (left, there)
    by (inl (None, within, there, read)) whole = absurd (whole there)
    by (inr past) whole = absurd (let low = past.0 in omega arith)

-- Behind the last slot of a shard that is there comes the next shard.
pub walk_on : (closed : Closed) (shard slot : ℕ) → shard < length closed.shards.items
    → slots_at closed.shards.items shard ≤ slot
    → left_at closed shard slot ≡ left_at closed (shard + 1) 0
walk_on closed shard slot inside past =
    let it = shard_there closed shard inside in
    let behind : it.0.table.geometry.slots ≤ slot = rw (it.1) at past in
    left_next closed shard slot it.0 it.1 behind
