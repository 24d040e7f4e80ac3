-- What is copied of a slot of a closed cache, by what the cache tells of its entry.
use Rattle.std.proofs.Common.{◌≡◌, ℕ, ◌<◌, ◌≤◌, ◌++◌, List, None, Some, drop, length, refl, sym, arith}
use Rattle.hcc_shard.specs.declared.entries.ClosedEntry.{ClosedEntry}
use Rattle.hcc_table.specs.declared.optimistic.Got.TheVariants.{Hit, Miss, Short}
use Rattle.hcc_cache.specs.declared.closed.Closed.{Closed}
use Rattle.hcc_cache.specs.Left.{HasRoomFor, InShard, TellsEntry, length_of, value_of}
use Rattle.hcc_c.specs.Left.{CopiesLeft}

module _ (closed : Closed) (shard slot : ℕ) (before : List ℕ) where
  -- nothing, where it has none
  pub copies_none : InShard closed.shards.items shard (TellsEntry closed.seed slot None)
      → InShard closed.shards.items shard (CopiesLeft slot Miss before before)
  copies_none told = (told.0, told.1, (told.2, refl))

  module _ (e : ClosedEntry)
      (told : InShard closed.shards.items shard (TellsEntry closed.seed slot (Some e))) where
    -- nothing, where the buffer is too short
    pub copies_length : length before < e.len
        → InShard closed.shards.items shard (CopiesLeft slot (Short e.len) before before)
    copies_length short = (told.0, told.1, (told.2.0, told.2.3, short, refl))

    -- else there is room
    pub has_room : e.len ≤ length before
        → InShard closed.shards.items shard (HasRoomFor slot before)
    has_room enough =
        let is = told.2.3 in let fits : length_of slot told.0 ≤ length before = omega arith in
        (told.0, told.1, (told.2.0, fits))

    -- and the value is copied
    pub copies_value : (count : ℕ) (after : List ℕ)
        → InShard closed.shards.items shard (λ left. (count ≡ length_of slot left)
        × (after ≡ value_of slot left ++ drop count before))
        → InShard closed.shards.items shard (CopiesLeft slot (Hit count) before after)
    copies_value count after copied =
        let same : told.0 ≡ copied.0 = cc in
        (copied.0, copied.1, (rw (sym same) told.2.0, copied.2.0, copied.2.1))
