-- What a witness tells of a key's shard, and who follows it.
use Rattle.std.specs.Prelude.{◌≡◌, ◌<◌, ℕ, List, ◌++◌, Some, length, slice_get}
use Rattle.std.specs.declared.alloc.Global.{Global}
use Rattle.hcc_rule.specs.declared.key.Key.{Key}
use Rattle.hcc_rule.specs.declared.view.Done.{Done}
use Rattle.hcc_shard.specs.declared.seat.ShardSeat.{ShardSeat}
use Rattle.hcc_shard.specs.declared.shard.Shard.{Shard}
use Rattle.hcc_shard.specs.Callers.{LoadsOccupancy}
use Rattle.hcc_shard.specs.Ended.{past_of}
use Rattle.hcc_shard.specs.Following.{told_by, IsWitnessOf}
use Rattle.hcc_cache.specs.declared.cache.Cache.{Cache}
use Rattle.hcc_cache.specs.declared.client.Client.{Client}
use Rattle.hcc_cache.specs.declared.following.Witness.{Witness}
use Rattle.hcc_cache.specs.declared.seeded.Seeded.{Seeded}
use Rattle.hcc_cache.specs.Calls.{AtShard, shard_in}

module _ {T : Type 0} where
  -- a witness that a client of this cache gave
  pub record IsWitnessIn (cache : Cache T) (witness : Witness T) : Type 0 where
    pub within : witness.shard < length cache.shards.items
    pub shard : Shard (Seeded T) Global
    pub shard_is : slice_get cache.shards.items witness.shard ≡ Some shard
    pub witness_is : IsWitnessOf shard witness.told

  -- It tells all that the client knew of what was done at the key's shard.
  pub record Tells (cache : Cache T) (key : Key) (giver : Client T) (witness : Witness T)
      : Type 0 where
    pub number_is : witness.shard ≡ shard_in cache key
    pub seat : ShardSeat (Seeded T)
    pub seat_is : slice_get giver.seats.items witness.shard ≡ Some seat
    pub told : told_by witness.told ≡ past_of seat

  -- What the client knows of the witness's shard goes on from what that tells.
  pub record Follows (witness : Witness T) (client : Client T) : Type 0 where
    pub seat : ShardSeat (Seeded T)
    pub seat_is : slice_get client.seats.items witness.shard ≡ Some seat
    pub more : List Done
    pub goes_on : past_of seat ≡ told_by witness.told ++ more

-- Its only step at the shard of this number was a load of the occupancy.
abbrev pub OnlyLoads : {T : Type 0} → Cache T → (number : ℕ) → (old new : Client T) → Type 0
OnlyLoads cache number old new =
    AtShard cache (λ shard was is. (count : ℕ) × LoadsOccupancy shard count was is) number old new
