-- Which world the words of a closed cache show: all that its clients did led there.
use Rattle.std.specs.Prelude.{◌≡◌, ℕ, ◌<◌, ◌≤◌, List, [], Some, length, slice_get}
use Rattle.std.specs.declared.alloc.Global.{Global}
use Rattle.hcc_rule.specs.declared.key.Key.{Key}
use Rattle.hcc_rule.specs.declared.view.Done.{Done}
use Rattle.hcc_rule.specs.Acts.{IsAllowed, world_of}
use Rattle.hcc_rule.specs.Closing.{words_of}
use Rattle.hcc_rule.specs.Ending.{ShowsWorld}
use Rattle.hcc_shard.specs.declared.entries.ClosedShard.{ClosedShard}
use Rattle.hcc_shard.specs.declared.seat.ShardSeat.{ShardSeat}
use Rattle.hcc_shard.specs.declared.shard.Shard.{Shard}
use Rattle.hcc_shard.specs.Callers.{plan_of}
use Rattle.hcc_shard.specs.Ended.{past_of}
use Rattle.hcc_cache.specs.declared.cache.Cache.{Cache}
use Rattle.hcc_cache.specs.declared.client.Client.{Client}
use Rattle.hcc_cache.specs.declared.closed.Closed.{Closed}
use Rattle.hcc_cache.specs.declared.seeded.Seeded.{Seeded}
use Rattle.hcc_cache.specs.Closings.{all_joined, views_at}
use Rattle.hcc_cache.specs.Keys.{fits_seeded, tag_at}

module _ {T : Type 0} where
  -- No client of these knows of anything that was done at any shard.
  abbrev pub KnowNothing : List (Client T) → Type 0
  KnowNothing clients =
      (k : ℕ) (client : Client T) → slice_get clients k ≡ Some client
      → (s : ℕ) (seat : ShardSeat (Seeded T)) → slice_get client.seats.items s ≡ Some seat
      → past_of seat ≡ []

  -- Of the first so many clients one knows this of what was done at the shard of this number, and
  -- none knows more.
  pub record IsMostKnown (s : ℕ) (clients : List (Client T)) (count : ℕ) (history : List Done)
      : Type 0 where
    pub index : ℕ
    pub client : Client T
    pub seat : ShardSeat (Seeded T)
    pub low : index < count
    pub there : slice_get clients index ≡ Some client
    pub seat_is : slice_get client.seats.items s ≡ Some seat
    pub knows : history ≡ past_of seat
    pub most : (k : ℕ) (other : Client T) (at : ShardSeat (Seeded T)) → k < count
        → slice_get clients k ≡ Some other → slice_get other.seats.items s ≡ Some at
        → length (past_of at) ≤ length history

  -- The words that are left of a shard are those of the world to which all leads that the client
  -- knows of it that knows most.
  pub record LeavesWorld (fits : T → Key → List ℕ → Type 0) (cache : Cache T)
      (clients : List (Client T)) (s : ℕ) (shard : Shard (Seeded T) Global)
      (left : ClosedShard Global) : Type 0 where
    pub history : List Done
    pub known : IsMostKnown s clients (length clients) history
    pub allowed : IsAllowed (plan_of shard) history
    pub shows : ShowsWorld (fits_seeded fits) (tag_at cache s) cache.geometry
        (words_of left.table) (all_joined (views_at s clients))
        (world_of (plan_of shard) history)

  -- So it is of each shard: closing hides nothing, ages nothing and frees nothing.
  abbrev pub LeavesWorlds : (fits : T → Key → List ℕ → Type 0) → Cache T → List (Client T) → Closed
      → Type 0
  LeavesWorlds fits cache clients closed =
      (s : ℕ) (shard : Shard (Seeded T) Global) (left : ClosedShard Global)
      → slice_get cache.shards.items s ≡ Some shard
      → slice_get closed.shards.items s ≡ Some (Some left)
      → LeavesWorld fits cache clients s shard left
