-- What calls leave of what a client knows the shards of a cache to show.
use Rattle.std.specs.Prelude.{◌≡◌, ℕ, ◌&&◌, Bool, List, Some, slice_get, true}
use Rattle.std.specs.declared.alloc.Global.{Global}
use Rattle.hcc_rule.specs.declared.key.Key.{Key}
use Rattle.hcc_shard.specs.declared.seat.ShardSeat.{ShardSeat}
use Rattle.hcc_shard.specs.declared.shard.Shard.{Shard}
use Rattle.hcc_shard.specs.Stays.{BeganWithinLimits, ReleasesAt, StaysAt}
use Rattle.hcc_cache.specs.declared.cache.Cache.{Cache}
use Rattle.hcc_cache.specs.declared.client.Client.{Client}
use Rattle.hcc_cache.specs.declared.handle.Handle.{Handle}
use Rattle.hcc_cache.specs.declared.holding.Hold.{Hold}
use Rattle.hcc_cache.specs.declared.holding.Kept.TheVariants.{Pinned, Standing}
use Rattle.hcc_cache.specs.declared.seeded.Seeded.{Seeded}
use Rattle.hcc_cache.specs.Calls.{AtShard, OnlyAt}
use Rattle.hcc_cache.specs.Clients.{hold_of}
use Rattle.hcc_cache.specs.Keys.{fits_seeded}

module _ {T : Type 0} (cache : Cache T) where
  -- What the client knows of each shard goes on: in a cache of one client by events that make and
  -- take no entry, and show and hide none.
  pub record Stays (old new : Client T) : Type 0 where
    pub each : (s : ℕ) (shard : Shard (Seeded T) Global) (was : ShardSeat (Seeded T))
        → slice_get cache.shards.items s ≡ Some shard → slice_get old.seats.items s ≡ Some was
        → (is : ShardSeat (Seeded T)) × (slice_get new.seats.items s ≡ Some is)
        × StaysAt shard was is

  -- The reference of a pin was given back in this shard, by the events there, and no other seat
  -- changed.
  abbrev pub ReleasesPin : Hold → (slot : ℕ) → (room used erase freed : Bool)
      → (old new : Client T) → Type 0
  ReleasesPin hold slot room used erase freed old new =
      AtShard cache (λ shard was is. ReleasesAt shard slot hold.serial room used erase freed was is)
      hold.shard old new
      × OnlyAt hold.shard old new

  -- so was that of a handle on an entry of the table, with room for one that is freed or without
  abbrev pub ReleasesWith : (room : Bool) → Handle → (useful erase freed : Bool)
      → (old new : Client T) → Type 0
  ReleasesWith room handle useful erase freed old new =
      (hold : Hold) (slot : ℕ) (counting : Bool) → hold_of old handle ≡ Some hold
      → hold.kept ≡ Pinned slot counting
      → ReleasesPin hold slot room (useful && counting) erase freed old new

  -- there is always room where nobody keeps what is freed
  abbrev pub ReleasesIn : Handle → (useful erase freed : Bool) → (old new : Client T) → Type 0
  ReleasesIn handle useful erase freed old new =
      ReleasesWith true handle useful erase freed old new

  -- one on a standalone entry changes nothing of what is shown
  abbrev pub StaysWhereStanding : Handle → (old new : Client T) → Type 0
  StaysWhereStanding handle old new =
      (hold : Hold) (index : ℕ) → hold_of old handle ≡ Some hold → hold.kept ≡ Standing index
      → Stays old new

  -- the entries with which each shard began keep their limits
  abbrev pub BeganEachWithin : (fits : T → Key → List ℕ → Type 0) → Type 0
  BeganEachWithin fits =
      (s : ℕ) (shard : Shard (Seeded T) Global) → slice_get cache.shards.items s ≡ Some shard
      → BeganWithinLimits shard (fits_seeded fits)
