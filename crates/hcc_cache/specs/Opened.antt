-- What a new cache and its clients are.
use Rattle.std.specs.Prelude.{◌≡◌, ℕ, ◌<◌, ◌≤◌, ◌++◌, ◌∷◌, List, [], None, Some, length, slice_get}
use Rattle.std.specs.declared.alloc.Global.{Global}
use Rattle.hcc_rule.specs.Callers.{world_at}
use Rattle.hcc_table.specs.Standing.{shown_at}
use Rattle.hcc_shard.specs.declared.seat.ShardSeat.{ShardSeat}
use Rattle.hcc_shard.specs.declared.shard.Shard.{Shard}
use Rattle.hcc_shard.specs.Callers.{capacity_of, geometry_of, is_marking, is_strict, plan_of}
use Rattle.hcc_shard.specs.Seated.{IsNew}
use Rattle.hcc_cache.specs.declared.cache.Cache.{Cache}
use Rattle.hcc_cache.specs.declared.client.Client.{Client}
use Rattle.hcc_cache.specs.declared.config.Config.{Config}
use Rattle.hcc_cache.specs.declared.seeded.Seeded.{Seeded}
use Rattle.hcc_cache.specs.Configs.{shard_capacity, shard_geometry}
use Rattle.hcc_cache.specs.Known.{Knows}

module _ {T : Type 0} where
  -- a client of this number that did nothing yet: it holds nothing, and all its serials are left
  pub record IsUnused (config : Config) (number : ℕ) (client : Client T) : Type 0 where
    pub number_is : client.number ≡ number
    pub seed : client.seed ≡ config.seed
    pub most : client.most ≡ config.handles
    pub held : client.held ≡ 0
    pub used : client.used ≡ 0
    pub left : client.left ≡ config.serials
    pub handles : client.handles.slots ≡ []
    pub alone : client.alone.slots ≡ []
    pub room : (config.handles ≤ client.handles.capacity)
        × (config.handles ≤ client.alone.capacity)

  -- all clients, in order of their numbers, with no seat yet
  pub record AreUnseated (config : Config) (clients : List (Client T)) : Type 0 where
    pub count : length clients ≡ config.clients
    pub each : (k : ℕ) (client : Client T) → slice_get clients k ≡ Some client
        → IsUnused config k client × (client.seats.items ≡ [])

  -- the client has one more seat
  pub record Gains (was : Client T) (seat : ShardSeat (Seeded T)) (client : Client T) : Type 0 where
    pub same : client ≡ record was { seats = client.seats }
    pub gained : client.seats.items ≡ was.seats.items ++ seat ∷ []

  -- the clients from this number on have one more seat each
  pub record AreGiven (from : ℕ) (old : List (Client T)) (seats : List (ShardSeat (Seeded T)))
      (clients : List (Client T)) : Type 0 where
    pub count : length clients ≡ length old
    pub same : (k : ℕ) (client : Client T) → k < from → slice_get clients k ≡ Some client
        → slice_get old k ≡ Some client
    pub given : (k : ℕ) (client : Client T) → from ≤ k → slice_get clients k ≡ Some client
        → (was : Client T) × (seat : ShardSeat (Seeded T)) × (slice_get old k ≡ Some was)
        × (slice_get seats k ≡ Some seat) × Gains was seat client

-- the tag of the shard of this number of a cache that is configured so
abbrev pub tag_in : {T : Type 0} → Config → T → (s : ℕ) → Seeded T
tag_in config tag s = record {
  tag = tag;
  seed = config.seed;
  shards = config.shards;
  number = s;
}

module _ {T A : Type 0} where
  -- it has a new seat at each of these shards
  pub record IsDealt (config : Config) (shards : List (Shard (Seeded T) A)) (number : ℕ)
      (client : Client T) : Type 0 where
    pub unused : IsUnused config number client
    pub count : length client.seats.items ≡ length shards
    pub seats : (s : ℕ) (shard : Shard (Seeded T) A) (seat : ShardSeat (Seeded T))
        → slice_get shards s ≡ Some shard → slice_get client.seats.items s ≡ Some seat
        → IsNew shard number seat

  -- all clients, in order of their numbers
  pub record AreDealt (config : Config) (shards : List (Shard (Seeded T) A))
      (clients : List (Client T)) : Type 0 where
    pub count : length clients ≡ config.clients
    pub each : (k : ℕ) (client : Client T) → slice_get clients k ≡ Some client
        → IsDealt config shards k client

  -- the shard of this number as it is configured
  pub record IsConfigured (config : Config) (tag : T) (s : ℕ) (shard : Shard (Seeded T) A)
      : Type 0 where
    pub geometry : geometry_of shard ≡ shard_geometry config
    pub capacity : capacity_of shard ≡ shard_capacity config
    pub strict : is_strict shard ≡ config.strict
    pub marks : is_marking shard ≡ config.marks
    pub tag_is : (plan_of shard).tag ≡ tag_in config tag s

-- A cache as it is configured, with as many shards: whether it was new or began with an image, and
-- whatever its clients did since.
pub record IsCacheOf {T : Type 0} (config : Config) (tag : T) (cache : Cache T) : Type 0 where
  pub tag_is : cache.tag ≡ tag
  pub seed : cache.seed ≡ config.seed
  pub geometry : cache.geometry ≡ shard_geometry config
  pub capacity : cache.capacity ≡ shard_capacity config
  pub strict : cache.strict ≡ config.strict
  pub count : length cache.shards.items ≡ config.shards
  pub shards : (s : ℕ) (shard : Shard (Seeded T) _) → slice_get cache.shards.items s ≡ Some shard
      → IsConfigured config tag s shard

-- In the world that the client knows of each shard no slot shows an entry.
abbrev pub KnowsNoneShown : {T : Type 0} → Cache T → Client T → Type 0
KnowsNoneShown {T = T} cache client =
    (s : ℕ) (shard : Shard (Seeded T) Global) (seat : ShardSeat (Seeded T))
    → slice_get cache.shards.items s ≡ Some shard → slice_get client.seats.items s ≡ Some seat
    → (slot : ℕ) → shown_at (world_at shard.table seat.seat) slot ≡ None

-- A new cache with its clients: as many as configured, and each known to the cache, with nothing
-- done at any shard. None sees an entry anywhere.
pub record IsOpened {T : Type 0} (config : Config) (tag : T) (cache : Cache T)
    (clients : List (Client T)) : Type 0 where
  pub cache_is : IsCacheOf config tag cache
  pub dealt : AreDealt config cache.shards.items clients
  pub known : (k : ℕ) (client : Client T) → slice_get clients k ≡ Some client
      → Knows cache client
  pub empty : (k : ℕ) (client : Client T) → slice_get clients k ≡ Some client
      → KnowsNoneShown cache client
