-- What a cache that begins with an image is, and its clients.
use Rattle.std.specs.Prelude.{◌≡◌, ℕ, ◌-◌, ◌≤◌, zero, suc, max, min, List, [], ◌∷◌, Some, length, slice_get}
use Rattle.hcc_core.specs.declared.limits.TheConstants.{STAMPS_PER_CLIENT}
use Rattle.hcc_core.specs.Sums.{total}
use Rattle.hcc_rule.specs.declared.image.ImageEntry.{ImageEntry}
use Rattle.hcc_rule.specs.declared.key.Key.{Key}
use Rattle.hcc_rule.specs.declared.view.Other.{Other}
use Rattle.hcc_rule.specs.Images.{entries_in, maker_of}
use Rattle.hcc_rule.specs.Opening.{unstarted}
use Rattle.hcc_rule.specs.Views.{Each}
use Rattle.hcc_shard.specs.declared.seat.ShardSeat.{ShardSeat}
use Rattle.hcc_shard.specs.declared.shard.Shard.{Shard}
use Rattle.hcc_shard.specs.Callers.{plan_of}
use Rattle.hcc_shard.specs.Seated.{IsBegun}
use Rattle.hcc_cache.specs.declared.cache.Cache.{Cache}
use Rattle.hcc_cache.specs.declared.client.Client.{Client}
use Rattle.hcc_cache.specs.declared.config.Config.{Config}
use Rattle.hcc_cache.specs.declared.seeded.Seeded.{Seeded}
use Rattle.hcc_cache.specs.Ended.{KnowNothing}
use Rattle.hcc_cache.specs.Images.{Visible, visible_from}
use Rattle.hcc_cache.specs.Keys.{IsKeyOf}
use Rattle.hcc_cache.specs.Known.{Knows}
use Rattle.hcc_cache.specs.Opened.{IsCacheOf}
use Rattle.hcc_cache.specs.Sharding.{IsReached}
use Rattle.hcc_cache.specs.Stays.{BeganEachWithin}
use Rattle.hcc_cache.specs.Taken.{IsOneOf, begun, split_of, sum_in}

module _ {T A : Type 0} where
  -- the entries with which a shard began
  abbrev pub image_of : Shard T A → List ImageEntry
  image_of shard = entries_in (plan_of shard).image

  -- the most that one of these shards began with
  abbrev pub most_in : List (Shard T A) → ℕ
  most_in [] = 0
  most_in (shard ∷ shards) = max (length (image_of shard)) (most_in shards)

-- one of these entries is in this slot
abbrev pub HasAt : List ImageEntry → (slot : ℕ) → Type 0
HasAt es slot = (k : ℕ) × (e : ImageEntry) × (slice_get es k ≡ Some e) × (e.slot ≡ slot)

-- its key is one of the shard of this number, of so many
abbrev pub IsHomeEntry : (seed shards number : ℕ) → ImageEntry → Type 0
IsHomeEntry seed shards number e = IsKeyOf seed shards number e.key

-- what a client made of them: client 0 all, and the others nothing
abbrev pub share_of : (number : ℕ) → List ImageEntry → Other
share_of zero es = maker_of es
share_of (suc number) es = unstarted (suc number)

-- The shard of this number has those entries that were taken and belong there. Whatever is counted
-- of them is the same in sum: so each stands there once, and no other does. Each is in the slot of
-- a probe of its key, and each earlier probe of that key has another.
pub record BeginsAs {T A : Type 0} (config : Config) (taken : List Visible) (s : ℕ)
    (shard : Shard (Seeded T) A) : Type 0 where
  pub counts : (f : Visible → ℕ)
      → total (λ (e : ImageEntry). f (visible_from config.seed e)) (image_of shard)
      ≡ sum_in config s (λ (e : Visible). f (begun e)) taken
  pub members : (k : ℕ) (e : ImageEntry) → slice_get (image_of shard) k ≡ Some e
      → IsOneOf config taken e
  pub home : Each (IsHomeEntry config.seed config.shards s) (image_of shard)
  pub placed : (k : ℕ) (e : ImageEntry) → slice_get (image_of shard) k ≡ Some e
      → IsReached config.slots e.key (HasAt (image_of shard)) e.slot

module _ {T A : Type 0} where
  -- how many serials the client of this number used: client 0 one for each entry of a shard
  abbrev pub serials_of : (number : ℕ) → List (Shard (Seeded T) A) → ℕ
  serials_of zero shards = most_in shards
  serials_of (suc number) shards = 0

  -- A client that made its share of the entries, and did nothing else: it holds nothing.
  pub record IsStarted (config : Config) (shards : List (Shard (Seeded T) A)) (number : ℕ)
      (client : Client T) : Type 0 where
    pub number_is : client.number ≡ number
    pub seed : client.seed ≡ config.seed
    pub most : client.most ≡ config.handles
    pub held : client.held ≡ 0
    pub used : client.used ≡ serials_of number shards
    pub left : client.left ≡ min config.serials (STAMPS_PER_CLIENT - client.used)
    pub handles : client.handles.slots ≡ []
    pub alone : client.alone.slots ≡ []
    pub room : (config.handles ≤ client.handles.capacity)
        × (config.handles ≤ client.alone.capacity)
    pub count : length client.seats.items ≡ length shards
    pub seats : (s : ℕ) (shard : Shard (Seeded T) A) (seat : ShardSeat (Seeded T))
        → slice_get shards s ≡ Some shard → slice_get client.seats.items s ≡ Some seat
        → IsBegun shard (share_of number (image_of shard)) seat

module _ {T : Type 0} where
  -- the serials of client 0 are those that are left beside these
  pub record Starts (config : Config) (used : ℕ) (was client : Client T) : Type 0 where
    pub used_is : client.used ≡ used
    pub left : client.left ≡ min config.serials (STAMPS_PER_CLIENT - used)
    pub same : client ≡ record was { used = client.used; left = client.left }

  -- A cache with the entries of an image that were taken, and its clients: as many as configured,
  -- and each known to the cache. The entries keep each shard's limits, and no client knows of
  -- anything that was done since.
  pub record IsReopened (fits : T → Key → List ℕ → Type 0) (config : Config) (tag : T)
      (image : List Visible) (cache : Cache T) (clients : List (Client T)) : Type 0 where
    pub cache_is : IsCacheOf config tag cache
    pub begins : (s : ℕ) (shard : Shard (Seeded T) _)
        → slice_get cache.shards.items s ≡ Some shard
        → BeginsAs config (split_of config image).taken s shard
    pub clients_are : length clients ≡ config.clients
    pub started : (k : ℕ) (client : Client T) → slice_get clients k ≡ Some client
        → IsStarted config cache.shards.items k client
    pub known : (k : ℕ) (client : Client T) → slice_get clients k ≡ Some client
        → Knows cache client
    pub began : BeganEachWithin cache fits
    pub past : KnowNothing clients
