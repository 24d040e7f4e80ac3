-- What the tests know of a cache and its clients.
use Rattle.std.specs.Prelude.{◌≡◌, ℕ, List, Some, length, slice_get}
use Rattle.hcc_cache.specs.declared.cache.Cache.{Cache}
use Rattle.hcc_cache.specs.declared.client.Client.{Client}
use Rattle.hcc_cache.specs.declared.config.Config.{Config}
use Rattle.hcc_cache.specs.Known.{Knows}

module _ {T : Type 0} where
  -- the cache knows these clients
  abbrev pub AllKnown : Cache T → List (Client T) → Type 0
  AllKnown cache clients = (k : ℕ) (client : Client T) → slice_get clients k ≡ Some client
      → Knows cache client

  -- it has as many shards, and each of them as many slots, as it was made with
  abbrev pub IsSized : Cache T → Config → Type 0
  IsSized cache config =
      (length cache.shards.items ≡ config.shards) × (cache.geometry.slots ≡ config.slots)
