-- What a new cache of objects and its clients are.
use Rattle.std.specs.Prelude.{◌≡◌, ℕ, ◌+◌, List, Some, length, map, slice_get}
use Rattle.hcc_cache.specs.declared.client.Client.{Client}
use Rattle.hcc_cache.specs.declared.gone.GoneList.{GoneList}
use Rattle.hcc_cache.specs.declared.gone.Objects.{Objects}
use Rattle.hcc_cache.specs.declared.object_opening.ObjectConfig.{ObjectConfig}
use Rattle.hcc_cache.specs.declared.object_cache.ObjectCache.{ObjectCache}
use Rattle.hcc_cache.specs.declared.object_cache.ObjectClient.{ObjectClient}
use Rattle.hcc_cache.specs.ObjectConfigs.{plain}
use Rattle.hcc_cache.specs.Objects.{KnowsObjects, client_of}
use Rattle.hcc_cache.specs.Opened.{IsOpened}

-- A list as a client begins with it: nothing is on it.
pub record IsBlank (config : ObjectConfig) (list : GoneList) : Type 0 where
  pub most : list.most ≡ config.gone
  pub count : list.count ≡ 0
  pub places : length list.places.items ≡ config.gone + config.handles

-- these clients, in order, each with such a list
pub record AreListed (config : ObjectConfig) (clients : List (Client Objects))
    (listed : List ObjectClient) : Type 0 where
  pub same : map client_of listed ≡ clients
  pub blank : (k : ℕ) (client : ObjectClient) → slice_get listed k ≡ Some client
      → IsBlank config client.gone

-- A new cache with its clients: that of bytes of the same numbers, of which each knows its own, and
-- nothing is on a list.
pub record IsOpenedFor (config : ObjectConfig) (cache : ObjectCache)
    (clients : List ObjectClient) : Type 0 where
  pub opened : IsOpened (plain config) (record {}) cache.cache (map client_of clients)
  pub blank : (k : ℕ) (client : ObjectClient) → slice_get clients k ≡ Some client
      → IsBlank config client.gone
  pub known : (k : ℕ) (client : ObjectClient) → slice_get clients k ≡ Some client
      → KnowsObjects cache client
