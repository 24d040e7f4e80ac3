-- When a cache of objects is closed, and what it leaves.
use Rattle.std.specs.Prelude.{◌≡◌, ◌≢◌, ℕ, List, Some, length, map, slice_get, vec_capacity}
use Rattle.hcc_cache.specs.declared.errors.ObjectCloseError.{ObjectCloseError}
use Rattle.hcc_cache.specs.declared.errors.ObjectCloseError.TheVariants.{Missing, HandlesOut, Untaken}
use Rattle.hcc_cache.specs.declared.object_cache.ClosingRoom.{ClosingRoom}
use Rattle.hcc_cache.specs.declared.object_cache.ObjectCache.{ObjectCache}
use Rattle.hcc_cache.specs.declared.object_cache.ObjectClient.{ObjectClient}
use Rattle.hcc_cache.specs.declared.objects_left.ObjectsLeft.{ObjectsLeft}
use Rattle.hcc_cache.specs.Clients.{held_by}
use Rattle.hcc_cache.specs.Closings.{IsClosed, IsLeastOf, NoneHas}
use Rattle.hcc_cache.specs.Objects.{KnowsObjects, client_of, is_word}

-- how many clients there is room for
abbrev pub places_in : ClosingRoom → ℕ
places_in room = vec_capacity room.back

-- how many handles a client holds, and how many entries are on its list
abbrev pub handles_of : ObjectClient → ℕ
handles_of client = held_by client.client

abbrev pub untaken_of : ObjectClient → ℕ
untaken_of client = client.gone.count

-- none of these clients has any, and the least number of one that has some
abbrev pub NoneWith : (ObjectClient → ℕ) → List ObjectClient → Type 0
NoneWith many clients = NoneHas many (λ c. c.client.number) clients

abbrev pub IsLeastWith : (ObjectClient → ℕ) → List ObjectClient → (number : ℕ) → Type 0
IsLeastWith many clients number = IsLeastOf many (λ c. c.client.number) clients number

-- each is known, they are all, none holds a handle, and nothing is on a list
pub record AreAllBack (cache : ObjectCache) (clients : List ObjectClient) : Type 0 where
  pub all : length clients ≡ cache.cache.geometry.clients
  pub known : (k : ℕ) (client : ObjectClient) → slice_get clients k ≡ Some client
      → KnowsObjects cache client
  pub none : NoneWith handles_of clients
  pub taken : NoneWith untaken_of clients

-- why a cache is not closed
abbrev pub RefusesObjects : ObjectCloseError → ObjectCache → List ObjectClient → Type 0
RefusesObjects (Missing have want) cache clients =
    (have ≡ length clients) × (want ≡ cache.cache.geometry.clients) × (have ≢ want)
RefusesObjects (HandlesOut number) cache clients =
    (length clients ≡ cache.cache.geometry.clients) × IsLeastWith handles_of clients number
RefusesObjects (Untaken number) cache clients =
    (length clients ≡ cache.cache.geometry.clients) × NoneWith handles_of clients
    × IsLeastWith untaken_of clients number

-- What is left: what the cache of bytes below leaves, from the first slot on.
pub record LeavesObjects (cache : ObjectCache) (clients : List ObjectClient) (left : ObjectsLeft)
    : Type 0 where
  pub closed : IsClosed is_word cache.cache (map client_of clients) left.closed
  pub shard : left.shard ≡ 0
  pub slot : left.slot ≡ 0
