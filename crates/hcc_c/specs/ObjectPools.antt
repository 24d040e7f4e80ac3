-- A cache of objects in the hands of C, which has all its clients from the opening to the closing.
use Rattle.std.specs.Prelude.{◌≡◌, ℕ, ◌+◌, ◌≤◌, ◌==◌, ◌++◌, true, List, [], ◌∷◌, Option, Some, None, Result, Ok, Err, IfOk, IfErr, OnOk, OnErr, IsOkUnless, IsSomeAnd, Box, length, map, if◌then◌else◌, vec_capacity}
use Rattle.std.specs.Arc.{arc_value}
use Rattle.std.specs.Global.{Global}
use Rattle.hcc_rule.specs.Views.{Each}
use Rattle.hcc_cache.specs.declared.object_cache.ObjectCache.{ObjectCache}
use Rattle.hcc_cache.specs.declared.object_cache.ObjectClient.{ObjectClient}
use Rattle.hcc_cache.specs.declared.object_opening.ObjectConfig.{ObjectConfig}
use Rattle.hcc_cache.specs.declared.objects_left.ObjectsLeft.{ObjectsLeft}
use Rattle.hcc_cache.specs.Configs.{shard_geometry}
use Rattle.hcc_cache.specs.ObjectConfigs.{checked_objects, plain}
use Rattle.hcc_cache.specs.Objects.{KnowsObjects}
use Rattle.hcc_cache.specs.ObjectsClosed.{AreAllBack, LeavesObjects, handles_of, places_in, untaken_of}
use Rattle.hcc_cache.specs.ObjectsOpened.{IsOpenedFor}
use Rattle.hcc_c.specs.declared.kept_objects.KeptObjects.{KeptObjects}
use Rattle.hcc_c.specs.declared.object_holders.ObjectClientPlace.{ObjectClientPlace}
use Rattle.hcc_c.specs.declared.object_pool.ObjectPool.{ObjectPool}
use Rattle.hcc_c.specs.declared.object_session.ObjectSession.{ObjectSession}
use Rattle.hcc_c.specs.declared.refusal.Refusal.{Refusal}
use Rattle.hcc_c.specs.declared.refusal.Refusal.TheVariants.{HandlesOut, ClientsOut, OtherCache, OutOfMemory, Shared, Untaken}
use Rattle.hcc_c.specs.Counts.{no_counts}
use Rattle.hcc_c.specs.ObjectSessions.{IsWhole}
use Rattle.hcc_c.specs.Pools.{first_of}
use Rattle.hcc_c.specs.Refusals.{opening_objects_of}

-- Of places for clients.

-- what the places hold
abbrev pub held_in : List ObjectClientPlace → List (Option ObjectSession)
held_in places = map (λ place. place.value) places

abbrev pub IsEmpty : Option ObjectSession → Type 0
IsEmpty held = held ≡ None

-- the clients of the sessions that are there
abbrev pub clients_in : List (Option ObjectSession) → List ObjectClient
clients_in [] = []
clients_in (None ∷ rest) = clients_in rest
clients_in (Some session ∷ rest) = session.client ∷ clients_in rest

-- Of a cache and its clients.

-- The client is one of the cache's, holds no handle, and nothing is on its list.
pub record IsBack (cache : ObjectCache) (client : ObjectClient) : Type 0 where
  pub known : KnowsObjects cache client
  pub none : handles_of client ≡ 0
  pub taken : untaken_of client ≡ 0

-- The cache is as it was configured.
abbrev pub IsSized : ObjectCache → ObjectConfig → Type 0
IsSized cache config = cache.cache.geometry ≡ shard_geometry (plain config)

-- the cache is as configured, and these clients are back
abbrev pub Has : ObjectConfig → List ObjectClient → ObjectCache → Type 0
Has config clients cache = IsSized cache config × Each (IsBack cache) clients

-- this holds of the cache that is there
abbrev pub IfOpen : ObjectPool → (ObjectCache → Type 0) → Type 0
IfOpen pool Holds = IsSomeAnd pool.cache (λ cache. Holds (arc_value cache))

-- What holds of a cache between any two calls: it is there and as configured, each client that is
-- back is one of it, holds no handle and has nothing on its list, and there is room for all.
pub record IsWholePool (pool : ObjectPool) : Type 0 where
  pub there : IfOpen pool (Has pool.config pool.back.items)
  pub room : pool.config.clients ≤ vec_capacity pool.back
  pub closing : pool.config.clients ≤ places_in pool.room

-- a session that begins: it works on this cache, which it knows by this number
pub record IsNew (cache : ObjectCache) (number : ℕ) (session : ObjectSession) : Type 0 where
  pub cache_is : arc_value session.cache ≡ cache
  pub number_is : session.cache_number ≡ number
  pub counts : session.counts ≡ no_counts
  pub whole : IsWhole session

-- one for each of these clients, in order
pub record AreNew (cache : ObjectCache) (number : ℕ) (clients : List ObjectClient)
    (sessions : List (Box ObjectSession Global)) : Type 0 where
  pub clients_are : map (λ session. session.value.client) sessions ≡ clients
  pub each : Each (λ session. IsNew cache number session.value) sessions

-- The cache is in the hands of C, with this number, and a new session of each of its clients is in
-- the place of the client's number.
pub record BeginsWith (cache : ObjectCache) (clients : List ObjectClient) (config : ObjectConfig)
    (number : ℕ) (pool : ObjectPool) (places : List ObjectClientPlace) : Type 0 where
  pub cache_is : IfOpen pool (λ it. it ≡ cache)
  pub config_is : pool.config ≡ config
  pub number_is : pool.number ≡ number
  pub back : pool.back.items ≡ []
  pub sessions : List (Box ObjectSession Global)
  pub given : held_in places ≡ map (λ session. Some session.value) sessions
  pub new : AreNew cache number clients sessions

-- a new cache of this number as it was configured, with a session of each of its clients
pub record Opens (config : ObjectConfig) (number : ℕ) (pool : ObjectPool)
    (places : List ObjectClientPlace) : Type 0 where
  pub cache : ObjectCache
  pub clients : List ObjectClient
  pub opened : IsOpenedFor config cache clients
  pub begins : BeginsWith cache clients config number pool places

-- A cache is opened, and all its clients are given out.
pub record OpensAs (config : ObjectConfig) (number : ℕ)
    (answer : Result (Box ObjectPool Global) Refusal) (old new : List ObjectClientPlace)
    : Type 0 where
  pub refused : IfErr (checked_objects config) (λ e. answer ≡ Err (opening_objects_of e))
  pub memory : OnOk (checked_objects config) (IsOkUnless answer OutOfMemory)
  pub nothing : OnErr answer (new ≡ old)
  pub opened : IfOk answer (λ pool. Opens config number pool.value new)
  pub whole : IfOk answer (λ pool. IsWholePool pool.value)

-- Of closing.

-- a session that is there, and one of this cache's if it knows its cache by this cache's number
abbrev pub IsFit : ObjectPool → Option ObjectSession → Type 0
IsFit pool held = IsSomeAnd held (λ session. IsWhole session
    × (session.cache_number ≡ pool.number
    → IfOpen pool (λ cache. arc_value session.cache ≡ cache)))

abbrev pub AreFit : ObjectPool → List (Option ObjectSession) → Type 0
AreFit pool held = Each (IsFit pool) held

-- why a client isn't taken back by the cache of this number: it is another's, holds a handle, or
-- has something on its list
abbrev pub judged_back : (number : ℕ) → ObjectSession → Result (Unit {0}) Refusal
judged_back number session =
    if session.cache_number == number
    then (if handles_of session.client == 0
    then (if untaken_of session.client == 0 then Ok tt else Err Untaken) else Err HandlesOut)
    else Err OtherCache

-- that of the first client which isn't taken back
abbrev pub judged_each : (number : ℕ) → List (Option ObjectSession) → Result (Unit {0}) Refusal
judged_each number [] = Ok tt
judged_each number (None ∷ rest) = judged_each number rest
judged_each number (Some session ∷ rest) =
    first_of (judged_back number session) (judged_each number rest)

-- why a cache isn't ended by these clients: one isn't taken back, or some are missing
abbrev pub judged_all : ObjectPool → List (Option ObjectSession) → Result (Unit {0}) Refusal
judged_all pool held = first_of (judged_each pool.number held)
    (if length pool.back.items + length held == pool.config.clients then Ok tt else Err ClientsOut)

-- the cache was closed by these clients, and this was left of it
abbrev pub Closes : ObjectsLeft → ObjectPool → List ObjectClient → Type 0
Closes left pool clients =
    IfOpen pool (λ cache. AreAllBack cache clients × LeavesObjects cache clients left)

-- the same cache, which has these clients back
abbrev pub HasBack : List ObjectClient → (old new : ObjectPool) → Type 0
HasBack clients old new =
    (new.back.items ≡ clients) × (new ≡ record old { back = new.back })

-- A cache takes these clients back and ends, which gives this of what is left of it. A call that is
-- refused for a client changes nothing; after any other the clients are back.
pub record Ends {A : Type 0} (IsOf : A → ObjectsLeft → Type 0) (answer : Result A Refusal)
    (old new : ObjectPool) (were are : List (Option ObjectSession)) : Type 0 where
  pub refused : IfErr (judged_all old were) (λ why.
      (answer ≡ Err why) × (new ≡ old) × (are ≡ were))
  pub taken : OnOk (judged_all old were) (Each IsEmpty are)
  pub shared : OnOk (judged_all old were) (IfErr answer (λ e. (e ≡ Shared)
      × HasBack (old.back.items ++ clients_in were) old new))
  pub closed : IfOk answer (λ given. (left : ObjectsLeft)
      × Closes left old (old.back.items ++ clients_in were) × IsOf given left)
  pub whole : OnErr answer (IsWholePool new)

-- It returns what is left.
abbrev pub EndsWith : Result ObjectsLeft Refusal → (old new : ObjectPool)
    → (were are : List (Option ObjectSession)) → Type 0
EndsWith = Ends (λ given left. given ≡ left)

-- What is left of it is kept, where nothing was yet.
pub record EndsKept (answer : Result (Unit {0}) Refusal) (old new : ObjectPool)
    (were are : List (Option ObjectSession)) (was is : KeptObjects) : Type 0 where
  pub ends : Ends (λ _ left. is.left ≡ Some left) answer old new were are
  pub stays : OnErr answer (is ≡ was)
