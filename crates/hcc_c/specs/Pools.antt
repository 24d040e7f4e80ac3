-- A cache in the hands of C, which has all its clients from the opening to the closing.
use Rattle.std.specs.Prelude.{◌≡◌, ℕ, ◌+◌, ◌≤◌, ◌==◌, ◌++◌, List, [], ◌∷◌, Option, Some, None, Result, Ok, Err, IfOk, IfErr, OnOk, OnErr, IsOkUnless, IsSomeAnd, Box, length, map, if◌then◌else◌, vec_capacity}
use Rattle.std.specs.Arc.{arc_value}
use Rattle.std.specs.Global.{Global}
use Rattle.hcc_rule.specs.Views.{Each}
use Rattle.hcc_cache.specs.declared.cache.Cache.{Cache}
use Rattle.hcc_cache.specs.declared.client.Client.{Client}
use Rattle.hcc_cache.specs.declared.config.Config.{Config}
use Rattle.hcc_cache.specs.declared.closed.Closed.{Closed}
use Rattle.hcc_cache.specs.declared.tags.AnyBytes.{AnyBytes}
use Rattle.hcc_cache.specs.Clients.{held_by}
use Rattle.hcc_cache.specs.Configs.{checked, shard_geometry}
use Rattle.hcc_cache.specs.Known.{Knows}
use Rattle.hcc_cache.specs.Closings.{AreBack, IsClosed}
use Rattle.hcc_cache.specs.Ended.{KnowNothing, LeavesWorlds}
use Rattle.hcc_cache.specs.Opened.{IsOpened}
use Rattle.hcc_cache.specs.Stays.{BeganEachWithin}
use Rattle.hcc_c.specs.declared.closed.Left.{Left}
use Rattle.hcc_c.specs.declared.objects.ClientPlace.{ClientPlace}
use Rattle.hcc_c.specs.declared.refusal.Refusal.{Refusal}
use Rattle.hcc_c.specs.declared.refusal.Refusal.TheVariants.{HandlesOut, ClientsOut, OtherCache, OutOfMemory, Shared}
use Rattle.hcc_c.specs.declared.shapes.Totals.{Totals}
use Rattle.hcc_c.specs.declared.pool.Pool.{Pool}
use Rattle.hcc_c.specs.declared.session.Session.{Session}
use Rattle.hcc_c.specs.Counts.{no_counts}
use Rattle.hcc_c.specs.Left.{totals_of}
use Rattle.hcc_c.specs.Refusals.{opening_of}
use Rattle.hcc_c.specs.Sessions.{IsWhole, any}

-- Of places for clients.

-- what the places hold
abbrev pub held_in : List ClientPlace → List (Option Session)
held_in places = map (λ place. place.value) places

abbrev pub IsEmpty : Option Session → Type 0
IsEmpty held = held ≡ None

-- the clients of the sessions that are there
abbrev pub clients_in : List (Option Session) → List (Client AnyBytes)
clients_in [] = []
clients_in (None ∷ rest) = clients_in rest
clients_in (Some session ∷ rest) = session.client ∷ clients_in rest

-- Of a cache and its clients.

-- The client is one of the cache's, and holds no handle.
pub record IsBack (cache : Cache AnyBytes) (client : Client AnyBytes) : Type 0 where
  pub known : Knows cache client
  pub none : held_by client ≡ 0

-- The cache is as it was configured.
pub record IsSized (cache : Cache AnyBytes) (config : Config) : Type 0 where
  pub geometry : cache.geometry ≡ shard_geometry config
  pub shards : length cache.shards.items ≡ config.shards

-- the cache is as configured, and these clients are back
abbrev pub Has : Config → List (Client AnyBytes) → Cache AnyBytes → Type 0
Has config clients cache = IsSized cache config × Each (IsBack cache) clients

-- this holds of the cache that is there
abbrev pub IfOpen : Pool → (Cache AnyBytes → Type 0) → Type 0
IfOpen pool Holds = IsSomeAnd pool.cache (λ cache. Holds (arc_value cache))

-- What holds of a cache between any two calls: it is there and as configured, each client that is
-- back is one of it and holds no handle, and there is room for all of them.
pub record IsWholePool (pool : Pool) : Type 0 where
  pub there : IfOpen pool (Has pool.config pool.back.items)
  pub room : pool.config.clients ≤ vec_capacity pool.back

-- a session that begins: it works on this cache, which it knows by this number
pub record IsNew (cache : Cache AnyBytes) (number : ℕ) (session : Session) : Type 0 where
  pub cache_is : arc_value session.cache ≡ cache
  pub number_is : session.cache_number ≡ number
  pub counts : session.counts ≡ no_counts
  pub whole : IsWhole session

-- one for each of these clients, in order
pub record AreNew (cache : Cache AnyBytes) (number : ℕ) (clients : List (Client AnyBytes))
    (sessions : List (Box Session Global)) : Type 0 where
  pub clients_are : map (λ session. session.value.client) sessions ≡ clients
  pub each : Each (λ session. IsNew cache number session.value) sessions

-- The cache is in the hands of C, with this number, and a new session of each of its clients is in
-- the place of the client's number.
pub record BeginsWith (cache : Cache AnyBytes) (clients : List (Client AnyBytes)) (config : Config)
    (number : ℕ) (pool : Pool) (places : List ClientPlace) : Type 0 where
  pub cache_is : IfOpen pool (λ it. it ≡ cache)
  pub config_is : pool.config ≡ config
  pub number_is : pool.number ≡ number
  pub back : pool.back.items ≡ []
  pub sessions : List (Box Session Global)
  pub given : held_in places ≡ map (λ session. Some session.value) sessions
  pub new : AreNew cache number clients sessions

-- a new cache of this number as it was configured, with a session of each of its clients
pub record Opens (config : Config) (number : ℕ) (pool : Pool) (places : List ClientPlace)
    : Type 0 where
  pub tag : AnyBytes
  pub cache : Cache AnyBytes
  pub clients : List (Client AnyBytes)
  pub opened : IsOpened config tag cache clients
  pub began : BeganEachWithin cache any
  pub past : KnowNothing clients
  pub begins : BeginsWith cache clients config number pool places

-- A cache is opened, and all its clients are given out.
pub record OpensAs (config : Config) (number : ℕ) (answer : Result (Box Pool Global) Refusal)
    (old new : List ClientPlace) : Type 0 where
  pub refused : IfErr (checked config) (λ e. answer ≡ Err (opening_of e))
  pub memory : OnOk (checked config) (IsOkUnless answer OutOfMemory)
  pub nothing : OnErr answer (new ≡ old)
  pub opened : IfOk answer (λ pool. Opens config number pool.value new)
  pub whole : IfOk answer (λ pool. IsWholePool pool.value)

-- Of closing.

-- a session that is there, and one of this cache's if it knows its cache by this cache's number
abbrev pub IsFit : Pool → Option Session → Type 0
IsFit pool held = IsSomeAnd held (λ session. IsWhole session
    × (session.cache_number ≡ pool.number
    → IfOpen pool (λ cache. arc_value session.cache ≡ cache)))

abbrev pub AreFit : Pool → List (Option Session) → Type 0
AreFit pool held = Each (IsFit pool) held

-- why a client isn't taken back by the cache of this number
abbrev pub judged_back : (number : ℕ) → Session → Result (Unit {0}) Refusal
judged_back number session =
    if session.cache_number == number
    then (if held_by session.client == 0 then Ok tt else Err HandlesOut)
    else Err OtherCache

-- the first refusal of two
abbrev pub first_of : (first second : Result (Unit {0}) Refusal) → Result (Unit {0}) Refusal
first_of (Ok fit) second = second
first_of (Err why) second = Err why

-- that of the first client which isn't taken back
abbrev pub judged_each : (number : ℕ) → List (Option Session) → Result (Unit {0}) Refusal
judged_each number [] = Ok tt
judged_each number (None ∷ rest) = judged_each number rest
judged_each number (Some session ∷ rest) =
    first_of (judged_back number session) (judged_each number rest)

-- why a cache isn't ended by these clients: one isn't taken back, or some are missing
abbrev pub judged_all : Pool → List (Option Session) → Result (Unit {0}) Refusal
judged_all pool held = first_of (judged_each pool.number held)
    (if length pool.back.items + length held == pool.config.clients then Ok tt else Err ClientsOut)

-- the cache was closed by these clients, and this was left of it
abbrev pub Closes : Closed → Pool → List (Client AnyBytes) → Type 0
Closes closed pool clients =
    IfOpen pool (λ cache. AreBack cache clients × IsClosed any cache clients closed
    × LeavesWorlds any cache clients closed)

-- the same cache, which has these clients back
abbrev pub HasBack : List (Client AnyBytes) → (old new : Pool) → Type 0
HasBack clients old new =
    (new.back.items ≡ clients) × (new ≡ record old { back = new.back })

-- A cache takes these clients back and ends, which gives this of what is left of it. A call that is
-- refused for a client changes nothing; after any other the clients are back.
pub record Ends {A : Type 0} (IsOf : A → Closed → Type 0) (answer : Result A Refusal)
    (old new : Pool) (were are : List (Option Session)) : Type 0 where
  pub refused : IfErr (judged_all old were) (λ why.
      (answer ≡ Err why) × (new ≡ old) × (are ≡ were))
  pub taken : OnOk (judged_all old were) (Each IsEmpty are)
  pub shared : OnOk (judged_all old were) (IfErr answer (λ e. (e ≡ Shared)
      × HasBack (old.back.items ++ clients_in were) old new))
  pub closed : IfOk answer (λ given. (left : Closed)
      × Closes left old (old.back.items ++ clients_in were) × IsOf given left)
  pub whole : OnErr answer (IsWholePool new)

-- It returns what is left,
abbrev pub EndsWith : Result Closed Refusal → (old new : Pool)
    → (were are : List (Option Session)) → Type 0
EndsWith = Ends (λ given left. given ≡ left)

-- or tells it in sum.
abbrev pub EndsAs : Result Totals Refusal → (old new : Pool)
    → (were are : List (Option Session)) → Type 0
EndsAs = Ends (λ totals left. totals ≡ totals_of left)

-- What is left of it is kept, in place of what was there.
pub record EndsKept (answer : Result (Unit {0}) Refusal) (old new : Pool)
    (were are : List (Option Session)) (was is : Left) : Type 0 where
  pub ends : Ends (λ _ left. is.closed ≡ Some left) answer old new were are
  pub stays : OnErr answer (is ≡ was)
