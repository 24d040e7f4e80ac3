-- What a shard of a cache may be between any two atomic steps of any threads.
use Rattle.std.specs.Prelude.{◌≡◌, ℕ, ◌<◌, ◌++◌, List, Some, option_and_then, slice_get}
use Rattle.std.specs.declared.alloc.Global.{Global}
use Rattle.hcc_core.specs.declared.slot.Entry.{Entry}
use Rattle.hcc_core.specs.Runs.{entry_given, held_at, shows_of}
use Rattle.hcc_rule.specs.declared.key.Key.{Key}
use Rattle.hcc_rule.specs.declared.rule.Plan.{Plan}
use Rattle.hcc_rule.specs.declared.view.Done.{Done}
use Rattle.hcc_rule.specs.declared.view.Record.{Record}
use Rattle.hcc_rule.specs.Acts.{events_of}
use Rattle.hcc_rule.specs.Callers.{world_at}
use Rattle.hcc_rule.specs.Laws.{LoggedStateOf, StateOf}
use Rattle.hcc_rule.specs.Logs.{HoldsLogged, unlogged}
use Rattle.hcc_rule.specs.Opening.{begun_world}
use Rattle.hcc_rule.specs.Records.{record_in}
use Rattle.hcc_rule.specs.Rule.{Holds}
use Rattle.hcc_rule.specs.Runs.{first_shows}
use Rattle.hcc_rule.specs.Words.{key_of}
use Rattle.hcc_table.specs.Standing.{ShowsKey}
use Rattle.hcc_shard.specs.declared.seat.ShardSeat.{ShardSeat}
use Rattle.hcc_shard.specs.declared.shard.Shard.{Shard}
use Rattle.hcc_shard.specs.Callers.{plan_of, view_of}
use Rattle.hcc_shard.specs.Ended.{past_of}
use Rattle.hcc_cache.specs.declared.cache.Cache.{Cache}
use Rattle.hcc_cache.specs.declared.client.Client.{Client}
use Rattle.hcc_cache.specs.declared.config.Config.{Config}
use Rattle.hcc_cache.specs.declared.seeded.Seeded.{Seeded}
use Rattle.hcc_cache.specs.Calls.{shard_in}
use Rattle.hcc_cache.specs.Keys.{fits_seeded}
use Rattle.hcc_cache.specs.Opened.{IsCacheOf}
use Rattle.hcc_cache.specs.Sharding.{key_to}

-- The words of a shard of a cache that was made so, and what all clients know of it, as they may
-- be between two steps: they meet the rule of that shard.
pub record IsMoment {T : Type 0} (fits : T → Key → List ℕ → Type 0) (config : Config) (tag : T)
    (s : StateOf (Seeded T)) : Type 0 where
  pub cache : Cache T
  pub cache_is : IsCacheOf config tag cache
  pub number : ℕ
  pub shard : Shard (Seeded T) Global
  pub there : slice_get cache.shards.items number ≡ Some shard
  pub holds : Holds (fits_seeded fits) (plan_of shard) s

-- what that shard was given once
abbrev pub plan_in : {T : Type 0} {fits : T → Key → List ℕ → Type 0} {config : Config} {tag : T}
    {s : StateOf (Seeded T)} → IsMoment fits config tag s → Plan (Seeded T)
plan_in m = plan_of m.shard

-- The same with the steps that the seats made, and the history of which each of them knows a
-- front.
pub record IsRunning {T : Type 0} (fits : T → Key → List ℕ → Type 0) (config : Config) (tag : T)
    (s : LoggedStateOf (Seeded T)) : Type 0 where
  pub moment : IsMoment fits config tag (unlogged s)
  pub holds : HoldsLogged (fits_seeded fits) (plan_in moment) s

-- The entry is what its maker showed: of the shows of the stamp's client, in this history and of
-- the entries with which the shard began, the one of the stamp's number gave it.
abbrev pub IsAsShown : {T : Type 0} → Plan T → (history : List Done) → Entry → Type 0
IsAsShown p history entry =
    option_and_then (entry_given entry.stamp)
    (slice_get (first_shows p entry.stamp.client
    ++ shows_of entry.stamp.client (begun_world p) (events_of history)) entry.stamp.number)
    ≡ Some entry

-- The client holds an entry of the key under this name, which is what its maker showed: that show
-- is in what the client knows.
pub record HoldsAsShown {T A : Type 0} (shard : Shard T A) (key : Key) (name : ℕ)
    (seat : ShardSeat T) : Type 0 where
  pub held : Record
  pub holds : record_in name (view_of seat).records ≡ Some held
  pub asked : key_of held.entry ≡ key
  pub front : List Done
  pub later : List Done
  pub known : past_of seat ≡ front ++ later
  pub given : IsAsShown (plan_of shard) front held.entry

-- The world that a client knows of a key's shard shows the key in a slot.
pub record KnowsShown {T : Type 0} (cache : Cache T) (key : Key) (client : Client T) : Type 0 where
  pub shard : Shard (Seeded T) Global
  pub seat : ShardSeat (Seeded T)
  pub shard_is : slice_get cache.shards.items (shard_in cache key) ≡ Some shard
  pub seat_is : slice_get client.seats.items (shard_in cache key) ≡ Some seat
  pub slot : ℕ
  pub within : slot < cache.geometry.slots
  pub shows : ShowsKey (world_at shard.table seat.seat) (key_to cache.seed key) slot

-- So it does, and it holds a reference of this name there.
pub record KnowsHeld {T : Type 0} (cache : Cache T) (key : Key) (name : ℕ) (client : Client T)
    : Type 0 where
  pub shown : KnowsShown cache key client
  pub entry : Entry
  pub held : held_at (world_at shown.shard.table shown.seat.seat) (view_of shown.seat).client name
      shown.slot ≡ Some entry
