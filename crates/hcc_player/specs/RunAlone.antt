-- What the answers of a trace of calls say of a cache with one client: exactly what is there, by
-- the worlds of the shards that the client knows.
use Rattle.std.specs.Prelude.{◌≡◌, ℕ, ◌<◌, ◌-◌, ◌^◌, min, List, [], ◌∷◌, slice_get, Some}
use Rattle.std.specs.declared.alloc.Global.{Global}
use Rattle.hcc_core.specs.Sums.{total}
use Rattle.hcc_core.specs.World.{State}
use Rattle.hcc_rule.specs.declared.key.Key.{Key}
use Rattle.hcc_rule.specs.Callers.{world_at}
use Rattle.hcc_rule.specs.Probes.{probe_slot}
use Rattle.hcc_table.specs.Standing.{HidesShown, NoneBefore, ShowsKey}
use Rattle.hcc_shard.specs.declared.seat.ShardSeat.{ShardSeat}
use Rattle.hcc_shard.specs.declared.shard.Shard.{Shard}
use Rattle.hcc_cache.specs.declared.cache.Cache.{Cache}
use Rattle.hcc_cache.specs.declared.client.Client.{Client}
use Rattle.hcc_cache.specs.declared.seeded.Seeded.{Seeded}
use Rattle.hcc_cache.specs.Calls.{AtShard, shard_in}
use Rattle.hcc_cache.specs.Sharding.{key_to}
use Rattle.hcc_cache.specs.Totals.{KnowsEach, LoadsUsages, SearchesAll, charge_by, occupancy_in}
use Rattle.hcc_cache.specs.Totals.{usage_in}
use Rattle.hcc_player.specs.declared.run.answer.Answer.{Answer}
use Rattle.hcc_player.specs.declared.run.answer.Answer.TheVariants as answers
use Rattle.hcc_player.specs.declared.run.call.Call.TheVariants as calls
use Rattle.hcc_player.specs.declared.run.call.RunLine.{RunLine}
use Rattle.hcc_player.specs.declared.run.registers.Registers.{Registers}
use Rattle.hcc_player.specs.Runs.{MakesAll}

-- a world shows the key: at this probe of it, and at none before
abbrev pub ShowsFirst : (slots : ℕ) → Key → State → Type 0
ShowsFirst slots key world =
    (i : ℕ) × ShowsKey world key (probe_slot slots key i) × NoneBefore slots key world i

-- it shows the key in none of its slots
abbrev pub ShowsNone : (slots : ℕ) → Key → State → Type 0
ShowsNone slots key world = (slot : ℕ) → slot < slots → ¬ ShowsKey world key slot

module _ {T : Type 0} (cache : Cache T) where
  -- This holds of a key in the world that the client knows of its shard.
  pub record InWorld (key : Key) (Holds : (slots : ℕ) → Key → State → Type 0) (client : Client T)
      : Type 0 where
    pub shard : Shard (Seeded T) Global
    pub seat : ShardSeat (Seeded T)
    pub shard_is : slice_get cache.shards.items (shard_in cache key) ≡ Some shard
    pub seat_is : slice_get client.seats.items (shard_in cache key) ≡ Some seat
    pub holds : Holds cache.geometry.slots (key_to cache.seed key)
        (world_at shard.table seat.seat)

  -- From the world that was known of a key's shard to the one that is known then, so many slots
  -- that showed the key stopped to: all that did. Each other slot shows what it showed.
  abbrev pub HidesAll : Key → (count : ℕ) → (old new : Client T) → Type 0
  HidesAll key count old new =
      AtShard cache (λ shard was is. HidesShown cache.geometry.slots (key_to cache.seed key) count
      (world_at shard.table was.seat) (world_at shard.table is.seat)) (shard_in cache key) old new

  -- Three totals, read one after another: what the worlds of all shards say of their entries, and
  -- what is charged for those that the client holds.
  pub record AreExact (usage pinned occupancy : ℕ) (old : Client T) : Type 0 where
    pub first : Client T
    pub second : Client T
    pub charges : List ℕ
    pub charges_are : KnowsEach cache usage_in charges old
    pub usage_is : usage ≡ min (total (λ n. n) charges) (2 ^ 64 - 1)
    pub views : LoadsUsages old first
    pub pinned_is : pinned ≡ charge_by first
    pub searches : SearchesAll first second
    pub entries : List ℕ
    pub entries_are : KnowsEach cache occupancy_in entries second
    pub occupancy_is : occupancy ≡ total (λ n. n) entries

  -- What the answer of a line says of what the client knew before its call. A look-up hits exactly
  -- where the key is shown; an erasure hides all that is shown of the key.
  pub record IsExact (line : RunLine) (answer : Answer) (old new : Client T) : Type 0 where
    pub hits : (register : ℕ) (key : Key) → line.call ≡ calls.Lookup register key
        → answer ≡ answers.Hit → InWorld key ShowsFirst old
    pub misses : (register : ℕ) (key : Key) → line.call ≡ calls.Lookup register key
        → answer ≡ answers.Miss → InWorld key ShowsNone old
    pub erases : (key : Key) (count : ℕ) → line.call ≡ calls.Erase key
        → answer ≡ answers.Erased count → HidesAll key count old new
    pub totals : (usage pinned occupancy : ℕ) → line.call ≡ calls.Totals
        → answer ≡ answers.Totals usage pinned occupancy → AreExact usage pinned occupancy old

  -- so the answers of lines are, one after another
  abbrev pub AreAllExact : (fits : T → Key → List ℕ → Type 0) (lines : List RunLine)
      (told : List Answer) (old new : List (Client T)) (was now : List Registers)
      → MakesAll fits cache lines told old new was now → Type 0
  AreAllExact fits [] told old new was now makes = Unit {0}
  AreAllExact fits (line ∷ lines) [] old new was now makes = ⊥
  AreAllExact fits (line ∷ lines) (answer ∷ told) old new was now makes =
      IsExact line answer makes.2.before makes.2.after
      × AreAllExact fits lines told makes.0 new makes.1 now makes.3
