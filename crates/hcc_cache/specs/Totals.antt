-- Totals over all shards, as a client knows them.
use Rattle.std.specs.Prelude.{◌≡◌, ◌⊎◌, ℕ, ◌+◌, ◌-◌, ◌^◌, min, List, [], ◌∷◌, Some, length, slice_get}
use Rattle.std.specs.declared.alloc.Global.{Global}
use Rattle.hcc_core.specs.Sums.{total}
use Rattle.hcc_core.specs.World.{State, occupancy_of, standing_of, usage_of}
use Rattle.hcc_rule.specs.declared.key.Key.{Key}
use Rattle.hcc_rule.specs.declared.view.View.{View}
use Rattle.hcc_rule.specs.Callers.{world_at}
use Rattle.hcc_rule.specs.ToldLedgers.{after_usage}
use Rattle.hcc_rule.specs.Records.{charge_held, different}
use Rattle.hcc_table.specs.Searched.{Sought}
use Rattle.hcc_shard.specs.declared.seat.ShardSeat.{ShardSeat}
use Rattle.hcc_shard.specs.declared.seat.Stats.{Stats}
use Rattle.hcc_shard.specs.declared.shard.Shard.{Shard}
use Rattle.hcc_shard.specs.Callers.{LoadsOccupancy, capacity_of, is_strict, view_of}
use Rattle.hcc_shard.specs.Counted.{CountsPinned, LoadsUsage, SameEvictions, stats_of, within}
use Rattle.hcc_cache.specs.declared.cache.Cache.{Cache}
use Rattle.hcc_cache.specs.declared.client.Client.{Client}
use Rattle.hcc_cache.specs.declared.seeded.Seeded.{Seeded}
use Rattle.hcc_cache.specs.Calls.{AtShard, IsSelf}
use Rattle.hcc_cache.specs.Clients.{view_at}
use Rattle.hcc_cache.specs.Keys.{fits_seeded}

-- the sum of two counts, or the greatest count
abbrev pub with_count : ℕ → ℕ → ℕ
with_count a b = min (a + b) (2 ^ 64 - 1)

-- the charges of the different entries that a client holds in a shard, and of its standalone ones
abbrev pub charge_in : {T : Type 0} → View T → ℕ
charge_in v = standing_of v.work + charge_held v.records

abbrev pub charge_at : {T : Type 0} → ShardSeat T → ℕ
charge_at seat = charge_in (view_of seat)

-- how many different entries of the table it holds
abbrev pub entries_at : {T : Type 0} → ShardSeat T → ℕ
entries_at seat = length (different (view_of seat).records)

abbrev pub made_at : {T : Type 0} → ShardSeat T → ℕ
made_at seat = length (view_of seat).made

abbrev pub taken_at : {T : Type 0} → ShardSeat T → ℕ
taken_at seat = (view_of seat).takings

module _ {T : Type 0} where
  -- over all shards
  abbrev pub charge_by : Client T → ℕ
  charge_by client = total charge_at client.seats.items

  abbrev pub entries_by : Client T → ℕ
  entries_by client = total entries_at client.seats.items

  abbrev pub made_by : Client T → ℕ
  made_by client = total made_at client.seats.items

  abbrev pub taken_by : Client T → ℕ
  taken_by client = total taken_at client.seats.items

  -- The client loaded a usage at each shard, and knows nothing else that it didn't know.
  pub record LoadsUsages (old new : Client T) : Type 0 where
    pub all : (s : ℕ) → (view_at s new ≡ view_at s old)
        ⊎ ((used : ℕ) × (view_at s new ≡ after_usage used (view_at s old)))
    pub self : IsSelf old new

  -- It searched each shard, and holds what it held.
  pub record SearchesAll (old new : Client T) : Type 0 where
    pub all : (s : ℕ) → Sought (view_at s old) (view_at s new)
    pub self : IsSelf old new

-- What is charged for what is held was counted at a shard, which counted nothing else.
abbrev pub CountsHeldAt : {T : Type 0} → (fits : T → Key → List ℕ → Type 0)
    → Shard (Seeded T) Global → (found : ℕ) → (old new : ShardSeat (Seeded T)) → Type 0
CountsHeldAt fits shard found old new =
    CountsPinned (fits_seeded fits) shard found old new × SameEvictions old new

-- what is told of a shard's usage in a world: the charges of all entries in its slots, hidden ones
-- too, and what stands for its clients, as standalone entries; where the capacity is strict, at
-- most that
abbrev pub usage_in : {T : Type 0} → Shard (Seeded T) Global → State → ℕ
usage_in shard world = within (is_strict shard) (capacity_of shard) (usage_of world)

-- and of its occupancy: how many entries are in its slots, hidden ones too, with the places and the
-- freed slots that its clients have in hand
abbrev pub occupancy_in : {T : Type 0} → Shard (Seeded T) Global → State → ℕ
occupancy_in shard world = occupancy_of world

module _ {T : Type 0} (cache : Cache T) where
  -- At each shard in turn the client's seat did this, and this number was found there.
  pub record AtEach (Did : Shard (Seeded T) Global → (found : ℕ)
      → (old new : ShardSeat (Seeded T)) → Type 0) (counts : List ℕ) (old new : Client T)
      : Type 0 where
    pub count : length counts ≡ length cache.shards.items
    pub each : (s found : ℕ) → slice_get counts s ≡ Some found
        → AtShard cache (λ shard was is. Did shard found was is) s old new

  -- At each shard in turn the world that the client knows of it has this number.
  pub record KnowsEach (number : Shard (Seeded T) Global → State → ℕ) (counts : List ℕ)
      (client : Client T) : Type 0 where
    pub count : length counts ≡ length cache.shards.items
    pub each : (s found : ℕ) → slice_get counts s ≡ Some found → (shard : Shard (Seeded T) Global)
        × (seat : ShardSeat (Seeded T)) × (slice_get cache.shards.items s ≡ Some shard)
        × (slice_get client.seats.items s ≡ Some seat)
        × (found ≡ number shard (world_at shard.table seat.seat))

  -- The usage of each shard was loaded once: this is the sum of what its words say, each at most
  -- its shard's capacity where that is strict, or the greatest number.
  pub record LoadsEachUsage (result : ℕ) (old new : Client T) : Type 0 where
    pub counts : List ℕ
    pub loads : AtEach LoadsUsage counts old new
    pub sum : result ≡ min (total (λ n. n) counts) (2 ^ 64 - 1)

  -- The occupancy of each shard was loaded once: this is the sum of the words.
  pub record LoadsEachOccupancy (result : ℕ) (old new : Client T) : Type 0 where
    pub counts : List ℕ
    pub loads : AtEach LoadsOccupancy counts old new
    pub sum : result ≡ total (λ n. n) counts

  -- What is charged for what is held was counted at each shard, in turn: this is the sum.
  pub record CountsEach (fits : T → Key → List ℕ → Type 0) (result : ℕ) (old new : Client T)
      : Type 0 where
    pub counts : List ℕ
    pub loads : AtEach (CountsHeldAt fits) counts old new
    pub sum : result ≡ min (total (λ n. n) counts) (2 ^ 64 - 1)

-- counts of two shards
abbrev pub stats_with : Stats → Stats → Stats
stats_with a b = record {
  probes = with_count a.probes b.probes;
  boosts = with_count a.boosts b.boosts;
  evicted = with_count a.evicted b.evicted;
  evicted_hit = with_count a.evicted_hit b.evicted_hit;
  freed = with_count a.freed b.freed;
  turns = with_count a.turns b.turns;
  corrections = with_count a.corrections b.corrections;
  lost = with_count a.lost b.lost;
}

abbrev pub no_stats : Stats
no_stats = record {
  probes = 0;
  boosts = 0;
  evicted = 0;
  evicted_hit = 0;
  freed = 0;
  turns = 0;
  corrections = 0;
  lost = 0;
}

-- counts with those of these seats, one after the other
abbrev pub stats_over : {T : Type 0} → Stats → List (ShardSeat T) → Stats
stats_over sum [] = sum
stats_over sum (seat ∷ seats) = stats_over (stats_with sum (stats_of seat)) seats
