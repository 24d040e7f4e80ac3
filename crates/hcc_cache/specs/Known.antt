-- Which clients a cache knows: what holds of a client between any two of its calls.
use Rattle.std.specs.Prelude.{◌≡◌, ℕ, ◌+◌, ◌%◌, ◌^◌, ◌<◌, ◌≤◌, ◌==◌, Bool, true, false, List, [], Option, Some, None, find, length, slice_get}
use Rattle.slab.specs.Slab.{Slab, get, slab_len}
use Rattle.hcc_core.specs.declared.client.Standalone.{Standalone}
use Rattle.hcc_core.specs.declared.limits.TheConstants.{MOST_HANDLES, STAMPS_PER_CLIENT}
use Rattle.hcc_core.specs.Ledgers.{is_standing}
use Rattle.hcc_core.specs.Sums.{total, when}
use Rattle.hcc_rule.specs.declared.view.Made.{Made}
use Rattle.hcc_rule.specs.declared.view.Record.{Record}
use Rattle.hcc_rule.specs.declared.view.View.{View}
use Rattle.hcc_rule.specs.Rule.{IsAbove}
use Rattle.hcc_rule.specs.Views.{Each}
use Rattle.hcc_rule.specs.Records.{record_in}
use Rattle.hcc_rule.specs.Words.{key_of}
use Rattle.hcc_table.specs.Pins.{IsOf}
use Rattle.hcc_shard.specs.declared.seat.ShardSeat.{ShardSeat}
use Rattle.hcc_shard.specs.declared.shard.Shard.{Shard}
use Rattle.hcc_shard.specs.Callers.{capacity_of, geometry_of, is_strict, number_of, plan_of, view_of}
use Rattle.hcc_shard.specs.Seated.{Rests}
use Rattle.hcc_cache.specs.declared.cache.Cache.{Cache}
use Rattle.hcc_cache.specs.declared.client.Client.{Client}
use Rattle.hcc_cache.specs.declared.holding.Alone.{Alone}
use Rattle.hcc_cache.specs.declared.holding.Hold.{Hold}
use Rattle.hcc_cache.specs.declared.holding.Kept.{Kept}
use Rattle.hcc_cache.specs.declared.holding.Kept.TheVariants.{Pinned, Standing}
use Rattle.hcc_cache.specs.declared.limits.TheConstants.{MOST_SHARDS}
use Rattle.hcc_cache.specs.declared.seeded.Seeded.{Seeded}
use Rattle.hcc_cache.specs.Clients.{pin_of, records_in, standalones_in}
use Rattle.hcc_cache.specs.Keys.{IsKeyOf, tag_at}
use Rattle.hcc_cache.specs.Sharding.{key_to, shard_of}

-- Of a client's seats.

-- Charges are below 2^32, as callers give them: those of the entries that a client holds in a
-- shard, and those of its standalone entries there.
pub record AreCharged {T : Type 0} (v : View T) : Type 0 where
  pub records : Each (λ (r : Record). r.entry.charge < 2 ^ 32) v.records
  pub standalones : Each (λ (s : Standalone). s.charge < 2 ^ 32) v.work.standalones

module _ {T A : Type 0} where
  -- A seat of this shard between two calls of its client, which has this number and used so many
  -- serials: each name that it has, the serial of each entry that it made, and as many serials as
  -- it made entries, are among them.
  pub record IsSeated (shard : Shard T A) (number used : ℕ) (seat : ShardSeat T) : Type 0 where
    pub rests : Rests shard seat
    pub number_is : number_of seat ≡ number
    pub single : (view_of seat).others ≡ []
    pub records : Each (λ (r : Record). r.name < used) (view_of seat).records
    pub standalones : Each (λ (s : Standalone). s.name < used) (view_of seat).work.standalones
    pub made : length (view_of seat).made ≤ used
    pub above : IsAbove used (view_of seat).made
    pub charged : AreCharged (view_of seat)

  -- a seat at each shard
  pub record AreSeated (shards : List (Shard T A)) (number used : ℕ) (seats : List (ShardSeat T))
      : Type 0 where
    pub count : length seats ≡ length shards
    pub each : (s : ℕ) (shard : Shard T A) (seat : ShardSeat T)
        → slice_get shards s ≡ Some shard → slice_get seats s ≡ Some seat
        → IsSeated shard number used seat

-- What a client made at the shard of this number, of so many, has a key of that shard.
abbrev pub IsHome : (seed shards number : ℕ) → Made → Type 0
IsHome seed shards number made = IsKeyOf seed shards number made.key

-- So it is at each of them.
abbrev pub AreHome : {T : Type 0} → (seed : ℕ) → List (ShardSeat T) → Type 0
AreHome seed seats =
    (s : ℕ) (seat : ShardSeat _) → slice_get seats s ≡ Some seat
    → Each (IsHome seed (length seats) s) (view_of seat).made

-- Of its handles.

-- whether a slot of the handles keeps a reference on an entry of the table
abbrev pub is_pinned : Option Hold → Bool
is_pinned None = false
is_pinned (Some hold) = by hold.kept
  where
    by : Kept → Bool
    by (Pinned slot counting) = true
    by (Standing index) = false

-- whether it keeps one on the standalone entry of this index
abbrev pub is_standing_at : (index : ℕ) → Option Hold → Bool
is_standing_at index None = false
is_standing_at index (Some hold) = by hold.kept
  where
    by : Kept → Bool
    by (Pinned slot counting) = false
    by (Standing at) = at == index

-- how many slots of a slab are so
abbrev pub count_of : {V : Type 0} → (Option V → Bool) → Slab V → ℕ
count_of test slab = total (λ slot. when (test slot) 1) slab.slots

-- how many references a standalone entry has; none where there is no entry
abbrev pub references_of : Option Alone → ℕ
references_of None = 0
references_of (Some alone) = alone.references

module _ {T : Type 0} (seed : ℕ) (seats : List (ShardSeat T)) (alone : Slab Alone) where
  -- What is kept of a handle on an entry of the table stands for a record, which is on an entry of
  -- its key.
  pub record IsPin (hold : Hold) (slot : ℕ) (counting : Bool) : Type 0 where
    pub handled : Record
    pub there : record_in hold.serial (records_in seats hold.shard) ≡ Some handled
    pub of : IsOf (pin_of hold.serial slot counting) handled
    pub key : key_of handled.entry ≡ key_to seed hold.key

  -- What is kept of a handle on a standalone entry stands for one that the client's shard knows.
  pub record IsStand (hold : Hold) (index : ℕ) : Type 0 where
    pub entry : Alone
    pub there : get alone index ≡ Some entry
    pub known : find (is_standing entry.name) (standalones_in seats hold.shard)
        ≡ Some (record { name = entry.name; charge = entry.charge })

  abbrev pub IsKeptAs : Hold → Kept → Type 0
  IsKeptAs hold (Pinned slot counting) = IsPin hold slot counting
  IsKeptAs hold (Standing index) = IsStand hold index

  -- what is kept of a handle is on one of the shards, that of its key, and stands for something
  pub record IsKept (hold : Hold) : Type 0 where
    pub within : hold.shard < length seats
    pub home : hold.shard ≡ shard_of (key_to seed hold.key) (length seats)
    pub stands : IsKeptAs hold hold.kept

-- how many references the client of a seat holds, and how many standalone entries
abbrev pub records_at : {T : Type 0} → ShardSeat T → ℕ
records_at seat = length (view_of seat).records

abbrev pub standalones_at : {T : Type 0} → ShardSeat T → ℕ
standalones_at seat = length (view_of seat).work.standalones

-- Each handle stands for a reference of its own. Each record has a handle, and each standalone
-- entry as many as it has references.
pub record AreHeld {T : Type 0} (seed used : ℕ) (seats : List (ShardSeat T)) (handles : Slab Hold)
    (alone : Slab Alone) : Type 0 where
  pub each : (index : ℕ) (hold : Hold) → get handles index ≡ Some hold
      → IsKept seed seats alone hold × (hold.serial < used)
  pub apart : (p q : ℕ) (h k : Hold) → get handles p ≡ Some h → get handles q ≡ Some k
      → h.serial ≡ k.serial → p ≡ q
  pub pins : total records_at seats ≡ count_of is_pinned handles
  pub entries : total standalones_at seats ≡ slab_len alone
  pub names_apart : (p q : ℕ) (a b : Alone) → get alone p ≡ Some a → get alone q ≡ Some b
      → a.name ≡ b.name → p ≡ q
  pub some : (index : ℕ) (a : Alone) → get alone index ≡ Some a
      → (1 ≤ a.references) × (a.references ≡ count_of (is_standing_at index) handles)
      × (a.name < used)
  pub references : total references_of alone.slots + count_of is_pinned handles
      ≡ slab_len handles

-- Of a cache.

-- Its shards are alike: of its sizes, its capacity and its strictness. The tag of each has the
-- cache's tag and seed, and says which of the shards it is.
pub record AreAlike {T : Type 0} (cache : Cache T) : Type 0 where
  pub some : 1 ≤ length cache.shards.items
  pub few : length cache.shards.items ≤ MOST_SHARDS
  pub power : MOST_SHARDS % length cache.shards.items ≡ 0
  pub plans : (s : ℕ) (shard : Shard (Seeded T) _) → slice_get cache.shards.items s ≡ Some shard
      → (geometry_of shard ≡ cache.geometry) × (capacity_of shard ≡ cache.capacity)
      × (is_strict shard ≡ cache.strict)
      × ((plan_of shard).tag ≡ tag_at cache s)

-- The client is one that this cache was made with.
pub record Knows {T : Type 0} (cache : Cache T) (client : Client T) : Type 0 where
  pub alike : AreAlike cache
  pub seed : client.seed ≡ cache.seed
  pub seated : AreSeated cache.shards.items client.number client.used client.seats.items
  pub homes : AreHome cache.seed client.seats.items
  pub holds : AreHeld cache.seed client.used client.seats.items client.handles client.alone
  pub count : client.held ≡ slab_len client.handles
  pub few : client.held ≤ client.most
  pub most : client.most ≤ MOST_HANDLES
  pub room : (client.most ≤ client.handles.capacity) × (client.most ≤ client.alone.capacity)
  pub serials : client.used + client.left ≤ STAMPS_PER_CLIENT
