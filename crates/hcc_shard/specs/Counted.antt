-- The counts of a client's calls on a shard, and the totals that it loads there.
use Rattle.std.specs.Prelude.{◌≡◌, ℕ, ◌+◌, Bool, List, [], ◌∷◌, length, min, if◌then◌else◌}
use Rattle.hcc_core.specs.Sums.{total}
use Rattle.hcc_rule.specs.declared.key.Key.{Key}
use Rattle.hcc_rule.specs.declared.layout.TheConstants.{STANDING, USAGE}
use Rattle.hcc_rule.specs.declared.table.RuleTable.{RuleTable}
use Rattle.hcc_rule.specs.Callers.{capacity_of, is_strict, slots_of, IsEvent}
use Rattle.hcc_rule.specs.Events.{standing_done, usage_done}
use Rattle.hcc_rule.specs.Addresses.{address_of_ledger}
use Rattle.hcc_rule.specs.Seats.{SeatOf, Makes, view}
use Rattle.hcc_rule.specs.ToldLedgers.{after_usage}
use Rattle.hcc_table.specs.declared.efforts.Effort.{Effort}
use Rattle.hcc_table.specs.Pinned.{CountsHeld}
use Rattle.hcc_shard.specs.declared.erasing.TheConstants.{IN_FLIGHT}
use Rattle.hcc_shard.specs.declared.seat.ShardSeat.{ShardSeat}
use Rattle.hcc_shard.specs.declared.seat.Stats.{Stats}
use Rattle.hcc_shard.specs.declared.shard.Shard.{Shard}

module _ {T : Type 0} where
  abbrev pub stats_of : ShardSeat T → Stats
  stats_of seat = record {
    probes = seat.effort.probes;
    boosts = seat.boosts;
    evicted = seat.tally.evicted;
    evicted_hit = seat.tally.evicted_hit;
    freed = seat.tally.freed;
    turns = seat.tally.turns;
    corrections = seat.effort.corrections;
    lost = seat.effort.lost;
  }

  -- all counts are 0
  abbrev pub CountsNothing : ShardSeat T → Type 0
  CountsNothing seat = stats_of seat ≡ record {
    probes = 0;
    boosts = 0;
    evicted = 0;
    evicted_hit = 0;
    freed = 0;
    turns = 0;
    corrections = 0;
    lost = 0;
  }

  -- no count rose
  abbrev pub SameCounts : ShardSeat T → ShardSeat T → Type 0
  SameCounts old new = stats_of new ≡ stats_of old

  -- no count rose but those of probes, corrections and lost exchanges
  abbrev pub SameEvictions : ShardSeat T → ShardSeat T → Type 0
  SameEvictions old new = (new.tally ≡ old.tally) × (new.boosts ≡ old.boosts)

-- what is told of a usage: at most the capacity, where that is strict
abbrev pub within : (strict : Bool) → (capacity used : ℕ) → ℕ
within strict capacity used = if strict then min used capacity else used

-- The usage was loaded, and this was found.
abbrev pub LoadsUsage : {T A : Type 0} → Shard T A → (result : ℕ) → (old new : ShardSeat T) → Type 0
LoadsUsage shard result old new =
    (used : ℕ) × (view new.seat ≡ after_usage used (view old.seat))
    × Makes (address_of_ledger shard.table USAGE) 0 0 used old.seat new.seat
    × (result ≡ within (is_strict shard.table) (capacity_of shard.table) used)
    × IsEvent shard.table (usage_done used (view old.seat)) old.seat new.seat

module _ {T A : Type 0} (fits : T → Key → List ℕ → Type 0) (table : RuleTable T A) where
  -- From this slot on one slot after the other was looked at, and this charge was counted there.
  abbrev pub CountsFrom : (slot : ℕ) → (charges : List ℕ) → (before after : Effort)
      → (old new : SeatOf T) → Type 0
  CountsFrom slot [] before after old new = (after ≡ before) × (new ≡ old)
  CountsFrom slot (charge ∷ more) before after old new =
      (between : Effort) × (mid : SeatOf T)
      × CountsHeld fits table IN_FLIGHT slot charge before between old mid
      × CountsFrom (slot + 1) more between after mid new

-- What is charged for what is held was counted: the charges that stand, which one load found, and
-- then what was found at each slot in turn. The seat did nothing else.
pub record CountsPinned {T A : Type 0} (fits : T → Key → List ℕ → Type 0) (shard : Shard T A)
    (result : ℕ) (old new : ShardSeat T) : Type 0 where
  pub standing : ℕ
  pub loaded : SeatOf T
  pub loads : Makes (address_of_ledger shard.table STANDING) 0 0 standing old.seat loaded
  pub event : IsEvent shard.table (standing_done standing (view old.seat)) old.seat loaded
  pub kept : view loaded ≡ view old.seat
  pub charges : List ℕ
  pub all : length charges ≡ slots_of shard.table
  pub counts : CountsFrom fits shard.table 0 charges old.effort new.effort loaded new.seat
  pub sum : result ≡ standing + total (λ charge. charge) charges
