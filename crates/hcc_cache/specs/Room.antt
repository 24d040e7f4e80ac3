-- An insertion that evicts nothing, as where there is room for its entry, in a cache of one client.
use Rattle.std.specs.Prelude.{◌≡◌, ℕ, ◌+◌, ◌-◌, ◌*◌, ◌/◌, ◌<◌, ◌≤◌, List, Result, Ok, Err, length, true}
use Rattle.std.specs.declared.alloc.Global.{Global}
use Rattle.hcc_core.specs.declared.limits.TheConstants.{OCCUPANCY_PERCENT}
use Rattle.hcc_core.specs.World.{State, occupancy_of, standing_of, usage_of}
use Rattle.hcc_rule.specs.declared.key.Key.{Key}
use Rattle.hcc_rule.specs.declared.steps.shows.Draft.{Draft}
use Rattle.hcc_rule.specs.declared.view.View.{View}
use Rattle.hcc_rule.specs.Callers.{slots_of, world_at}
use Rattle.hcc_rule.specs.Seats.{view}
use Rattle.hcc_rule.specs.Views.{charge_made}
use Rattle.hcc_table.specs.declared.inserting.Insertion.{Insertion}
use Rattle.hcc_table.specs.declared.inserting.Insertion.TheVariants as insertions
use Rattle.hcc_table.specs.Standing.{InsertsShown}
use Rattle.hcc_charge.specs.declared.reserving.Refused.{Refused}
use Rattle.hcc_charge.specs.declared.reserving.Refused.TheVariants.{TooLarge}
use Rattle.hcc_charge.specs.declared.reserving.Reservation.TheVariants.{Reserved}
use Rattle.hcc_charge.specs.Asked.{EvictsNothing}
use Rattle.hcc_shard.specs.declared.inserting.Inserted.{Inserted}
use Rattle.hcc_shard.specs.declared.inserting.Inserted.TheVariants as stored
use Rattle.hcc_shard.specs.declared.inserting.Pinned.{Pinned}
use Rattle.hcc_shard.specs.declared.inserting.Pinned.TheVariants as pinned
use Rattle.hcc_shard.specs.declared.seat.ShardSeat.{ShardSeat}
use Rattle.hcc_shard.specs.declared.shard.Shard.{Shard}
use Rattle.hcc_shard.specs.Reserving.{InsertedAs, PinnedAs, left_out}
use Rattle.hcc_cache.specs.declared.config.Config.{Config}
use Rattle.hcc_cache.specs.declared.seeded.Seeded.{Seeded}
use Rattle.hcc_cache.specs.Configs.{shard_capacity}
use Rattle.hcc_cache.specs.Keys.{fits_seeded}

-- A world of a shard has room for an entry of this charge: it has a place left, and the charge is
-- within the shard's capacity beside its usage.
pub record HasRoom (config : Config) (charge : ℕ) (world : State) : Type 0 where
  pub place : occupancy_of world < config.slots * OCCUPANCY_PERCENT / 100
  pub within : usage_of world + charge ≤ shard_capacity config

-- A shard whose one client knows this has room for such an entry beside all that the client made
-- there: of these entries those that it didn't take leave a place, and the charges of all of them,
-- with those of its standalone entries, leave room for the charge.
pub record HasRoomBeside {T : Type 0} (config : Config) (charge : ℕ) (v : View T) : Type 0 where
  pub place : length v.made - v.takings < config.slots * OCCUPANCY_PERCENT / 100
  pub within : standing_of v.work + charge_made v + charge ≤ shard_capacity config

module _ {T : Type 0} (shard : Shard (Seeded T) Global) (draft : Draft) where
  -- An insertion with this answer evicted nothing. In the worlds that the client knows of the shard
  -- when the call begins and when it ends, each slot shows what it showed, but for the one where
  -- the entry was placed.
  pub record ShowsOver (answer : Insertion) (old new : ShardSeat (Seeded T)) : Type 0 where
    pub shows : InsertsShown (slots_of shard.table) draft.key answer
        (world_at shard.table old.seat) (world_at shard.table new.seat)
    pub idle : EvictsNothing (view old.seat) (view new.seat)

  module _ (fits : T → Key → List ℕ → Type 0) where
    -- Such an insertion by its answer: a place was reserved, and refused is only a charge above a
    -- strict capacity, before anything was done.
    abbrev pub KeepsAs : (answer : Result Inserted Refused) (old new : ShardSeat (Seeded T))
        → InsertedAs (fits_seeded fits) shard draft true true answer old new → Type 0
    KeepsAs (Ok stored.Placed) old new did = ShowsOver (insertions.Placed did.0) old new
    KeepsAs (Ok stored.Dropped) old new did =
        (did.told ≡ Reserved) × ShowsOver (left_out did.matched) old new
    KeepsAs (Err why) old new did = (why ≡ TooLarge) × (new.seat ≡ old.seat)

    -- one that keeps a reference
    abbrev pub KeepsPinnedAs : (answer : Result Pinned Refused) (old new : ShardSeat (Seeded T))
        → PinnedAs (fits_seeded fits) shard draft true true answer old new → Type 0
    KeepsPinnedAs (Ok (pinned.Placed pin)) old new did =
        ShowsOver (insertions.Placed pin.slot) old new
    KeepsPinnedAs (Ok pinned.Standalone) old new did =
        (did.told ≡ Reserved) × ShowsOver (left_out did.matched) old new
    KeepsPinnedAs (Err why) old new did = (why ≡ TooLarge) × (new.seat ≡ old.seat)

-- the client turned the hand of the shard no further
abbrev pub TurnsNone : {T : Type 0} → (old new : ShardSeat T) → Type 0
TurnsNone old new = (view new.seat).turns ≡ (view old.seat).turns
