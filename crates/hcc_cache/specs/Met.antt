-- What an insertion met at moments of its call, and where it found no room.
use Rattle.std.specs.Prelude.{◌≡◌, ◌⊎◌, ℕ, ◌+◌, ◌<◌, ◌≤◌, Bool, true, false, List, [], ◌∷◌, ◌++◌, Result, Ok, Err}
use Rattle.std.specs.declared.alloc.Global.{Global}
use Rattle.hcc_core.specs.declared.event.Event.{Event}
use Rattle.hcc_core.specs.declared.event.Event.TheVariants as events
use Rattle.hcc_core.specs.World.{State, limit_of, occupancy_of, usage_of}
use Rattle.hcc_rule.specs.declared.key.Key.{Key}
use Rattle.hcc_rule.specs.declared.steps.shows.Draft.{Draft}
use Rattle.hcc_rule.specs.declared.table.RuleTable.{RuleTable}
use Rattle.hcc_rule.specs.declared.view.Done.{Done}
use Rattle.hcc_rule.specs.Acts.{past, world_of}
use Rattle.hcc_rule.specs.Callers.{capacity_of, is_strict, plan_of}
use Rattle.hcc_rule.specs.Rule.{setup_of}
use Rattle.hcc_rule.specs.Seats.{SeatOf, view}
use Rattle.hcc_table.specs.declared.efforts.Effort.{Effort}
use Rattle.hcc_table.specs.declared.inserting.Insertion.TheVariants as insertions
use Rattle.hcc_charge.specs.declared.reserving.Refused.{Refused}
use Rattle.hcc_charge.specs.declared.reserving.Refused.TheVariants as refused
use Rattle.hcc_charge.specs.declared.reserving.Reservation.{Reservation}
use Rattle.hcc_charge.specs.declared.reserving.Reservation.TheVariants.{Reserved, NoPlace}
use Rattle.hcc_charge.specs.declared.tally.Tally.{Tally}
use Rattle.hcc_charge.specs.Asked.{EvictsAsAsked}
use Rattle.hcc_shard.specs.declared.inserting.Inserted.{Inserted as Stored}
use Rattle.hcc_shard.specs.declared.inserting.Inserted.TheVariants as stored
use Rattle.hcc_shard.specs.declared.inserting.Pinned.{Pinned}
use Rattle.hcc_shard.specs.declared.inserting.Pinned.TheVariants as pinned
use Rattle.hcc_shard.specs.declared.seat.ShardSeat.{ShardSeat}
use Rattle.hcc_shard.specs.declared.shard.Shard.{Shard}
use Rattle.hcc_shard.specs.Reserving.{InsertedAs, PinnedAs, ReservedAs, left_out}
use Rattle.hcc_cache.specs.declared.seeded.Seeded.{Seeded}
use Rattle.hcc_cache.specs.Keys.{fits_seeded}
use Rattle.hcc_cache.specs.Within.{MeetsWithin}

-- The client's step was this event, and this held of the world right before it, behind what others
-- had done until then.
pub record FoundBy {T A : Type 0} (table : RuleTable T A) (event : Event) (P : State → Type 0)
    (old new : SeatOf T) : Type 0 where
  pub others : List Done
  pub done : Done
  pub is : done.event ≡ event
  pub goes_on : past new ≡ past old ++ (others ++ done ∷ [])
  pub holds : P (world_of (plan_of table) (past old ++ others))

-- the event by which an insertion finds the usage: under strict capacity its charge is added
abbrev pub finding : (strict : Bool) → (client charge : ℕ) → Event
finding true client charge = events.Charge client charge
finding false client charge = events.Usage client

module _ {T A : Type 0} (table : RuleTable T A) where
  -- When the client asked for a place none was left: the entries, with the places and the freed
  -- slots that others had in hand, were as many as may be.
  abbrev pub FoundFull : (old asked : SeatOf T) → Type 0
  FoundFull old asked =
      FoundBy table (events.Enter (view old).client)
      (λ world. limit_of (setup_of (plan_of table)) ≤ occupancy_of world) old asked

  -- When it found the usage the charge didn't fit: with the charges of all entries, and what stood
  -- for clients, it was above the shard's capacity. So what others were granted, need still or
  -- freed counts, and their standalone entries.
  abbrev pub FoundTight : (charge : ℕ) → (asked found : SeatOf T) → Type 0
  FoundTight charge asked found =
      FoundBy table (finding (is_strict table) (view asked).client charge)
      (λ world. capacity_of table < usage_of world + charge) asked found

module _ {T : Type 0} (fits : T → Key → List ℕ → Type 0) (shard : Shard (Seeded T) Global)
    (draft : Draft) (had has : Bool) where
  -- where a place was reserved, at moments from then on; else when the place was asked for
  abbrev pub MetWhere : (told : Reservation) (matched : Bool) (old new : ShardSeat (Seeded T))
      → ReservedAs (fits_seeded fits) shard draft had has (Ok told) old new → Type 0
  MetWhere Reserved matched old new reserves =
      MeetsWithin shard.table reserves.reserved new.seat draft.key (left_out matched)
  MetWhere NoPlace matched old new reserves =
      FoundFull shard.table old.seat reserves.evicts.0.u

  -- and where it was refused
  abbrev pub MetRefused : (why : Refused) (old new : ShardSeat (Seeded T))
      → ReservedAs (fits_seeded fits) shard draft had has (Err why) old new → Type 0
  MetRefused refused.TooLarge old new reserves = Unit {0}
  MetRefused refused.CapacityFull old new reserves =
      FoundTight shard.table draft.charge reserves.evicts.0.u reserves.evicts.0.b
  MetRefused refused.OccupancyFull old new reserves =
      FoundFull shard.table old.seat reserves.evicts.0.u

  -- What an insertion met, by its answer.
  abbrev pub MetAs : (answer : Result Stored Refused) (old new : ShardSeat (Seeded T))
      → InsertedAs (fits_seeded fits) shard draft had has answer old new → Type 0
  MetAs (Ok stored.Placed) old new did =
      MeetsWithin shard.table did.1.reserves.reserved new.seat draft.key (insertions.Placed did.0)
  MetAs (Ok stored.Dropped) old new did = MetWhere did.told did.matched old new did.reserves
  MetAs (Err why) old new did = MetRefused why old new did.reserves

  -- what one met that keeps a reference
  abbrev pub MetPinnedAs : (answer : Result Pinned Refused) (old new : ShardSeat (Seeded T))
      → PinnedAs (fits_seeded fits) shard draft had has answer old new → Type 0
  MetPinnedAs (Ok (pinned.Placed pin)) old new did =
      MeetsWithin shard.table did.reserves.reserved new.seat draft.key (insertions.Placed pin.slot)
  MetPinnedAs (Ok pinned.Standalone) old new did =
      MetWhere did.told did.matched old new did.reserves
  MetPinnedAs (Err why) old new did = MetRefused why old new did.reserves

  -- Where an insertion found no room: no place was left, or its charge didn't fit.
  abbrev pub IsShort : {before after : Tally} {effort counted : Effort} {a d : SeatOf (Seeded T)}
      → EvictsAsAsked (fits_seeded fits) shard.table draft.charge had has before after effort
      counted a d → Type 0
  IsShort {a = a} e =
      FoundFull shard.table a e.u ⊎ FoundTight shard.table draft.charge e.u e.b

  -- by what its reservation answered
  abbrev pub ReservedShort : (answer : Result Reservation Refused)
      (old new : ShardSeat (Seeded T))
      → ReservedAs (fits_seeded fits) shard draft had has answer old new → Type 0
  ReservedShort (Ok Reserved) old new reserves = IsShort reserves.evicts.0
  ReservedShort (Ok NoPlace) old new reserves = IsShort reserves.evicts.0
  ReservedShort (Err refused.TooLarge) old new reserves = ⊥
  ReservedShort (Err refused.CapacityFull) old new reserves = IsShort reserves.evicts.0
  ReservedShort (Err refused.OccupancyFull) old new reserves = IsShort reserves.evicts.0

  -- by its own answer
  abbrev pub ShortAs : (answer : Result Stored Refused) (old new : ShardSeat (Seeded T))
      → InsertedAs (fits_seeded fits) shard draft had has answer old new → Type 0
  ShortAs (Ok stored.Placed) old new did = ReservedShort (Ok Reserved) old new did.1.reserves
  ShortAs (Ok stored.Dropped) old new did = ReservedShort (Ok did.told) old new did.reserves
  ShortAs (Err why) old new did = ReservedShort (Err why) old new did.reserves

  -- and by that of one that keeps a reference
  abbrev pub ShortPinnedAs : (answer : Result Pinned Refused) (old new : ShardSeat (Seeded T))
      → PinnedAs (fits_seeded fits) shard draft had has answer old new → Type 0
  ShortPinnedAs (Ok (pinned.Placed pin)) old new did =
      ReservedShort (Ok Reserved) old new did.reserves
  ShortPinnedAs (Ok pinned.Standalone) old new did =
      ReservedShort (Ok did.told) old new did.reserves
  ShortPinnedAs (Err why) old new did = ReservedShort (Err why) old new did.reserves
