-- What an insertion met, by the answer of its shard.
use Rattle.std.proofs.Common.{ℕ, Bool, true, false, List, Result, Ok, Err, arith}
use Rattle.std.specs.declared.alloc.Global.{Global}
use Rattle.hcc_rule.specs.declared.key.Key.{Key}
use Rattle.hcc_rule.specs.declared.steps.shows.Draft.{Draft}
use Rattle.hcc_rule.specs.Callers.{capacity_of, is_strict}
use Rattle.hcc_rule.specs.Seats.{SeatOf}
use Rattle.hcc_table.specs.declared.inserting.Insertion.TheVariants as insertions
use Rattle.hcc_charge.specs.declared.reserving.Refused.{Refused}
use Rattle.hcc_charge.specs.declared.reserving.Refused.TheVariants as refused
use Rattle.hcc_charge.specs.declared.reserving.Reservation.{Reservation}
use Rattle.hcc_charge.specs.declared.reserving.Reservation.TheVariants.{Reserved, NoPlace}
use Rattle.hcc_shard.specs.declared.inserting.Inserted.{Inserted as Stored}
use Rattle.hcc_shard.specs.declared.inserting.Inserted.TheVariants as stored
use Rattle.hcc_shard.specs.declared.inserting.Pinned.{Pinned}
use Rattle.hcc_shard.specs.declared.inserting.Pinned.TheVariants as pinned
use Rattle.hcc_shard.specs.declared.seat.ShardSeat.{ShardSeat}
use Rattle.hcc_shard.specs.declared.shard.Shard.{Shard}
use Rattle.hcc_shard.specs.Reserving.{EndsBy, InsertedAs, LeavesOut, PinnedAs, PutsIn, ReservedAs, TriesWhere, left_out, tried_last}
use Rattle.hcc_cache.specs.declared.seeded.Seeded.{Seeded}
use Rattle.hcc_cache.specs.Keys.{fits_seeded}
use Rattle.hcc_cache.specs.Met.{MetAs, MetPinnedAs, MetRefused, MetWhere}
use Rattle.hcc_cache.specs.Within.{MeetsWithin}
use Rattle.hcc_cache.proofs.Within.Begun.{GoesOn, on_event, on_same, on_then}
use Rattle.hcc_cache.proofs.Within.Met.{insertion_met}
use Rattle.hcc_cache.proofs.Within.Short.{found_full, found_tight, lacks_ask}

module _ {T : Type 0} (fits : T → Key → List ℕ → Type 0) (shard : Shard (Seeded T) Global)
    (draft : Draft) (had has : Bool) where
  -- What came last goes on from the tries.
  ended_on : (keeps : Bool) (told : Reservation) (a b : SeatOf (Seeded T))
      → EndsBy shard draft keeps told a b → GoesOn shard.table a b
  ended_on false Reserved a b h =
      on_then shard.table (on_event shard.table {b = h.0} h.1) (on_event shard.table h.2)
  ended_on false NoPlace a b h = on_same shard.table h
  ended_on true Reserved a b h =
      on_then shard.table (on_event shard.table {b = h.0} h.1) (on_event shard.table h.2)
  ended_on true NoPlace a b h =
      on_then shard.table (on_event shard.table {b = h.1} h.2) (on_event shard.table h.3)

  met_where : (keeps : Bool) (told : Reservation) (matched : Bool) (old new : ShardSeat (Seeded T))
      (reserves : ReservedAs (fits_seeded fits) shard draft had has (Ok told) old new)
      (tries : TriesWhere (fits_seeded fits) shard draft told reserves.reserved reserves.counted
      (left_out matched) new)
      → EndsBy shard draft keeps told
      (tried_last (fits_seeded fits) shard draft told reserves.reserved reserves.counted
      (left_out matched) new tries) new.seat
      → MetWhere fits shard draft had has told matched old new reserves
  met_where keeps Reserved matched old new reserves tries ends =
      insertion_met (fits_seeded fits) shard.table draft.key draft.serial draft.countdown
      reserves.counted new.effort reserves.reserved tries.done new.seat
      (ended_on keeps Reserved tries.done new.seat ends) (left_out matched) tries.inserts
  met_where keeps NoPlace matched old new reserves tries ends =
      found_full shard.table reserves.evicts.0.taken reserves.evicts.0.enters_by
      reserves.evicts.1

  met_refused : (why : Refused) (old new : ShardSeat (Seeded T))
      (reserves : ReservedAs (fits_seeded fits) shard draft had has (Err why) old new)
      → MetRefused fits shard draft had has why old new reserves
  met_refused refused.TooLarge old new reserves = tt
  met_refused refused.CapacityFull old new reserves =
      let e = reserves.evicts.0 in
      let freed = reserves.evicts.1 in
      found_tight shard.table draft.charge e.used e.finds_by
      (lacks_ask (is_strict shard.table) (capacity_of shard.table) draft.charge e.used
      (omega arith))
  met_refused refused.OccupancyFull old new reserves =
      found_full shard.table reserves.evicts.0.taken reserves.evicts.0.enters_by
      reserves.evicts.1

  put_met : (slot : ℕ) (old new : ShardSeat (Seeded T))
      (puts : PutsIn (fits_seeded fits) shard draft had has slot old new)
      → MeetsWithin shard.table puts.reserves.reserved new.seat draft.key (insertions.Placed slot)
  put_met slot old new puts =
      insertion_met (fits_seeded fits) shard.table draft.key draft.serial draft.countdown
      puts.reserves.counted new.effort puts.reserves.reserved puts.tries.done new.seat
      (on_same shard.table puts.ends) (insertions.Placed slot) puts.tries.inserts

  left_met : (keeps : Bool) (old new : ShardSeat (Seeded T))
      (did : LeavesOut (fits_seeded fits) shard draft had has keeps old new)
      → MetWhere fits shard draft had has did.told did.matched old new did.reserves
  left_met keeps old new did =
      met_where keeps did.told did.matched old new did.reserves did.tries did.ends

  pub met_as : (answer : Result Stored Refused) (old new : ShardSeat (Seeded T))
      (did : InsertedAs (fits_seeded fits) shard draft had has answer old new)
      → MetAs fits shard draft had has answer old new did
  met_as (Ok stored.Placed) old new did = put_met did.0 old new did.1
  met_as (Ok stored.Dropped) old new did = left_met false old new did
  met_as (Err why) old new did = met_refused why old new did.reserves

  pub met_pinned : (answer : Result Pinned Refused) (old new : ShardSeat (Seeded T))
      (did : PinnedAs (fits_seeded fits) shard draft had has answer old new)
      → MetPinnedAs fits shard draft had has answer old new did
  met_pinned (Ok (pinned.Placed pin)) old new did = put_met pin.slot old new did
  met_pinned (Ok pinned.Standalone) old new did = left_met true old new did
  met_pinned (Err why) old new did = met_refused why old new did.reserves
