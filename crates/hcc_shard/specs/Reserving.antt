-- What an insertion reserved and evicted, and what became of its entry, told of its seats.
use Rattle.std.specs.Prelude.{◌≡◌, ℕ, ◌+◌, ◌<◌, Bool, true, false, List, Result, Ok, Err}
use Rattle.hcc_core.specs.Sums.{when}
use Rattle.hcc_rule.specs.declared.key.Key.{Key}
use Rattle.hcc_rule.specs.declared.steps.shows.Draft.{Draft}
use Rattle.hcc_rule.specs.Callers.{slots_of}
use Rattle.hcc_rule.specs.Addresses.{address_of_meta}
use Rattle.hcc_rule.specs.Probes.{probe_slot}
use Rattle.hcc_rule.specs.Seats.{SeatOf, atomic, view}
use Rattle.hcc_rule.specs.ToldOwners.{first_word}
use Rattle.hcc_table.specs.declared.efforts.Effort.{Effort}
use Rattle.hcc_table.specs.declared.inserting.Insertion.{Insertion}
use Rattle.hcc_table.specs.declared.inserting.Insertion.TheVariants.{Placed, Matched, NoSlot}
use Rattle.hcc_table.specs.Rises.{Rose}
use Rattle.hcc_table.specs.Inserted.{Meets, visited_by}
use Rattle.hcc_table.specs.Searched.{Buried, IsBefore}
use Rattle.hcc_table.specs.Steps.{Adds, Ends}
use Rattle.hcc_table.specs.Tries.{Inserts}
use Rattle.hcc_charge.specs.declared.reserving.Reservation.{Reservation}
use Rattle.hcc_charge.specs.declared.reserving.Reservation.TheVariants.{Reserved, NoPlace}
use Rattle.hcc_charge.specs.declared.reserving.Refused.{Refused}
use Rattle.hcc_charge.specs.Asked.{EvictsBy, EvictsNothing}
use Rattle.hcc_charge.specs.Settled.{GivesUp, KeepsAlone, StandsBy}
use Rattle.hcc_shard.specs.declared.inserting.Inserted.{Inserted}
use Rattle.hcc_shard.specs.declared.inserting.Inserted.TheVariants as inserted
use Rattle.hcc_shard.specs.declared.inserting.Pinned.{Pinned}
use Rattle.hcc_shard.specs.declared.inserting.Pinned.TheVariants as pinned
use Rattle.hcc_shard.specs.declared.seat.ShardSeat.{ShardSeat}
use Rattle.hcc_shard.specs.declared.shard.Shard.{Shard}

-- what the table answers where nothing is placed
abbrev pub left_out : (matched : Bool) → Insertion
left_out true = Matched
left_out false = NoSlot

-- The slots that were visited are counted: those that were found taken, and one more where the
-- entry was placed.
abbrev pub CountsSlots : {T : Type 0} → Insertion → (old new : ShardSeat T) → Type 0
CountsSlots answer old new =
    (taken : ℕ) × ((view new.seat).saw ≡ (view old.seat).saw + taken)
    × Rose (visited_by answer taken) (visited_by answer taken) old.effort.probes
    new.effort.probes

module _ {T A : Type 0} (shard : Shard T A) (draft : Draft) where
  -- Why an entry that was reserved for, or not, is in no slot: its key was met, last of all, or as
  -- many slots as there are were seen taken; or no slot was tried.
  abbrev pub IsLeftFor : Reservation → (matched : Bool) → (old new : ShardSeat T) → Type 0
  IsLeftFor Reserved true old new = Meets draft.key (view old.seat) (view new.seat)
  IsLeftFor Reserved false old new =
      (view new.seat).saw ≡ (view old.seat).saw + slots_of shard.table
  IsLeftFor NoPlace matched old new =
      (matched ≡ false) × ((view new.seat).saw ≡ (view old.seat).saw)
      × (new.effort.probes ≡ old.effort.probes)

  -- What came last, event by event: what was reserved was given up, if anything was; or a
  -- standalone entry was made of the charge, which stays or is added first.
  abbrev pub EndsBy : (keeps : Bool) → Reservation → (old new : SeatOf T) → Type 0
  EndsBy false Reserved old new = GivesUp shard.table old new
  EndsBy false NoPlace old new = new ≡ old
  EndsBy true Reserved old new = KeepsAlone shard.table draft.serial draft.charge old new
  EndsBy true NoPlace old new =
      StandsBy shard.table false draft.serial draft.charge old new

module _ {T A : Type 0} (fits : T → Key → List ℕ → Type 0) (shard : Shard T A) (draft : Draft) where
  -- The probes of the key were tried, one after the other: what was found at each, by the answer,
  -- and how the counts rose.
  pub record TriesEach (answer : Insertion) (old new : ShardSeat T) : Type 0 where
    pub inserts : Inserts fits shard.table draft.key draft.serial draft.countdown answer old.effort
        new.effort old.seat new.seat
    pub counts : CountsSlots answer old new

  -- They were tried from where the reservation ended. Only steps were added behind that.
  pub record TriesFrom (reserved : SeatOf T) (counted : Effort) (answer : Insertion)
      (new : ShardSeat T) : Type 0 where
    pub done : SeatOf T
    pub inserts : Inserts fits shard.table draft.key draft.serial draft.countdown answer counted
        new.effort reserved done
    pub adds : Adds done new.seat

  -- What was tried where a place was reserved; else nothing was.
  abbrev pub TriesWhere : Reservation → SeatOf T → Effort → Insertion → (new : ShardSeat T)
      → Type 0
  TriesWhere Reserved reserved counted answer new = TriesFrom reserved counted answer new
  TriesWhere NoPlace reserved counted answer new = new.effort ≡ counted

  -- the seat at which the tries ended, or the reservation where nothing was tried
  abbrev pub tried_last : (told : Reservation) (reserved : SeatOf T) (counted : Effort)
      (answer : Insertion) (new : ShardSeat T) → TriesWhere told reserved counted answer new
      → SeatOf T
  tried_last Reserved reserved counted answer new tries = tries.done
  tried_last NoPlace reserved counted answer new tries = reserved

module _ {T A : Type 0} (fits : T → Key → List ℕ → Type 0) (shard : Shard T A) (draft : Draft)
    (had has : Bool) where
  -- An insertion began with a reservation, which answered this, evicted just for what it asks,
  -- counted the exchanges that its eviction lost, and ended at this seat. What came behind it
  -- evicted nothing; and where it saw fewer slots taken than there are, it only added steps.
  pub record ReservedAs (answer : Result Reservation Refused) (old new : ShardSeat T) : Type 0 where
    pub reserved : SeatOf T
    pub counted : Effort
    pub evicts : EvictsBy fits shard.table draft.charge had has answer old.tally new.tally
        old.effort counted old.seat reserved
    pub idle : EvictsNothing (view reserved) (view new.seat)
    pub rest : (view new.seat).saw < (view old.seat).saw + slots_of shard.table
        → Adds reserved new.seat

  -- The entry was put in this slot, probe i of its key: the i probes before it were taken, and each
  -- entry of the key that the client holds there is dead to it. The last step showed the entry by
  -- the word that its draft says.
  pub record PutsIn (slot : ℕ) (old new : ShardSeat T) : Type 0 where
    pub reserves : ReservedAs (Ok Reserved) old new
    pub i : ℕ
    pub probe : slot ≡ probe_slot (slots_of shard.table) draft.key i
    pub saw : (view new.seat).saw ≡ (view old.seat).saw + i
    pub dead : Buried draft.key (IsBefore (slots_of shard.table) draft.key i)
        (view old.seat) (view new.seat)
    pub last : Ends
        (atomic (address_of_meta shard.table slot) (first_word draft) 0 (first_word draft))
        reserves.reserved new.seat
    pub tries : TriesFrom fits shard draft reserves.reserved reserves.counted (Placed slot) new
    pub ends : new.seat ≡ tries.done
    pub probes : CountsSlots (Placed slot) old new
    pub boosts : new.boosts ≡ old.boosts

  -- The entry was put in no slot, and is dropped, or kept as a standalone one. A match is counted
  -- among the boosts, and nothing else is.
  pub record LeavesOut (keeps : Bool) (old new : ShardSeat T) : Type 0 where
    pub told : Reservation
    pub matched : Bool
    pub reserves : ReservedAs (Ok told) old new
    pub why : IsLeftFor shard draft told matched old new
    pub tries : TriesWhere fits shard draft told reserves.reserved reserves.counted (left_out
        matched) new
    pub ends : EndsBy shard draft keeps told
        (tried_last fits shard draft told reserves.reserved reserves.counted (left_out matched) new
        tries) new.seat
    pub probes : CountsSlots (left_out matched) old new
    pub boosts : Rose (when matched 1) (when matched 1) old.boosts new.boosts

  -- Nothing was reserved, no slot was tried, and nothing more was done.
  pub record Refuses (why : Refused) (old new : ShardSeat T) : Type 0 where
    pub reserves : ReservedAs (Err why) old new
    pub ends : new.seat ≡ reserves.reserved
    pub counts : new.effort ≡ reserves.counted
    pub probes : new.effort.probes ≡ old.effort.probes
    pub boosts : new.boosts ≡ old.boosts

  -- an insertion, by its answer
  abbrev pub InsertedAs : Result Inserted Refused → (old new : ShardSeat T) → Type 0
  InsertedAs (Ok inserted.Placed) old new = (slot : ℕ) × PutsIn slot old new
  InsertedAs (Ok inserted.Dropped) old new = LeavesOut false old new
  InsertedAs (Err why) old new = Refuses why old new

  -- one that keeps a reference
  abbrev pub PinnedAs : Result Pinned Refused → (old new : ShardSeat T) → Type 0
  PinnedAs (Ok (pinned.Placed pin)) old new = PutsIn pin.slot old new
  PinnedAs (Ok pinned.Standalone) old new = LeavesOut true old new
  PinnedAs (Err why) old new = Refuses why old new
