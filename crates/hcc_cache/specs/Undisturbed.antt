-- What a call does where nobody but its client shows or takes anything while it goes on.
use Rattle.std.specs.Prelude.{◌≡◌, ℕ, true, List, ◌++◌, Result, Ok, Err}
use Rattle.std.specs.declared.alloc.Global.{Global}
use Rattle.hcc_core.specs.Shown.{changes_shown}
use Rattle.hcc_rule.specs.declared.key.Key.{Key}
use Rattle.hcc_rule.specs.declared.steps.shows.Draft.{Draft}
use Rattle.hcc_rule.specs.declared.view.Done.{Done}
use Rattle.hcc_rule.specs.Acts.{client_by, past}
use Rattle.hcc_rule.specs.Seats.{SeatOf}
use Rattle.hcc_rule.specs.Views.{Each}
use Rattle.hcc_charge.specs.declared.reserving.Refused.{Refused}
use Rattle.hcc_charge.specs.declared.reserving.Reservation.{Reservation}
use Rattle.hcc_charge.specs.declared.reserving.Reservation.TheVariants.{Reserved, NoPlace}
use Rattle.hcc_shard.specs.declared.inserting.Inserted.{Inserted as Stored}
use Rattle.hcc_shard.specs.declared.inserting.Inserted.TheVariants as stored
use Rattle.hcc_shard.specs.declared.inserting.Pinned.{Pinned}
use Rattle.hcc_shard.specs.declared.inserting.Pinned.TheVariants as pinned
use Rattle.hcc_shard.specs.declared.seat.ShardSeat.{ShardSeat}
use Rattle.hcc_shard.specs.declared.shard.Shard.{Shard}
use Rattle.hcc_shard.specs.Reserving.{InsertedAs, PinnedAs}
use Rattle.hcc_cache.specs.declared.seeded.Seeded.{Seeded}
use Rattle.hcc_cache.specs.Keys.{fits_seeded}

-- Each of these events that shows or hides an entry, or frees a slot, is this client's.
abbrev pub AreChangesOf : (client : ℕ) → List Done → Type 0
AreChangesOf client =
    Each (λ (done : Done). changes_shown done.event ≡ true → client_by done.event ≡ client)

-- What a seat knows went on by such events. Others may have searched, read, used and released
-- meanwhile, reserved, and looked at slots with the clock.
pub record IsUndisturbed {T : Type 0} (client : ℕ) (old new : SeatOf T) : Type 0 where
  pub more : List Done
  pub goes_on : past new ≡ past old ++ more
  pub own : AreChangesOf client more

-- So it is of an insertion from where its reservation ended, with its eviction, if it got a place.
module _ {T : Type 0} (client : ℕ) (fits : T → Key → List ℕ → Type 0)
    (shard : Shard (Seeded T) Global) (draft : Draft) where
  abbrev pub IsUndisturbedFrom : (told : Reservation) (reserved new : SeatOf (Seeded T)) → Type 0
  IsUndisturbedFrom Reserved reserved new = IsUndisturbed client reserved new
  IsUndisturbedFrom NoPlace reserved new = Unit {0}

  -- by the answer
  abbrev pub TriesUndisturbed : (answer : Result Stored Refused) (old new : ShardSeat (Seeded T))
      → InsertedAs (fits_seeded fits) shard draft true true answer old new → Type 0
  TriesUndisturbed (Ok stored.Placed) old new did =
      IsUndisturbed client did.1.reserves.reserved new.seat
  TriesUndisturbed (Ok stored.Dropped) old new did =
      IsUndisturbedFrom did.told did.reserves.reserved new.seat
  TriesUndisturbed (Err why) old new did = Unit {0}

  -- of one that keeps a reference
  abbrev pub TriesPinnedUndisturbed : (answer : Result Pinned Refused)
      (old new : ShardSeat (Seeded T))
      → PinnedAs (fits_seeded fits) shard draft true true answer old new → Type 0
  TriesPinnedUndisturbed (Ok (pinned.Placed pin)) old new did =
      IsUndisturbed client did.reserves.reserved new.seat
  TriesPinnedUndisturbed (Ok pinned.Standalone) old new did =
      IsUndisturbedFrom did.told did.reserves.reserved new.seat
  TriesPinnedUndisturbed (Err why) old new did = Unit {0}
