-- What a walk leaves of a view at a slot, and by which steps.
use Rattle.std.specs.Prelude.{◌≡◌, ℕ, ◌+◌, ◌++◌, ◌<◌, ◌≤◌, Bool, List, Option, None, IfSome, is_some}
use Rattle.hcc_core.specs.Sums.{when}
use Rattle.hcc_rule.specs.declared.key.Key.{Key}
use Rattle.hcc_rule.specs.declared.view.View.{View}
use Rattle.hcc_rule.specs.Gone.{Takes}
use Rattle.hcc_rule.specs.Records.{weight_on}
use Rattle.hcc_rule.specs.Seats.{SeatOf, view}
use Rattle.hcc_table.specs.declared.keeping.AtSlot.{AtSlot}
use Rattle.hcc_table.specs.declared.pins.Pin.{Pin}
use Rattle.hcc_table.specs.AtSlots.{PinsAt, freed_there, held_there}
use Rattle.hcc_table.specs.Searched.{Grows}
use Rattle.hcc_table.specs.Seeking.{GoesOnBy, is_settling}
use Rattle.hcc_table.specs.Steps.{Adds}
use Rattle.hcc_charge.specs.Settled.{Settles}
use Rattle.hcc_shard.specs.declared.seat.ShardSeat.{ShardSeat}
use Rattle.hcc_shard.specs.declared.shard.Shard.{Shard}

-- The client holds what it held, and freed an entry or none: one of a slot where it held nothing,
-- and none that was Shown with uses left. It may have looked at slots, had glimpses of them, seen
-- entries dead, met keys, and have other words in a slot of its own. All else stays.
pub record IsPassed {T : Type 0} (slot : ℕ) (v w : View T) : Type 0 where
  pub freed : ℕ
  pub met : List Key
  pub same : w ≡ record v {
    work = record v.work { looked = w.work.looked; dead = w.work.dead };
    written = w.written;
    takings = v.takings + freed;
    gone = w.gone;
    met = v.met ++ met;
    glimpse = w.glimpse;
  }
  pub dead : Grows v.work.dead w.work.dead
  pub few : freed ≤ 1
  pub unheld : 0 < freed → weight_on slot v.records ≡ 0
  -- which entry it freed, if any
  pub taken : (charge : ℕ) × Takes freed charge v w

-- A walk came to a slot by the client of a seat, under this serial: what it found and did there.
-- Where it freed an entry, its place and then its charge were given back behind that. Else nothing
-- more was done.
pub record WalksAt {T A : Type 0} (fits : T → Key → List ℕ → Type 0) (shard : Shard T A)
    (serial slot : ℕ) (room : Bool) (held : Option Pin) (old new : ShardSeat T) : Type 0 where
  pub done : AtSlot
  pub held_is : held ≡ held_there done
  pub mid : SeatOf T
  pub pins : PinsAt fits shard.table serial slot room done old.effort new.effort old.seat mid
  pub taken : (view new.seat).takings
      ≡ (view old.seat).takings + when (is_some (freed_there done)) 1
  pub kept : freed_there done ≡ None → new.seat ≡ mid
  pub settled : IfSome (freed_there done) (λ charge. Settles shard.table 1 charge mid new.seat)
  pub rest : Adds mid new.seat
  pub settles : GoesOnBy shard.table is_settling mid new.seat
