-- What leaves what a shard shows as it is, and what a release leaves of it.
use Rattle.std.specs.Prelude.{◌≡◌, ◌&&◌, ℕ, Bool, true, false, List, Option, None, IfNone, IfSome}
use Rattle.hcc_core.specs.declared.event.Event.{Event}
use Rattle.hcc_core.specs.declared.event.Event.TheVariants as events
use Rattle.hcc_core.specs.World.{State}
use Rattle.hcc_rule.specs.declared.key.Key.{Key}
use Rattle.hcc_rule.specs.declared.table.RuleTable.{RuleTable}
use Rattle.hcc_rule.specs.Callers.{plan_of}
use Rattle.hcc_rule.specs.ImageLimits.{IsImageFor}
use Rattle.hcc_rule.specs.Images.{entries_in}
use Rattle.hcc_rule.specs.Seats.{SeatOf}
use Rattle.hcc_table.specs.Freed.{IsLeftBy, TakesByWhereDue, is_due}
use Rattle.hcc_table.specs.Seeking.{GoesOnBy}
use Rattle.hcc_table.specs.Standing.{shown_at}

-- whether it is an event that makes and takes no entry, and shows and hides none
abbrev pub is_still : Event → Bool
is_still (events.Occupy client slot) = false
is_still (events.Show client key0 key1 charge countdown name value) = false
is_still (events.Hide client name) = false
is_still (events.Free client slot name) = false
is_still (events.Empty client) = false
is_still other = true

-- Each slot but this one shows what it showed. So does this one where no entry was freed; where one
-- was, it shows none.
pub record ShowsBut (slot : ℕ) (freed : Option ℕ) (world next : State) : Type 0 where
  pub others : (s : ℕ) → ¬ (s ≡ slot) → shown_at next s ≡ shown_at world s
  pub kept : IfNone freed (shown_at next slot ≡ shown_at world slot)
  pub gone : IfSome freed (λ charge. shown_at next slot ≡ None)

module _ {T A : Type 0} (table : RuleTable T A) where
  -- What the seat knows goes on. Its client made and took no entry in that, and showed and hid
  -- none. In a shard of one client nothing else is shown then.
  abbrev pub GoesOnStill : (old new : SeatOf T) → Type 0
  GoesOnStill old new = GoesOnBy table is_still old new

  -- A reference of this name was given back, as a use or not. Where that left the entry of its slot
  -- due, and the list of what is freed had room, to take it was tried, and it was freed or not: by
  -- the events of both.
  pub record ReleasesBy (slot name : ℕ) (room used erase : Bool) (freed : Option ℕ)
      (old new : SeatOf T) : Type 0 where
    pub left : ℕ
    pub between : SeatOf T
    pub gives : IsLeftBy table slot 1 name used left old between
    pub takes : TakesByWhereDue table slot left None (room && is_due erase left) freed between new
    pub due : IfSome freed (λ charge. (room && is_due erase left) ≡ true)

  -- The entries with which the table's shard began keep their limits: where it was new it had none.
  abbrev pub BeganWithin : (fits : T → Key → List ℕ → Type 0) → Type 0
  BeganWithin fits =
      IsImageFor fits (plan_of table).tag (plan_of table).geometry (plan_of table).capacity
      (plan_of table).strict (entries_in (plan_of table).image)
