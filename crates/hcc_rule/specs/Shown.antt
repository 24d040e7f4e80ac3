-- How long what a slot shows is shown.
use Rattle.std.specs.Prelude.{◌≡◌, ℕ, List, ◌∷◌, ◌++◌, Some, None}
use Rattle.hcc_core.specs.declared.slot.Entry.{Entry}
use Rattle.hcc_core.specs.Runs.{after, after_all}
use Rattle.hcc_core.specs.Shown.{TakesShown, shown_at}
use Rattle.hcc_core.specs.World.{State}
use Rattle.hcc_rule.specs.declared.table.RuleTable.{RuleTable}
use Rattle.hcc_rule.specs.declared.view.Done.{Done}
use Rattle.hcc_rule.specs.Acts.{events_of}
use Rattle.hcc_rule.specs.Callers.{world_at}
use Rattle.hcc_rule.specs.Seats.{SeatOf}

-- One of these events, which lead on from this world, took this entry away, whoever made it: a hide
-- by a reference on the slot, or a free of the slot. Until then the slot showed the entry, and
-- right behind it nothing.
pub record IsTakenAway (slot : ℕ) (entry : Entry) (world : State) (more : List Done)
    : Type 0 where
  pub before : List Done
  pub done : Done
  pub rest : List Done
  pub is : more ≡ before ++ done ∷ rest
  pub shown : shown_at (after_all world (events_of before)) slot ≡ Some entry
  pub takes : TakesShown slot (after_all world (events_of before)) done.event
  pub gone : shown_at (after (after_all world (events_of before)) done.event) slot ≡ None

-- the seat knows that the slot shows this entry: in the world at its own last event it does
abbrev pub KnowsShownAt : {T A : Type 0} → RuleTable T A → (slot : ℕ) → Entry → SeatOf T → Type 0
KnowsShownAt table slot entry seat = shown_at (world_at table seat) slot ≡ Some entry
