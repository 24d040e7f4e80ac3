-- What an atomic operation of a seat may do, and what it tells, by a relation that its call picks.
use Rattle.std.specs.Prelude.{◌≡◌, ℕ, ◌<◌, List, Option}
use mathlib.Core.Option.{none}
use Rattle.atomic_table.specs.Table.{Step, step}
use Rattle.hcc_rule.specs.declared.key.Key.{Key}
use Rattle.hcc_rule.specs.declared.table.RuleTable.{RuleTable}
use Rattle.hcc_rule.specs.declared.view.Done.{Done}
use Rattle.hcc_rule.specs.Acts.{Acts, Follows, IsAllowed, past}
use Rattle.hcc_rule.specs.Callers.{clients_of, id_of, plan_of, IsSeatAt}
use Rattle.hcc_rule.specs.Logs.{known_of}
use Rattle.hcc_rule.specs.Seats.{SeatOf, Makes}
use Rattle.hcc_rule.specs.Told.{Held}

module _ {T A : Type 0} where
  -- the step of an operation at this address, with these operands
  abbrev pub step_of : RuleTable T A → (address first second : ℕ) → Step (Unit {0})
  step_of table address first second = step (id_of table).slots address first second none

  -- what it tells, of the word that it found, of the seat after it and of its event
  abbrev pub tells : (Step (Unit {0}) → Held T → ℕ → Held T → Option Done → Type 0) → RuleTable T A
      → SeatOf T → (address first second : ℕ) → ℕ → Held T → Option Done → Type 0
  tells then table seat address first second =
      then (step_of table address first second) (known_of seat.me)

  -- the seat may do it: a word that was n is f n after it, and this is told of it
  abbrev pub May : (T → Key → List ℕ → Type 0) → RuleTable T A → SeatOf T → (address : ℕ) → (ℕ → ℕ)
      → (ℕ → Held T → Option Done → Type 0) → Type 0
  May fits table seat address f told =
      IsSeatAt table seat × (address < (id_of table).words)
      × Acts fits (plan_of table) (id_of table).slots seat.id (known_of seat.me) address f told

  -- it was done, as one step more of the seat that found this, and that is told
  abbrev pub Did : (Step (Unit {0}) → Held T → ℕ → Held T → Option Done → Type 0) → RuleTable T A
      → (address first second found : ℕ) → SeatOf T → SeatOf T → Type 0
  Did then table address first second found old new =
      (new.table_id ≡ old.table_id) × (new.id ≡ old.id)
      × Makes address first second found old new
      × (done : Option Done)
      × tells then table old address first second found (known_of new.me) done
      × Follows (plan_of table) (clients_of table) done old.me.0 new.me.0
      × IsAllowed (plan_of table) (past new)
