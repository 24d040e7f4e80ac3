-- What a seat has for contracts, and a step that tells nothing.
use Rattle.std.specs.Prelude.{ℕ, Option}
use Rattle.atomic_table.specs.Table.{Me, Step}
use Rattle.hcc_rule.specs.declared.view.Done.{Done}
use Rattle.hcc_rule.specs.declared.view.View.{View}

abbrev pub Held : Type 0 → Type 0
Held T = Me (Unit {0}) (View T)

module _ {T : Type 0} where
  -- a step that tells nothing
  abbrev pub nothing : Step (Unit {0}) → Held T → ℕ → Held T → Option Done → Type 0
  nothing step me word after act = Unit {0}
