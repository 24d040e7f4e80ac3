-- What a table is made with.
use Rattle.std.specs.Prelude.{ℕ, List}
use Rattle.hcc_rule.specs.declared.image.ImageEntry.{ImageEntry}
use Rattle.hcc_rule.specs.declared.table.RuleTable.{RuleTable}
use Rattle.hcc_rule.specs.Seats.{SeatOf}
use Rattle.hcc_rule.specs.NewSeats.{AreNewSeats, AreSeatsWith}
use Rattle.hcc_rule.specs.Callers.{id_of, plan_of}

module _ {T A : Type 0} where
  -- the seats of this table's clients, as it was made, from this client on
  abbrev pub AreSeatsAt : RuleTable T A → ℕ → List (SeatOf T) → Type 0
  AreSeatsAt table client seats =
      AreNewSeats (id_of table) (plan_of table).tag client seats

  -- the same, where client 0 made these entries
  abbrev pub AreSeatsAtWith : RuleTable T A → List ImageEntry → List (SeatOf T) → Type 0
  AreSeatsAtWith table es seats =
      AreSeatsWith (id_of table) (plan_of table).tag es seats
