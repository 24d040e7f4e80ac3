-- A small table, and seats of clients with nothing in hand.
use Rattle.std.specs.Prelude.{◌≡◌, ◌≤◌, ℕ, false, List, [], ◌∷◌, Some, IsSomeAnd, length}
use Rattle.atomic_table.specs.Seated.{TableId}
use denote.Struct.Props.{props}
use Rattle.hcc_core.specs.Opening.{new_client}
use Rattle.hcc_rule.specs.declared.rule.Plan.{Plan}
use Rattle.hcc_rule.specs.declared.table.RuleTable.{RuleTable}
use Rattle.hcc_rule.specs.declared.view.Made.{Made}
use Rattle.hcc_rule.specs.declared.view.View.{View}
use Rattle.hcc_rule.specs.Callers.{id_of, plan_of}
use Rattle.hcc_rule.specs.Rule.{IsAbove}
use Rattle.hcc_rule.specs.Seats.{SeatOf, IsSeatOf, view}
use Rattle.hcc_rule.specs.Work.{Carries}

-- That a serial is above those of all entries has at most one proof, as a ghost field asks.
pub above_prop : (serial : ℕ) (book : List Made) → IsProp (IsAbove serial book)
above_prop serial [] = hlevel
above_prop serial (m ∷ ms) = hlevel (props, above_prop serial ms)

module _ {T : Type 0} where
  -- nothing in hand, and no reference
  abbrev pub IsReady : View T → Type 0
  IsReady v = Carries new_client [] v

  -- A read of slot 1 without a reference, of which so many loads were made: the slot was looked at
  -- and had an entry, then its stamp word was loaded.
  pub record IsReading (loads : ℕ) (v : View T) : Type 0 where
    pub looked : 1 ≤ loads → v.work.looked ≡ Some 1
    pub glimpse : 2 ≤ loads → IsSomeAnd v.glimpse (λ g. g.slot ≡ 1)

  -- A seat of this client, which has nothing in hand, after it showed so many entries. Their
  -- serials are below their number.
  pub record IsReadySeat (id : TableId) (tag : T) (client shown : ℕ)
      (seat : SeatOf T) : Type 0 where
    pub seat_of : IsSeatOf id tag seat
    pub client_is : (view seat).client ≡ client
    pub made : length (view seat).made ≡ shown
    pub above : IsAbove shown (view seat).made
    pub ready : IsReady (view seat)

  -- a table of 8 slots, with 2 payload words for each, that is not strict
  pub record IsBench (p : Plan T) : Type 0 where
    pub slots : p.geometry.slots ≡ 8
    pub room : p.geometry.room ≡ 2
    pub lax : p.strict ≡ false

module _ {T A : Type 0} where
  -- a seat of this client at this table, in the same way
  abbrev pub IsReadySeatAt : RuleTable T A → (client shown : ℕ) → SeatOf T → Type 0
  IsReadySeatAt table client shown seat =
      IsReadySeat (id_of table) (plan_of table).tag client shown seat
