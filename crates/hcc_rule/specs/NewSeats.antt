-- Seats as a table is made with them.
use Rattle.std.specs.Prelude.{◌≡◌, ℕ, ◌+◌, List, [], ◌∷◌, Some}
use Rattle.atomic_table.specs.Seated.{TableId}
use Rattle.hcc_rule.specs.declared.image.ImageEntry.{ImageEntry}
use Rattle.hcc_rule.specs.declared.view.Other.{Other}
use Rattle.hcc_rule.specs.Images.{maker_of}
use Rattle.hcc_rule.specs.Opening.{fresh_view, unstarted}
use Rattle.hcc_rule.specs.Acts.{past}
use Rattle.hcc_rule.specs.Seats.{SeatOf, view, steps, moves, IsSeatOf}

module _ {T : Type 0} where
  -- a seat whose client made this and did nothing else yet
  pub record IsStartedSeat (id : TableId) (tag : T) (o : Other) (seat : SeatOf T) : Type 0 where
    pub seat_of : IsSeatOf id tag seat
    pub fresh : view seat ≡ fresh_view (Some tag) o []
    pub no_steps : steps seat ≡ []
    pub unmoved : moves seat ≡ 0
    pub no_past : past seat ≡ []

  -- a seat whose client did nothing yet
  abbrev pub IsNewSeat : TableId → T → (client : ℕ) → SeatOf T → Type 0
  IsNewSeat id tag client seat = IsStartedSeat id tag (unstarted client) seat

  -- new seats of clients in turn
  abbrev pub AreNewSeats : TableId → T → ℕ → List (SeatOf T) → Type 0
  AreNewSeats id tag client [] = Unit {0}
  AreNewSeats id tag client (seat ∷ seats) =
      IsNewSeat id tag client seat × AreNewSeats id tag (client + 1) seats

  -- the seats of all clients in turn, where client 0 made these entries
  abbrev pub AreSeatsWith : TableId → T → List ImageEntry → List (SeatOf T) → Type 0
  AreSeatsWith id tag es [] = Unit {0}
  AreSeatsWith id tag es (seat ∷ seats) =
      IsStartedSeat id tag (maker_of es) seat × AreNewSeats id tag 1 seats
