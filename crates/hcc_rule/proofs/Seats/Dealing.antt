-- How the seats of a new shard are dealt: one after the other is split off the first.
use Rattle.std.proofs.Common.{◌≡◌, ℕ, suc, ◌+◌, ◌-◌, ◌<◌, ◌≤◌, List, [], ◌∷◌, ◌++◌, map, Some, length, refl, ap, ◌∙◌, arith}
use Rattle.std.specs.List.{range_with_len}
use Rattle.atomic_table.specs.Seated.{TableId}
use Rattle.hcc_core.proofs.SumLemmas.{length-push}
use Rattle.hcc_rule.specs.declared.view.Other.{Other}
use Rattle.hcc_rule.specs.declared.view.View.{View}
use Rattle.hcc_rule.specs.Acts.{past}
use Rattle.hcc_rule.specs.Opening.{fresh_view, unstarted}
use Rattle.hcc_rule.specs.Passing.{left_view, right_view}
use Rattle.hcc_rule.specs.Seats.{SeatOf, moves, steps, view, IsSameSeat, IsSeatOf}
use Rattle.hcc_rule.specs.NewSeats.{IsNewSeat, IsStartedSeat, AreNewSeats}

-- the clients from one number on that were not started yet
abbrev pub unstarted_from : (next clients : ℕ) → List Other
unstarted_from next clients = map unstarted (range_with_len next (clients - next))

-- there is one, while not all were
pub next_unstarted : (next clients : ℕ) → next < clients
    → unstarted_from next clients ≡ unstarted next ∷ unstarted_from (next + 1) clients
next_unstarted next clients more =
    ap (λ n. map unstarted (range_with_len next n))
    (let g : clients - next ≡ suc (clients - (next + 1)) = omega arith in g)

module _ {T : Type 0} (id : TableId) (tag : T) (o : Other) (clients : ℕ) where
  -- the seats of the clients below `next` were dealt, but for the first, of this client
  pub record Deals (next : ℕ) (first : SeatOf T) (seats : List (SeatOf T)) : Type 0 where
    pub seat_of : IsSeatOf id tag first
    pub view_is : view first ≡ fresh_view (Some tag) o (unstarted_from next clients)
    pub no_steps : steps first ≡ []
    pub unmoved : moves first ≡ 0
    pub no_past : past first ≡ []
    pub count : length seats + 1 ≡ next
    pub low : next ≤ clients
    pub dealt_seats : AreNewSeats id tag 1 seats

  -- one more at the end
  push_seat : (from : ℕ) (seats : List (SeatOf T)) (seat : SeatOf T) → AreNewSeats id tag from seats
      → IsNewSeat id tag (from + length seats) seat → AreNewSeats id tag from (seats ++ seat ∷ [])
  push_seat from [] seat all new = (rw (let g : from ≡ from + 0 = omega arith in g) new, tt)
  push_seat from (s ∷ seats) seat all new = (
    all.0,
    push_seat (from + 1) seats seat all.1
        (rw (let g : from + 1 + length seats ≡ from + suc (length seats) = omega arith in g) new),
  )

  pub deal : (next : ℕ) (first later seat : SeatOf T) (seats : List (SeatOf T))
      → Deals next first seats
      → next < clients → IsSameSeat first later → view later ≡ left_view (view first)
      → IsSeatOf id tag seat → view seat ≡ right_view (view first)
      → steps later ≡ steps first → steps seat ≡ [] → moves later ≡ moves first → moves seat ≡ 0
      → past later ≡ past first → past seat ≡ past first
      → Deals (next + 1) later (seats ++ seat ∷ [])
  deal next first later seat seats d more same left new right kept none still unmoved knows too =
      let others : (view first).others ≡ unstarted next ∷ unstarted_from (next + 1) clients =
      ap (λ (v : View T). v.others) d.view_is ∙ next_unstarted next clients more in
      let count = d.count in
      record {
        seat_of = record {
          table = same.table ∙ d.seat_of.table;
          slots = same.slots ∙ d.seat_of.slots;
          tagged = ap (λ (v : View T). v.tag) left ∙ d.seat_of.tagged;
        };
        view_is = rw (left, d.view_is, next_unstarted next clients more) refl;
        no_steps = kept ∙ d.no_steps;
        unmoved = still ∙ d.unmoved;
        no_past = knows ∙ d.no_past;
        count = let push = length-push seats seat in omega arith;
        low = omega arith;
        dealt_seats = push_seat 1 seats seat d.dealt_seats record {
          seat_of = new;
          fresh = rw (right, d.view_is, next_unstarted next clients more)
              (ap (λ k. fresh_view (Some tag) (unstarted k) [])
              (let g : next ≡ 1 + length seats = omega arith in g));
          no_steps = none;
          unmoved = unmoved;
          no_past = too ∙ d.no_past;
        };
      }

  -- all were dealt
  pub dealt : (next : ℕ) (first : SeatOf T) (seats : List (SeatOf T)) → Deals next first seats
      → clients ≤ next → IsStartedSeat id tag o first × AreNewSeats id tag 1 seats
  dealt next first seats d all =
      let none : unstarted_from next clients ≡ [] =
      ap (λ n. map unstarted (range_with_len next n))
      (let low = d.low in let g : clients - next ≡ 0 = omega arith in g) in (
        record {
          seat_of = d.seat_of;
          fresh =
              d.view_is ∙ ap (fresh_view (Some tag) o) none;
          no_steps = d.no_steps;
          unmoved = d.unmoved;
          no_past = d.no_past;
        },
        d.dealt_seats,
      )
