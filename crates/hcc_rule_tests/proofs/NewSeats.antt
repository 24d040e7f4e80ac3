-- The seats of a new shard: by their index, and one after the other from the last.
use Rattle.std.proofs.Common.{◌≡◌, ℕ, zero, suc, ◌+◌, List, [], ◌∷◌, ◌++◌, Option, Some, option_to_list, length, remove, slice_get, slice_index_or, refl, ap, ◌∙◌, arith}
use Rattle.atomic_table.specs.Seated.{TableId}
use Rattle.hcc_rule.specs.declared.image.ImageEntry.{ImageEntry}
use Rattle.hcc_rule.specs.declared.view.View.{View}
use Rattle.hcc_rule_tests.specs.Benches.{IsReadySeat}
use Rattle.hcc_rule.specs.Closing.{IsBack}
use Rattle.hcc_rule.specs.Passing.{joined_view}
use Rattle.hcc_rule.specs.Seats.{SeatOf, moves, view}
use Rattle.hcc_rule.specs.NewSeats.{IsNewSeat, AreNewSeats, AreSeatsWith}

module _ {T : Type 0} (id : TableId) (tag : T) where
  -- the seat of this index
  pub new_seat_at : (client : ℕ) (seats : List (SeatOf T)) (i : ℕ) (seat : SeatOf T)
      → AreNewSeats id tag client seats → slice_get seats i ≡ Some seat
      → IsNewSeat id tag (client + i) seat
  new_seat_at client [] i seat all at = cc
  new_seat_at client (s ∷ seats) zero seat all at =
      let same : s ≡ seat = cc in
      rw (← same) (rw (let g : client + 0 ≡ client = omega arith in g) all.0)
  new_seat_at client (s ∷ seats) (suc i) seat all at =
      rw (let g : client + suc i ≡ client + 1 + i = omega arith in g)
      (new_seat_at (client + 1) seats i seat all.1 at)

  -- the last seat, and those before it
  pub last_new_seat : (client : ℕ) (seats : List (SeatOf T)) (last : SeatOf T)
      → AreNewSeats id tag client (seats ++ last ∷ [])
      → AreNewSeats id tag client seats × IsNewSeat id tag (client + length seats) last
  last_new_seat client [] last all =
      (tt, rw (let g : client + 0 ≡ client = omega arith in g) all.0)
  last_new_seat client (s ∷ seats) last all =
      let rest = last_new_seat (client + 1) seats last all.1 in (
        (all.0, rest.0),
        rw (let g : client + suc (length seats) ≡ client + 1 + length seats = omega arith in g)
            rest.1,
      )

  -- what a vector of them leaves, and gives, at a pop
  pub popped : (client : ℕ) (before after : List (SeatOf T)) (last : Option (SeatOf T))
      (seat : SeatOf T)
      → before ≡ after ++ option_to_list last → last ≡ Some seat → AreNewSeats id tag client before
      → AreNewSeats id tag client after × IsNewSeat id tag (client + length after) seat
  popped client before after last seat items is all =
      let whole : before ≡ after ++ seat ∷ [] = items ∙ ap (λ o. after ++ option_to_list o) is in
      last_new_seat client after seat (rw whole at all)

  -- Two seats that are joined before any step name both clients, and have nothing in hand.
  pub both_back : (es : List ImageEntry) (seats : List (SeatOf T)) (one two both : SeatOf T)
      → length seats ≡ 2 → AreSeatsWith id tag es seats
      → two ≡ slice_index_or seats 1 two → one ≡ slice_index_or (remove seats 1) 0 one
      → view both ≡ joined_view (view one) (view two) → moves both ≡ moves one + moves two
      → IsBack 2 (view both) × (moves both ≡ 0)
  both_back es [] one two both count all second first joined moved = absurd (omega arith)
  both_back es (a ∷ []) one two both count all second first joined moved = absurd (omega arith)
  both_back es (a ∷ b ∷ c ∷ more) one two both count all second first joined moved =
      absurd (omega arith)
  both_back es (a ∷ b ∷ []) one two both count all second first joined moved =
      let is_a : one ≡ a = first in
      let is_b : two ≡ b = second in
      let mine = all.0 in
      let other = all.1.0 in (
        rw (joined, is_a, is_b, mine.fresh, other.fresh) record { idle = refl; all = refl },
        rw (moved, is_a, is_b, mine.unmoved, other.unmoved) refl,
      )

  -- its client has nothing in hand
  pub new_is_ready : (client : ℕ) (seat : SeatOf T) → IsNewSeat id tag client seat
      → IsReadySeat id tag client 0 seat
  new_is_ready client seat new =
      let view_is = new.fresh in record {
        seat_of = new.seat_of;
        client_is = ap (λ (v : View T). v.client) view_is;
        made = ap (λ (v : View T). length v.made) view_is;
        above = rw (ap (λ (v : View T). v.made) view_is) tt;
        ready = record {
          in_hand = rw view_is refl;
          records_are = ap (λ (v : View T). v.records) view_is;
        };
      }
