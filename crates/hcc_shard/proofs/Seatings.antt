-- The seats of a shard, one after the other, and what is told of them.
use Rattle.std.proofs.Common.{◌≡◌, ℕ, ◌+◌, ◌<◌, ◌≤◌, ◌++◌, List, [], ◌∷◌, length, refl, sym, ap, append_assoc, ◌∙◌, arith}
use Rattle.hcc_core.specs.declared.limits.TheConstants.{MOST_CLIENTS}
use Rattle.hcc_rule.specs.declared.image.ImageEntry.{ImageEntry}
use Rattle.hcc_rule.specs.declared.view.Other.{Other}
use Rattle.hcc_rule.specs.declared.view.View.{View}
use Rattle.hcc_rule.specs.Callers.{id_of, plan_of}
use Rattle.hcc_rule.specs.Beginnings.{AreSeatsAt, AreSeatsAtWith}
use Rattle.hcc_rule.specs.Images.{maker_of}
use Rattle.hcc_rule.specs.Opening.{unstarted}
use Rattle.hcc_rule.specs.Seats.{SeatOf}
use Rattle.hcc_rule.specs.NewSeats.{IsStartedSeat}
use Rattle.hcc_shard.specs.declared.seat.ShardSeat.{ShardSeat}
use Rattle.hcc_shard.specs.declared.shard.Shard.{Shard}
use Rattle.hcc_shard.specs.Seated.{AreBegun, AreNew, AreNumbered, IsBegun, IsNumbered}
use Rattle.hcc_shard.proofs.Names.{length_more}

module _ {T : Type 0} where
  -- those that have their number, and those that are left
  pub record IsNumbering (client : ℕ) (seats : List (SeatOf T)) (named : List (ShardSeat T))
      (left : List (SeatOf T)) : Type 0 where
    pub taken : List (SeatOf T)
    pub split : seats ≡ taken ++ left
    pub new : AreNumbered 0 taken named
    pub count : length named ≡ client
    pub all : client + length left ≡ length seats

  numbered_more : (first : ℕ) (seats : List (SeatOf T)) (named : List (ShardSeat T))
      (seat : SeatOf T) (next : ShardSeat T) → AreNumbered first seats named
      → IsNumbered (first + length named) seat next
      → AreNumbered first (seats ++ seat ∷ []) (named ++ next ∷ [])
  numbered_more first [] [] seat next h is =
      ((let same : first + 0 ≡ first = omega arith in rw same at is), tt)
  numbered_more first [] (n ∷ ns) seat next h is = absurd h
  numbered_more first (s ∷ ss) [] seat next h is = absurd h
  numbered_more first (s ∷ ss) (n ∷ ns) seat next h is = (
    h.0,
    numbered_more (first + 1) ss ns seat next h.1
        (let same : first + length (n ∷ ns) ≡ first + 1 + length ns = omega arith in
        rw same at is),
  )

  -- at first none has,
  pub numbering_none : (seats : List (SeatOf T)) → IsNumbering 0 seats [] seats
  numbering_none seats = record {
    taken = [];
    split = refl;
    new = tt;
    count = refl;
    all = omega arith;
  }

  -- then one more,
  pub numbering_on : (client : ℕ) (seats : List (SeatOf T)) (named : List (ShardSeat T))
      (next : ShardSeat T) (seat : SeatOf T) (left : List (SeatOf T))
      → IsNumbering client seats named (seat ∷ left) → IsNumbered client seat next
      → IsNumbering (client + 1) seats (named ++ next ∷ []) left
  numbering_on client seats named next seat left s is =
      let all = s.all in
      let count = s.count in record {
        taken = s.taken ++ seat ∷ [];
        split = s.split ∙ sym (append_assoc s.taken (seat ∷ []) left);
        new =
            numbered_more 0 s.taken named seat next s.new
            (let here : 0 + length named ≡ client = omega arith in rw here is);
        count = let longer = length_more named next in omega arith;
        all = omega arith;
      }

  -- and at last all of them.
  pub numbering_all : (client : ℕ) (seats : List (SeatOf T)) (named : List (ShardSeat T))
      → IsNumbering client seats named [] → AreNumbered 0 seats named
  numbering_all client seats named s =
      let whole : seats ≡ s.taken = s.split ∙ append_none s.taken in
      rw whole s.new
    where
      append_none : (xs : List (SeatOf T)) → xs ++ [] ≡ xs
      append_none [] = refl
      append_none (x ∷ xs) = ap (λ ys. x ∷ ys) (append_none xs)

  -- there are as many of them
  pub numbered_length : (client : ℕ) (seats : List (SeatOf T)) (named : List (ShardSeat T))
      → AreNumbered client seats named → length named ≡ length seats
  numbered_length client [] [] h = refl
  numbered_length client [] (n ∷ ns) h = absurd h
  numbered_length client (s ∷ ss) [] h = absurd h
  numbered_length client (s ∷ ss) (n ∷ ns) h =
      let rest = numbered_length (client + 1) ss ns h.1 in
      omega arith

module _ {T A : Type 0} (shard : Shard T A) where
  -- the seat of a client that did nothing but this, at rest
  begun_seat : (o : Other) (seat : SeatOf T) (named : ShardSeat T)
      → IsStartedSeat (id_of shard.table) (plan_of shard.table).tag o seat
      → IsNumbered o.client seat named → o.client < MOST_CLIENTS → IsBegun shard o named
  begun_seat o seat named s n low =
      let is : IsStartedSeat (id_of shard.table) (plan_of shard.table).tag o
      named.seat = rw n.seat_is s in record {
        rests = record {
          at = is.seat_of;
          own = ap (λ (z : View T). z.client) is.fresh ∙ rw n.number refl;
          known = rw n.number low;
          quiet = rw is.fresh (record { idle = refl; kept = tt; few = omega arith });
        };
        number = n.number;
        fresh = is.fresh;
        no_steps = is.no_steps;
        unmoved = is.unmoved;
        no_counts = n.no_counts;
      }

  -- Seats of clients that did nothing yet are new.
  pub are_new : (client : ℕ) (seats : List (SeatOf T)) (named : List (ShardSeat T))
      → AreSeatsAt shard.table client seats → AreNumbered client seats named
      → client + length seats ≤ MOST_CLIENTS → AreNew shard client named
  are_new client [] [] s n few = tt
  are_new client [] (m ∷ ms) s n few = absurd n
  are_new client (x ∷ xs) [] s n few = absurd n
  are_new client (x ∷ xs) (m ∷ ms) s n few = (
    begun_seat (unstarted client) x m s.0 n.0 (omega arith),
    are_new (client + 1) xs ms s.1 n.1 (omega arith),
  )

  -- Those of the clients of a shard that begins with entries are so but for the first.
  pub are_begun : (es : List ImageEntry) (seats : List (SeatOf T)) (named : List (ShardSeat T))
      → AreSeatsAtWith shard.table es seats → AreNumbered 0 seats named
      → length seats ≤ MOST_CLIENTS → AreBegun shard es named
  are_begun es [] [] s n few = tt
  are_begun es [] (m ∷ ms) s n few = absurd n
  are_begun es (x ∷ xs) [] s n few = absurd n
  are_begun es (x ∷ xs) (m ∷ ms) s n few = (
    begun_seat (maker_of es) x m s.0 n.0 (omega arith),
    are_new 1 xs ms s.1 n.1 (omega arith),
  )
