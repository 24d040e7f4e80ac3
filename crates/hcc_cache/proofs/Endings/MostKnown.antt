-- What the client knows of a shard that knows most of it, as one more is looked at.
use Rattle.std.proofs.Common.{◌≡◌, ◌⊎◌, inl, inr, ℕ, ◌+◌, ◌<◌, ◌≤◌, nat_le, if◌then◌else◌, Bool, true, false, List, Some, length, slice_get, sym, refl, ap, ◌∙◌, arith}
use Rattle.std.proofs.lemmas.Bool.{cases_eq}
use Rattle.std.proofs.lemmas.Option.{same_Some}
use Rattle.hcc_rule.specs.declared.view.Done.{Done}
use Rattle.hcc_rule.specs.Acts.{longer}
use Rattle.hcc_rule.proofs.Basics.Lists.{there}
use Rattle.hcc_rule.proofs.Seats.Histories.{longer_left, longer_right}
use Rattle.hcc_shard.specs.declared.seat.ShardSeat.{ShardSeat}
use Rattle.hcc_shard.specs.Ended.{past_of}
use Rattle.hcc_cache.specs.declared.client.Client.{Client}
use Rattle.hcc_cache.specs.declared.seeded.Seeded.{Seeded}
use Rattle.hcc_cache.specs.Ended.{IsMostKnown}

-- the longer of two is one of them
one_of : (xs ys : List Done) → (longer xs ys ≡ xs) ⊎ (longer xs ys ≡ ys)
one_of xs ys = by (nat_le (length ys) (length xs))
  where
    by : (b : Bool) → ((if b then xs else ys) ≡ xs) ⊎ ((if b then xs else ys) ≡ ys)
    by true = inl refl
    by false = inr refl

module _ {T : Type 0} (s : ℕ) (clients : List (Client T)) where
  -- what a seat that is read twice knows
  same_past : (k : ℕ) (client other : Client T) (seat at : ShardSeat (Seeded T))
      → slice_get clients k ≡ Some client → slice_get clients k ≡ Some other
      → slice_get client.seats.items s ≡ Some seat → slice_get other.seats.items s ≡ Some at
      → length (past_of at) ≡ length (past_of seat)
  same_past k client other seat at here there_is sits seat_is =
      let same : other ≡ client = same_Some _ _ (sym there_is ∙ here) in
      let read = ap (λ (c : Client T). slice_get c.seats.items s) same in
      let is : at ≡ seat = same_Some _ _ (sym seat_is ∙ read ∙ sits) in
      ap (λ x. length (past_of x)) is

  -- Of one client it is what that one knows.
  pub known_first : (client : Client T) (seat : ShardSeat (Seeded T))
      → slice_get clients 0 ≡ Some client → slice_get client.seats.items s ≡ Some seat
      → IsMostKnown s clients 1 (past_of seat)
  known_first client seat here sits = record {
    index = 0;
    client = client;
    seat = seat;
    low = omega arith;
    there = here;
    seat_is = sits;
    knows = refl;
    most = λ k other at low there_is seat_is.
        let zero_is : k ≡ 0 = omega arith in
        let same = same_past 0 client other seat at here
        (ap (slice_get clients) (sym zero_is) ∙ there_is) sits seat_is in
        omega arith;
  }

  -- Of one more it is the longer of the two.
  pub known_more : (k : ℕ) (history : List Done) (client : Client T) (seat : ShardSeat (Seeded T))
      → slice_get clients k ≡ Some client → slice_get client.seats.items s ≡ Some seat
      → IsMostKnown s clients k history
      → IsMostKnown s clients (k + 1) (longer history (past_of seat))
  known_more k history client seat here sits known = elim (one_of history (past_of seat)) [
    | inl first ↦
        let low = known.low in
        record {
          index = known.index;
          client = known.client;
          seat = known.seat;
          low = omega arith;
          there = known.there;
          seat_is = known.seat_is;
          knows = first ∙ known.knows;
          most = most;
        }
    | inr second ↦ record {
      index = k;
      client = client;
      seat = seat;
      low = omega arith;
      there = here;
      seat_is = sits;
      knows = second;
      most = most;
    }
  ]
    where
      most : (j : ℕ) (other : Client T) (at : ShardSeat (Seeded T)) → j < k + 1
          → slice_get clients j ≡ Some other → slice_get other.seats.items s ≡ Some at
          → length (past_of at) ≤ length (longer history (past_of seat))
      most j other at low there_is seat_is = elim (cases_eq j k) [
        | inl last ↦
            let same = same_past k client other seat at here
            (ap (slice_get clients) (sym last) ∙ there_is) sits seat_is in
            let right = longer_right history (past_of seat) in
            omega arith
        | inr before ↦
            let less = known.most j other at (omega arith) there_is seat_is in
            let left = longer_left history (past_of seat) in
            omega arith
      ]

-- Clients whose seats at the shard are the same know the same of it.
pub known_back : {T : Type 0} (s : ℕ) (old now : List (Client T)) (history : List Done)
    → length now ≡ length old
    → ((k : ℕ) (client : Client T) → slice_get now k ≡ Some client
    → (was : Client T) × (slice_get old k ≡ Some was)
    × (slice_get client.seats.items s ≡ slice_get was.seats.items s))
    → IsMostKnown s now (length now) history → IsMostKnown s old (length old) history
known_back s old now history count left known =
    let one = left known.index known.client known.there in
    let low = known.low in
    record {
      index = known.index;
      client = one.0;
      seat = known.seat;
      low = omega arith;
      there = one.1;
      seat_is = sym one.2 ∙ known.seat_is;
      knows = known.knows;
      most = λ k other at below there_is seat_is.
          let now_is = there now k (omega arith) in
          let was = left k now_is.0 now_is.1 in
          let same : was.0 ≡ other = same_Some _ _ (sym was.1 ∙ there_is) in
          let read = ap (λ c. slice_get c.seats.items s) same in
          known.most k now_is.0 at (omega arith) now_is.1 (was.2 ∙ read ∙ seat_is);
    }
