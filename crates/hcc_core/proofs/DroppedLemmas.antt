-- A list without its first member that passes a test.
use Rattle.std.proofs.Common.{◌≡◌, ℕ, suc, ◌+◌, ◌<◌, ◌≤◌, Bool, true, false, not, cond, nat_lt}
use Rattle.std.proofs.Common.{List, [], ◌∷◌, Some, None, length, remove, position, one-add, refl}
use Rattle.std.proofs.Common.{ap, arith}
use Rattle.std.specs.List.{find, position_or_len}
use Rattle.std.proofs.lemmas.Bool.{ltb-true, ltb-false}
use Rattle.hcc_core.specs.Sums.{total}
use Rattle.hcc_core.specs.Outcomes.{dropped}

module _ {X : Type 0} (p : X → Bool) where
  -- a sum over the members that are left, and the one that went
  pub dropped-total : (f : X → ℕ) (xs : List X) (x : X) → find p xs ≡ Some x
      → total f (dropped p xs) + f x ≡ total f xs
  dropped-total f [] x h = cc
  dropped-total f (y ∷ ys) x h = by (p y) (dropped-total f ys x) h
    where
      by : (b : Bool) → (find p ys ≡ Some x → total f (dropped p ys) + f x ≡ total f ys)
          → cond b (Some y) (find p ys) ≡ Some x
          → total f (cond b ys (y ∷ dropped p ys)) + f x ≡ f y + total f ys
      by true later h = let same : f y ≡ f x = ap f (let e : y ≡ x = cc in e) in omega arith
      by false later h = let rest = later h in omega arith

  -- what is left sums to no more
  pub dropped-le : (f : X → ℕ) (xs : List X) → total f (dropped p xs) ≤ total f xs
  dropped-le f [] = omega arith
  dropped-le f (y ∷ ys) = by (p y) (dropped-le f ys)
    where
      by : (b : Bool) → total f (dropped p ys) ≤ total f ys
          → total f (cond b ys (y ∷ dropped p ys)) ≤ f y + total f ys
      by true rest = omega arith
      by false rest = omega arith

  -- and is no longer
  pub dropped-length : (xs : List X) → length (dropped p xs) ≤ length xs
  dropped-length [] = omega arith
  dropped-length (y ∷ ys) = by (p y) (dropped-length ys)
    where
      by : (b : Bool) → length (dropped p ys) ≤ length ys
          → length (cond b ys (y ∷ dropped p ys)) ≤ suc (length ys)
      by true rest = omega arith
      by false rest = omega arith

  -- the first one taken out by its place
  remove-first : (xs : List X) → position_or_len p xs < length xs
      → remove xs (position_or_len p xs) ≡ dropped p xs
  remove-first [] h = absurd (omega arith)
  remove-first (y ∷ ys) h = by (p y) (remove-first ys) h
    where
      by : (b : Bool)
          → (position_or_len p ys < length ys → remove ys (position_or_len p ys) ≡ dropped p ys)
          → cond (not b) (1 + position_or_len p ys) 0 < length (y ∷ ys)
          → remove (y ∷ ys) (cond (not b) (1 + position_or_len p ys) 0)
          ≡ cond b ys (y ∷ dropped p ys)
      by true later h = refl
      by false later h = rw one-add (ap (λ rest. y ∷ rest) (later (omega arith)))

  -- none of them passes
  dropped-none : (xs : List X) → length xs ≤ position_or_len p xs → xs ≡ dropped p xs
  dropped-none [] h = refl
  dropped-none (y ∷ ys) h = by (p y) (dropped-none ys) h
    where
      by : (b : Bool) → (length ys ≤ position_or_len p ys → ys ≡ dropped p ys)
          → length (y ∷ ys) ≤ cond (not b) (1 + position_or_len p ys) 0
          → y ∷ ys ≡ cond b ys (y ∷ dropped p ys)
      by true later h = absurd (omega arith)
      by false later h = ap (λ rest. y ∷ rest) (later (omega arith))

  -- the member found by its position goes
  pub remove_at : (xs : List X) (place : ℕ) → position p xs ≡ Some place
      → remove xs place ≡ dropped p xs
  remove_at xs place h = by (nat_lt (position_or_len p xs) (length xs)) refl h
    where
      by : (b : Bool) → nat_lt (position_or_len p xs) (length xs) ≡ b
          → cond b (Some (position_or_len p xs)) None ≡ Some place → remove xs place ≡ dropped p xs
      by true within h =
          let same : position_or_len p xs ≡ place = cc in
          rw (← same) (remove-first xs (ltb-true _ _ within))
      by false within h = cc

  -- where none is found, all stay
  pub keep_all : (xs : List X) → position p xs ≡ None → xs ≡ dropped p xs
  keep_all xs h = by (nat_lt (position_or_len p xs) (length xs)) refl h
    where
      by : (b : Bool) → nat_lt (position_or_len p xs) (length xs) ≡ b
          → cond b (Some (position_or_len p xs)) None ≡ None → xs ≡ dropped p xs
      by true within h = cc
      by false within h = dropped-none xs (ltb-false _ _ within)
