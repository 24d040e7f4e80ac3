-- Laws of sums over lists.
use Rattle.std.proofs.Common.{◌≡◌, inl, inr, ℕ, zero, suc, ◌+◌, ◌<◌, ◌≤◌, drop, length, get_or, add-one, List}
use Rattle.std.proofs.Common.{[], ◌∷◌, ◌++◌, Option, None, Some, slice_get, slice_set, sum_by}
use Rattle.std.proofs.Common.{replicate, refl, ◌∙◌, ap, arith}
use Rattle.std.proofs.lemmas.List.Sums.{sum_by-cons}
use Rattle.std.proofs.lemmas.Bool.{cases_eq, cases_lt}
use Rattle.hcc_core.specs.Sums.{total, total_below}

-- std's sum of a chain is the total
pub sum_by_total : {X : Type 0} (f : X → ℕ) (xs : List X) → sum_by f xs ≡ total f xs
sum_by_total f [] = refl
sum_by_total f (x ∷ xs) = sum_by-cons f x xs ∙ ap (λ n. f x + n) (sum_by_total f xs)

-- a change of one member changes the total by that member's change
pub total-set : {X : Type 0} (f : X → ℕ) (xs : List X) (i : ℕ) (old new : X)
    → slice_get xs i ≡ Some old → total f (slice_set xs i new) + f old ≡ total f xs + f new
total-set f [] i old new h = cc
total-set f (x ∷ xs) zero old new h = let e : f x ≡ f old = ap f (let q : x ≡ old = cc in q) in
    omega arith
total-set f (x ∷ xs) (suc i) old new h = let rest = total-set f xs i old new h in omega arith

-- what an index gives to a total
abbrev pub sum_at : {X : Type 0} → (X → ℕ) → Option X → ℕ
sum_at f None = 0
sum_at f (Some x) = f x

-- a change of one member by at most `more`, even where there is none
pub total-set-le : {X : Type 0} (f : X → ℕ) (xs : List X) (i : ℕ) (new : X) (more : ℕ)
    → f new ≤ sum_at f (slice_get xs i) + more → total f (slice_set xs i new) ≤ total f xs + more
total-set-le f [] i new more h = omega arith
total-set-le f (x ∷ xs) zero new more h = omega arith
total-set-le f (x ∷ xs) (suc i) new more h = let rest = total-set-le f xs i new more h in
    omega arith

-- and by exactly so much less, even where there is none
pub total-set-at : {X : Type 0} (f : X → ℕ) (xs : List X) (i : ℕ) (new : X) (less : ℕ)
    → f new + less ≡ sum_at f (slice_get xs i) → total f (slice_set xs i new) + less ≡ total f xs
total-set-at f [] i new less h = omega arith
total-set-at f (x ∷ xs) zero new less h = omega arith
total-set-at f (x ∷ xs) (suc i) new less h =
    let rest = total-set-at f xs i new less h in omega arith

pub total-append : {X : Type 0} (f : X → ℕ) (xs ys : List X)
    → total f (xs ++ ys) ≡ total f xs + total f ys
total-append f [] ys = omega arith
total-append f (x ∷ xs) ys = let rest = total-append f xs ys in omega arith

-- a total of nothing but zeros
pub total-zero : {X : Type 0} (f : X → ℕ) (n : ℕ) (x : X) → f x ≡ 0 → total f (replicate n x) ≡ 0
total-zero f zero x h = refl
total-zero f (suc n) x h = let rest = total-zero f n x h in omega arith

-- one total is within another where each member is
pub total-le : {X : Type 0} (f g : X → ℕ) (xs : List X)
    → ((i : ℕ) (x : X) → slice_get xs i ≡ Some x → f x ≤ g x) → total f xs ≤ total g xs
total-le f g [] h = omega arith
total-le f g (x ∷ xs) h =
    let first = h 0 x refl in
    let rest = total-le f g xs (λ i y e. h (suc i) y e) in
    omega arith

-- a member is within the total
pub total-member : {X : Type 0} (f : X → ℕ) (xs : List X) (i : ℕ) (x : X) → slice_get xs i ≡ Some x
    → f x ≤ total f xs
total-member f [] i x h = cc
total-member f (y ∷ ys) zero x h = let e : f y ≡ f x = ap f (let q : y ≡ x = cc in q) in omega arith
total-member f (y ∷ ys) (suc i) x h = let rest = total-member f ys i x h in omega arith

-- the rest of a list from one member on
pub total-drop : {X : Type 0} (f : X → ℕ) (xs : List X) (i : ℕ) (x : X)
    → i < length xs → x ≡ get_or xs i x → total f (drop i xs) ≡ f x + total f (drop (i + 1) xs)
total-drop f [] i x h e = absurd (omega arith)
total-drop f (y ∷ ys) zero x h e = rw e refl
total-drop f (y ∷ ys) (suc i) x h e =
    rw (add-one, total-drop f ys i x (omega arith) e) (rw add-one refl)

-- nothing is left behind the last member
pub total-none : {X : Type 0} (f : X → ℕ) (xs : List X) (i : ℕ) → length xs ≤ i
    → total f (drop i xs) ≡ 0
total-none f [] zero h = refl
total-none f [] (suc i) h = refl
total-none f (y ∷ ys) zero h = absurd (omega arith)
total-none f (y ∷ ys) (suc i) h = total-none f ys i (omega arith)

-- one more member at the end
pub length-push : {X : Type 0} (xs : List X) (x : X) → length (xs ++ x ∷ []) ≡ length xs + 1
length-push [] x = refl
length-push (y ∷ ys) x = let rest = length-push ys x in omega arith

-- Sums over the numbers below a bound.

-- of two functions that are the same
pub total_below-same : (f g : ℕ → ℕ) (n : ℕ) → ((k : ℕ) → f k ≡ g k)
    → total_below f n ≡ total_below g n
total_below-same f g zero h = refl
total_below-same f g (suc n) h =
    let rest = total_below-same f g n h in let last = h n in omega arith

-- of nothing but zeros
pub total_below-none : (f : ℕ → ℕ) (n : ℕ) → ((k : ℕ) → k < n → f k ≡ 0) → total_below f n ≡ 0
total_below-none f zero h = refl
total_below-none f (suc n) h =
    let rest = total_below-none f n (λ k less. h k (omega arith)) in
    let last = h n (omega arith) in
    omega arith

-- of what is none but at one number
pub total_below-one : (f : ℕ → ℕ) (n k : ℕ) → k < n → ((j : ℕ) → (j ≡ k → ⊥) → f j ≡ 0)
    → total_below f n ≡ f k
total_below-one f zero k less h = absurd (omega arith)
total_below-one f (suc n) k less h = elim (cases_eq n k) [
  | inl e ↦
      let none = total_below-none f n (λ j low. h j (λ same. omega arith)) in
      let last = ap f e in
      omega arith
  | inr other ↦
      let rest = total_below-one f n k (omega arith) h in
      let last = h n other in
      omega arith
]

-- of two functions together
pub total_below-both : (f g : ℕ → ℕ) (n : ℕ)
    → total_below (λ k. f k + g k) n ≡ total_below f n + total_below g n
total_below-both f g zero = refl
total_below-both f g (suc n) = let rest = total_below-both f g n in omega arith

-- and of what is none but at one number it is at most what that one gives
pub total_below-most : (f : ℕ → ℕ) (n k : ℕ) → ((j : ℕ) → (j ≡ k → ⊥) → f j ≡ 0)
    → total_below f n ≤ f k
total_below-most f n k h = elim (cases_lt k n) [
  | inl less ↦ let one = total_below-one f n k less h in omega arith
  | inr past ↦
      let none = total_below-none f n (λ j low. h j (λ same. omega arith)) in
      omega arith
]

-- what one number gives is within the sum
pub total_below-member : (f : ℕ → ℕ) (n k : ℕ) → k < n → f k ≤ total_below f n
total_below-member f zero k less = absurd (omega arith)
total_below-member f (suc n) k less = elim (cases_eq n k) [
  | inl e ↦ let last = ap f e in omega arith
  | inr other ↦ let rest = total_below-member f n k (omega arith) in omega arith
]

-- Totals of members that count once.

pub total-nothing : {X : Type 0} (f : X → ℕ) (xs : List X)
    → ((i : ℕ) (x : X) → slice_get xs i ≡ Some x → f x ≡ 0) → total f xs ≡ 0
total-nothing f [] h = refl
total-nothing f (x ∷ xs) h =
    let first = h 0 x refl in
    let rest = total-nothing f xs (λ i y at. h (suc i) y at) in
    omega arith

-- where no two members count, and none counts more than once
pub total-once : {X : Type 0} (f : X → ℕ) (xs : List X)
    → ((x : X) → f x ≤ 1)
    → ((i j : ℕ) (x y : X) → slice_get xs i ≡ Some x → slice_get xs j ≡ Some y → f x ≡ 1
    → f y ≡ 1 → i ≡ j)
    → total f xs ≤ 1
total-once f [] few apart = omega arith
total-once {X = X} f (x ∷ xs) few apart = elim (cases_eq (f x) 1) [
  | inl one ↦
      let rest = total-nothing f xs (none one) in
      omega arith
  | inr other ↦
      let first = few x in
      let rest = total-once f xs few (λ i j y z at at' one two.
      let next = apart (suc i) (suc j) y z at at' one two in omega arith) in
      omega arith
]
  where
    none : f x ≡ 1 → (i : ℕ) (y : X) → slice_get xs i ≡ Some y → f y ≡ 0
    none one i y at = elim (cases_eq (f y) 1) [
      | inl two ↦ absurd (let bad = apart 0 (suc i) x y refl at one two in omega arith)
      | inr other ↦ let most = few y in omega arith
    ]
