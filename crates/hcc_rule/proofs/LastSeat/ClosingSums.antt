-- Sums over the indices of a list, and sums of which one member is the whole.
use Rattle.std.proofs.Common.{◌≡◌, ℕ, zero, suc, ◌+◌, ◌<◌, ◌≤◌, ◌≢◌, ◌==◌, List, [], ◌∷◌, Some, length, slice_get, refl, ap, ◌∙◌, arith, ne_eqb}
use mathlib.Core.Logic.{dite}
use native.Mathlib.Decide.{ℕ_discrete}
use Rattle.std.specs.List.{range_with_len}
use Rattle.std.proofs.lemmas.Bool.{eq-eqb}
use Rattle.hcc_core.specs.declared.slot.Stamp.{Stamp}
use Rattle.hcc_core.specs.Sums.{when, total}
use Rattle.hcc_core.proofs.SumLemmas.{total-member, total-nothing}
use Rattle.hcc_rule.specs.declared.view.Made.{Made}
use Rattle.hcc_rule.specs.declared.view.Other.{Other}
use Rattle.hcc_rule.specs.Rule.{Books, books_weigh, list_weighs}
use Rattle.hcc_rule.specs.Views.{Each}

-- the sum over a list is the sum over its indices
range_from : {A : Type 0} (f : A → ℕ) (g : ℕ → ℕ) (xs : List A) (a : ℕ)
    → ((i : ℕ) (x : A) → slice_get xs i ≡ Some x → f x ≡ g (i + a))
    → total f xs ≡ total g (range_with_len a (length xs))
range_from f g [] a h = refl
range_from f g (x ∷ xs) a h =
    let first : f x ≡ g a = h 0 x refl ∙ ap g (let e : 0 + a ≡ a = omega arith in e) in
    let rest = range_from f g xs (a + 1)
    (λ i y at. h (suc i) y at ∙ ap g (let e : suc i + a ≡ i + (a + 1) = omega arith in e)) in
    omega arith

-- the same from 0 on
pub total_range : {A : Type 0} (f : A → ℕ) (g : ℕ → ℕ) (xs : List A)
    → ((i : ℕ) (x : A) → slice_get xs i ≡ Some x → f x ≡ g i)
    → total f xs ≡ total g (range_with_len 0 (length xs))
total_range f g xs h =
    range_from f g xs 0 (λ i x at. h i x at ∙ ap g (let e : i ≡ i + 0 = omega arith in e))

-- where one member gives the whole sum, the others give nothing
pub else_nothing : {A : Type 0} (f : A → ℕ) (xs : List A) (i : ℕ) (x : A) → slice_get xs i ≡ Some x
    → total f xs ≡ f x → (j : ℕ) (y : A) → j ≢ i → slice_get xs j ≡ Some y → f y ≡ 0
else_nothing f [] i x at whole j y other there = cc
else_nothing f (z ∷ zs) zero x at whole zero y other there = absurd (other refl)
else_nothing f (z ∷ zs) zero x at whole (suc j) y other there =
    let same : f z ≡ f x = ap f (let e : z ≡ x = cc in e) in
    let low = total-member f zs j y there in
    omega arith
else_nothing f (z ∷ zs) (suc i) x at whole zero y other there =
    let same : f z ≡ f y = ap f (let e : z ≡ y = cc in e) in
    let low = total-member f zs i x at in
    omega arith
else_nothing f (z ∷ zs) (suc i) x at whole (suc j) y other there =
    let low = total-member f zs i x at in
    else_nothing f zs i x at (omega arith) j y (λ e. other (ap suc e)) there

-- no number from a on is below a
none_below : (c k a n : ℕ) → c < a → total (λ i. when (c == i) k) (range_with_len a n) ≡ 0
none_below c k a zero low = refl
none_below c k a (suc n) low =
    let first : when (c == a) k ≡ 0 = ap (λ b. when b k) (ne_eqb c a (λ e. omega arith)) in
    let rest = none_below c k (a + 1) n (omega arith) in
    omega arith

-- each number of a range stands there once
one_in : (c k a n : ℕ) → a ≤ c → c < a + n → total (λ i. when (c == i) k) (range_with_len a n) ≡ k
one_in c k a zero low near = absurd (omega arith)
one_in c k a (suc n) low near = dite (ℕ_discrete c a)
    (λ same.
    let first : when (c == a) k ≡ k = ap (λ b. when b k) (eq-eqb c a same) in
    let rest = none_below c k (a + 1) n (omega arith) in
    omega arith)
    (λ other.
    let first : when (c == a) k ≡ 0 = ap (λ b. when b k) (ne_eqb c a other) in
    let rest = one_in c k (a + 1) n (omega arith) (omega arith) in
    omega arith)

-- the same from 0 on
pub one_at : (c k n : ℕ) → c < n → total (λ i. when (c == i) k) (range_with_len 0 n) ≡ k
one_at c k n near = one_in c k 0 n (omega arith) (omega arith)

-- a sum of two at once
pub total_both : {A : Type 0} (f g : A → ℕ) (xs : List A)
    → total (λ x. f x + g x) xs ≡ total f xs + total g xs
total_both f g [] = refl
total_both f g (x ∷ xs) = let rest = total_both f g xs in omega arith

-- what others give, client by client, is what all of them give
pub given_by_client : (f : Other → ℕ) (n : ℕ) (os : List Other)
    → Each (λ (o : Other). o.client < n) os
    → total (λ i. total (λ (o : Other). when (o.client == i) (f o)) os) (range_with_len 0 n)
    ≡ total f os
given_by_client f n [] near = total-nothing (λ i. 0) (range_with_len 0 n) (λ i x at. refl)
given_by_client f n (o ∷ os) near =
    total_both (λ i. when (o.client == i) (f o)) rest_of (range_with_len 0 n)
    ∙ (let first = one_at o.client (f o) n near.0 in let rest =
    given_by_client f n os near.1 in omega arith)
  where
    rest_of : ℕ → ℕ
    rest_of i = total (λ (q : Other). when (q.client == i) (f q)) os

-- what the lists of all clients weigh is a sum over the clients' numbers
pub books_range : (h : Stamp → ℕ) (g : ℕ → ℕ) (books : Books) (a : ℕ)
    → ((i c : ℕ) (book : List Made) → slice_get books i ≡ Some book → c ≡ i + a
    → list_weighs h c 0 book ≡ g c)
    → books_weigh h a books ≡ total g (range_with_len a (length books))
books_range h g [] a each = refl
books_range h g (b ∷ bs) a each =
    let first = each 0 a b refl (omega arith) in
    let rest = books_range h g bs (a + 1)
    (λ i c book at is. each (suc i) c book at (omega arith)) in
    omega arith
