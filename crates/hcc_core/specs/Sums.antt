-- Sums over lists, by plain recursion.
use Rattle.std.specs.Prelude.{ℕ, zero, suc, ◌+◌, Bool, true, false, List, [], ◌∷◌}

-- the number where the test holds, else 0
abbrev pub when : Bool → ℕ → ℕ
when true n = n
when false n = 0

-- the sum of what the list's members give
abbrev pub total : {A : Type 0} → (A → ℕ) → List A → ℕ
total f [] = 0
total f (x ∷ xs) = f x + total f xs

-- the sum of what the numbers below a bound give
abbrev pub total_below : (ℕ → ℕ) → ℕ → ℕ
total_below f zero = 0
total_below f (suc n) = total_below f n + f n
