-- A power of two divides each greater one.
use Rattle.std.proofs.Common.{◌≡◌, ℕ, zero, suc, ◌*◌, ◌/◌, ◌%◌, ◌^◌, ◌≤◌, true, inl, inr, ap, ◌∙◌, arith}
use Rattle.std.specs.Prelude.{count_ones}
use Rattle.std.specs.Int.{is_power_of_two}
use Rattle.std.proofs.Math.Nat.{pow-suc, div-add-mod', mul-mod_left}
use Rattle.std.proofs.lemmas.Bool.{cases_eq, eqb-true}
use Rattle.std.proofs.lemmas.Nat.{ones_le_self, zero_from_ones}
use lib.Count.{ones_step}

-- A number with one bit set is halved down to 1.
one_bit-divides : (m n : ℕ) → n ≤ 2 ^ m → count_ones n ≡ 1 → 2 ^ m % n ≡ 0
one_bit-divides zero n low one =
    let is : n ≡ 1 = omega (arith, ones_le_self n) in
    ap (λ k. 1 % k) is
one_bit-divides (suc m) n low one = elim (cases_eq (n % 2) 0) [
  | inl even ↦
      let half = one_bit-divides m (n / 2) (omega arith) (omega (arith, ones_step n)) in
      let parts = 2 ^ m / (n / 2) in
      let times : parts * n ≡ parts * (n / 2 * 2) = ap (λ k. parts * k) (omega arith) in
      let whole : 2 ^ suc m ≡ parts * n = omega (arith, div-add-mod' (2 ^ m) (n / 2)) in
      ap (λ k. k % n) whole ∙ mul-mod_left parts n
  | inr odd ↦
      let none = zero_from_ones (n / 2) (omega (arith, ones_step n)) in
      let is : n ≡ 1 = omega arith in
      ap (λ k. 2 ^ suc m % k) is ∙ omega arith
]
  where
    doubled : 2 ^ suc m ≡ 2 ^ m * 2
    doubled = pow-suc 2 m

pub power_divides : (m n : ℕ) → n ≤ 2 ^ m → is_power_of_two n ≡ true → 2 ^ m % n ≡ 0
power_divides m n low power = one_bit-divides m n low (eqb-true (count_ones n) 1 power)
