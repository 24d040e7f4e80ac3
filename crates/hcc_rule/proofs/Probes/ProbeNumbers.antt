-- Numbers that divide a power of two, and walks round them by an odd stride.
use Rattle.std.proofs.Common.{◌≡◌, ◌⊎◌, inl, inr, ℕ, zero, suc, ◌+◌, ◌-◌, ◌*◌, ◌/◌, ◌%◌, ◌^◌, ◌<◌, ◌≤◌, sym, refl, ap, ◌∙◌, arith, bit_or, bit_and, mod-eq_of_lt, mod-lt}
use Rattle.std.proofs.Math.Nat.{pow-suc, div-add-mod', add-mul-mod_self_right, mod-mod_of_dvd, dvd_of_mod-eq-zero, dvd_trans, mul-mod_left}
use Rattle.std.proofs.lemmas.Bool.{cases_eq}
use Rattle.std.proofs.lemmas.Nat.{and_mask, pow-add}
use Rattle.std.specs.Int.{◌∣◌}
use lib.Bits.{or_step}

-- Even or odd.
halves : (n : ℕ) → (n ≡ n / 2 * 2) ⊎ (n ≡ n / 2 * 2 + 1)
halves n = elim (cases_eq (n % 2) 0) [
  | inl even ↦ inl (omega arith)
  | inr odd ↦ inr (omega arith)
]

-- A factor of a power of two is a power of two.
power_factor : (m n q : ℕ) → n * q ≡ 2 ^ m → (k : ℕ) × (k ≤ m) × (n ≡ 2 ^ k)
power_factor zero zero q h = absurd (omega arith)
power_factor zero (suc zero) q h = (0, omega arith, refl)
power_factor zero (suc (suc n)) zero h = absurd (omega arith)
power_factor zero (suc (suc n)) (suc q) h = absurd (omega arith)
power_factor (suc m) n q h = elim (halves n) [
  | inl even ↦
      let doubled : n * q ≡ n / 2 * 2 * q = ap (λ z. z * q) even in
      let rest = power_factor m (n / 2) q (omega arith) in
      (suc rest.0, omega (arith, rest.1), omega (arith, rest.2, pow-suc 2 rest.0))
  | inr odd ↦
      let product : n * q ≡ (n / 2 * 2 + 1) * q = ap (λ z. z * q) odd in
      let half : q ≡ q / 2 * 2 = omega arith in
      let doubled : n * q ≡ n * (q / 2 * 2) = ap (λ z. n * z) half in
      let rest = power_factor m n (q / 2) (omega arith) in
      (rest.0, omega (arith, rest.1), rest.2)
]
  where
    twice : 2 ^ suc m ≡ 2 ^ m * 2
    twice = pow-suc 2 m

-- A number that divides a power of two is a power of two.
pub power_within : (m n : ℕ) → 2 ^ m % n ≡ 0 → (k : ℕ) × (k ≤ m) × (n ≡ 2 ^ k)
power_within m n whole = power_factor m n (2 ^ m / n) whole_parts
  where
    whole_parts : n * (2 ^ m / n) ≡ 2 ^ m
    whole_parts = omega (arith, div-add-mod' (2 ^ m) n)

-- What an odd number is to be multiplied by, to leave 1 round a power of two.
inverse_round : (k s : ℕ) → s % 2 ≡ 1 → (t : ℕ) × (u : ℕ) × (t * s ≡ 1 + u * 2 ^ k)
inverse_round zero s odd = (1, s - 1, omega arith)
inverse_round (suc k) s odd =
    let rest = inverse_round k s odd in
    next rest.0 rest.1 rest.2 (halves rest.1)
  where
    next : (t u : ℕ) → t * s ≡ 1 + u * 2 ^ k → (u ≡ u / 2 * 2) ⊎ (u ≡ u / 2 * 2 + 1)
        → (t' : ℕ) × (u' : ℕ) × (t' * s ≡ 1 + u' * 2 ^ suc k)
    next t u undo (inl even) =
        let turns : u * 2 ^ k ≡ u / 2 * 2 * 2 ^ k = ap (λ z. z * 2 ^ k) even in
        let twice : u / 2 * 2 ^ suc k ≡ u / 2 * (2 ^ k * 2) = ap (λ z. u / 2 * z) (pow-suc 2 k) in
        (t, u / 2, omega arith)
    next t u undo (inr more) =
        let v : ℕ = (u + s) / 2 in
        let half : u + s ≡ v * 2 = omega arith in
        let turns : (u + s) * 2 ^ k ≡ v * 2 * 2 ^ k = ap (λ z. z * 2 ^ k) half in
        let twice : v * 2 ^ suc k ≡ v * (2 ^ k * 2) = ap (λ z. v * z) (pow-suc 2 k) in
        (t + 2 ^ k, v, omega arith)

-- The same round a number that divides a power of two.
pub inverse_within : (m n s : ℕ) → 2 ^ m % n ≡ 0 → s % 2 ≡ 1
    → (t : ℕ) × (u : ℕ) × (t * s ≡ 1 + u * n)
inverse_within m n s whole odd =
    let power = power_within m n whole in
    let found = inverse_round power.0 s odd in
    (found.0, found.1, found.2 ∙ ap (λ z. 1 + found.1 * z) (sym power.2))

-- Whole turns do not count.
whole_rounds : (n a b x y : ℕ) → a + x * n ≡ b + y * n → a % n ≡ b % n
whole_rounds n a b x y h =
    sym (add-mul-mod_self_right a x n) ∙ ap (λ z. z % n) h ∙ add-mul-mod_self_right b y n

-- A walk round n by a stride s that t takes back.
module _ (n s t u : ℕ) (some : 0 < n) (undo : t * s ≡ 1 + u * n) where
  -- i strides, taken back, are i and whole turns.
  taken_back : (i : ℕ) → i * s * t ≡ i + i * u * n
  taken_back i = omega (arith, ap (λ z. i * z) undo)

  -- Its first n places are apart.
  pub walk_apart : (a i j : ℕ) → i < n → j < n → (a + i * s) % n ≡ (a + j * s) % n → i ≡ j
  walk_apart a i j i_in j_in same =
      let x : ℕ = (a + j * s) / n in
      let y : ℕ = (a + i * s) / n in
      let level : i * s + x * n ≡ j * s + y * n =
      omega (arith, div-add-mod' (a + i * s) n, div-add-mod' (a + j * s) n) in
      let scaled : (i * s + x * n) * t ≡ (j * s + y * n) * t = ap (λ z. z * t) level in
      let at_i = taken_back i in
      let at_j = taken_back j in
      let back : i + (i * u + x * t) * n ≡ j + (j * u + y * t) * n = omega arith in
      sym (mod-eq_of_lt i_in) ∙ whole_rounds n i j (i * u + x * t) (j * u + y * t) back
      ∙ mod-eq_of_lt j_in

  -- They are all the places.
  pub walk_reaches : (a p : ℕ) → p < n → (i : ℕ) × (i < n) × ((a + i * s) % n ≡ p)
  walk_reaches a p p_in =
      let a_in : a % n < n = mod-lt a some in
      let c : ℕ = p + (n - a % n) in
      let q : ℕ = c * t / n in
      let i : ℕ = c * t % n in
      let split : q * n + i ≡ c * t = div-add-mod' (c * t) n in
      let a_split : a / n * n + a % n ≡ a = div-add-mod' a n in
      let strides : (q * n + i) * s ≡ c * t * s = ap (λ z. z * s) split in
      let back : c * s * t ≡ c + c * u * n = taken_back c in
      let round : a + i * s + q * s * n ≡ p + (1 + a / n + c * u) * n = omega arith in (
        i,
        mod-lt (c * t) some,
        whole_rounds n (a + i * s) p (q * s) (1 + a / n + c * u) round ∙ mod-eq_of_lt p_in,
      )

-- With its lowest bit set a number is odd.
pub or_one-odd : (n : ℕ) → bit_or n 1 % 2 ≡ 1
or_one-odd n = omega (arith, or_step n 1)

-- The mask of a power of two is a remainder.
pub mask_within : (m n x : ℕ) → 2 ^ m % n ≡ 0 → bit_and x (n - 1) ≡ x % n
mask_within m n x whole =
    let power = power_within m n whole in
    ap (λ z. bit_and x (z - 1)) power.2 ∙ and_mask x power.0 ∙ ap (λ z. x % z) (sym power.2)

-- A number that wraps at a power of two keeps its remainder by what divides a smaller one.
pub wrap_within : (m w n x : ℕ) → m ≤ w → 2 ^ m % n ≡ 0 → x % 2 ^ w % n ≡ x % n
wrap_within m w n x few whole = mod-mod_of_dvd n x (dvd_trans n smaller larger)
  where
    smaller : n ∣ 2 ^ m
    smaller = dvd_of_mod-eq-zero n whole

    as_product : 2 ^ (w - m) * 2 ^ m ≡ 2 ^ w
    as_product =
        let sum : w - m + m ≡ w = omega arith in
        sym (pow-add 2 (w - m) m) ∙ ap (λ z. 2 ^ z) sum

    larger : 2 ^ m ∣ 2 ^ w
    larger = dvd_of_mod-eq-zero (2 ^ m)
        (ap (λ z. z % 2 ^ m) (sym as_product) ∙ mul-mod_left (2 ^ (w - m)) (2 ^ m))
