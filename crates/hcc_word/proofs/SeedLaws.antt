-- The rounds of the seeding take each other back.
use Rattle.std.proofs.Common.{◌≡◌, ℕ, ◌+◌, ◌-◌, ◌*◌, ◌/◌, ◌%◌, ◌^◌, ◌<◌, Bool, true, false, arith}
use Rattle.std.proofs.Common.{sym, refl, ap, ◌∙◌, nat_eq}
use Rattle.std.proofs.lemmas.Nat.{xor_lt}
use Rattle.std.specs.Prelude.{bit_xor, if◌then◌else◌}
use Rattle.hcc_word.specs.declared.seeding.TheConstants.{SEED_MULTIPLIER}
use Rattle.hcc_word.specs.Seeding.{folded, mixture, seeded_key, unseeded_key}

folded-lt : (word : ℕ) → word < 2 ^ 64 → folded word < 2 ^ 64
unfolding folded
folded-lt word fits = xor_lt 64 word (word / 2 ^ 32) fits (omega arith)

-- what a round adds is a word
pub mixture-lt : (seed word : ℕ) → mixture seed word < 2 ^ 64
unfolding mixture
mixture-lt seed word =
    let product : ℕ = bit_xor word seed * SEED_MULTIPLIER % 2 ^ 64 in
    let product_fits : product < 2 ^ 64 = omega arith in
    elim (nat_eq seed 0) as (λ (none : Bool). (if none then 0 else folded product) < 2 ^ 64)
    [ true ↦ omega arith | false ↦ folded-lt product product_fits ]

-- seed 0 adds nothing
pub mixture-no_seed : (word : ℕ) → mixture 0 word ≡ 0
unfolding mixture
mixture-no_seed word = refl

-- a word that gained a number and lost it again
take-add : (word gain : ℕ) → word < 2 ^ 64 → gain < 2 ^ 64
    → ((word + gain) % 2 ^ 64 + (2 ^ 64 - gain)) % 2 ^ 64 ≡ word
take-add word gain fits gain_fits = omega arith

-- a word that lost a number and gained it again
add-take : (word gain : ℕ) → word < 2 ^ 64 → gain < 2 ^ 64
    → ((word + (2 ^ 64 - gain)) % 2 ^ 64 + gain) % 2 ^ 64 ≡ word
add-take word gain fits gain_fits = omega arith

pair : {a b c d : ℕ} → a ≡ c → b ≡ d → ◌≡◌ {A = ℕ × ℕ} (a, b) (c, d)
pair p q = cc

-- unseeding gives back the key that was seeded
pub unseeded_key-seeded_key : (seed k0 k1 : ℕ) → k0 < 2 ^ 64 → k1 < 2 ^ 64
    → unseeded_key seed (seeded_key seed (k0, k1)) ≡ (k0, k1)
unseeded_key-seeded_key seed k0 k1 fits0 fits1 =
    let h1 : ℕ = (k1 + mixture seed k0) % 2 ^ 64 in
    let word0 = take-add k0 (mixture seed h1) fits0 (mixture-lt seed h1) in
    let word1 = take-add k1 (mixture seed k0) fits1 (mixture-lt seed k0) in
    pair word0 (ap (λ (k : ℕ). (h1 + (2 ^ 64 - mixture seed k)) % 2 ^ 64) word0 ∙ word1)

-- seeding gives back the key that was unseeded
pub seeded_key-unseeded_key : (seed h0 h1 : ℕ) → h0 < 2 ^ 64 → h1 < 2 ^ 64
    → seeded_key seed (unseeded_key seed (h0, h1)) ≡ (h0, h1)
seeded_key-unseeded_key seed h0 h1 fits0 fits1 =
    let k0 : ℕ = (h0 + (2 ^ 64 - mixture seed h1)) % 2 ^ 64 in
    let word1 = add-take h1 (mixture seed k0) fits1 (mixture-lt seed k0) in
    let word0 = add-take h0 (mixture seed h1) fits0 (mixture-lt seed h1) in
    pair (ap (λ (h : ℕ). (k0 + mixture seed h) % 2 ^ 64) word1 ∙ word0) word1

-- different keys stay different
pub seeded_key-injective : (seed j0 j1 k0 k1 : ℕ)
    → j0 < 2 ^ 64 → j1 < 2 ^ 64 → k0 < 2 ^ 64 → k1 < 2 ^ 64
    → seeded_key seed (j0, j1) ≡ seeded_key seed (k0, k1) → (j0 ≡ k0) × (j1 ≡ k1)
seeded_key-injective seed j0 j1 k0 k1 j0_fits j1_fits k0_fits k1_fits same =
    let back_j = unseeded_key-seeded_key seed j0 j1 j0_fits j1_fits in
    let back_k = unseeded_key-seeded_key seed k0 k1 k0_fits k1_fits in
    let one_key : ◌≡◌ {A = ℕ × ℕ} (j0, j1) (k0, k1) =
    sym back_j ∙ (ap (unseeded_key seed) same ∙ back_k) in
    (ap (λ (key : ℕ × ℕ). key.0) one_key, ap (λ (key : ℕ × ℕ). key.1) one_key)

-- seed 0 changes no key
pub seeded_key-no_seed : (k0 k1 : ℕ) → k0 < 2 ^ 64 → k1 < 2 ^ 64 → seeded_key 0 (k0, k1) ≡ (k0, k1)
seeded_key-no_seed k0 k1 fits0 fits1 =
    let h1 : ℕ = (k1 + mixture 0 k0) % 2 ^ 64 in
    let none0 : mixture 0 k0 ≡ 0 = mixture-no_seed k0 in
    let none1 : mixture 0 h1 ≡ 0 = mixture-no_seed h1 in
    let m0 : ℕ = mixture 0 k0 in
    let m1 : ℕ = mixture 0 h1 in
    pair (omega arith) (omega arith)
