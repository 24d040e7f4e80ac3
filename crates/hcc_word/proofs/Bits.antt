-- Bit operations on words, as sums and tests of fields. Only this crate's own proofs open them.
use Rattle.std.proofs.Common.{refl, ◌≡◌, ℕ, ◌+◌, ◌-◌, ◌*◌, ◌/◌, ◌%◌, ◌^◌, ◌<◌, ◌≤◌, Bool, true}
use Rattle.std.proofs.Common.{false, arith, ap, ◌∙◌, bit_or, bit_and, nat_eq}
use Rattle.std.specs.Prelude.{not}
use Rattle.std.specs.Int.{from_bool}
use Rattle.std.proofs.lemmas.Nat.{and_block, and_mask, or_block, or_shifted}
use Rattle.std.proofs.lemmas.Nat.Bits.{and_pow}
use Rattle.hcc_word.specs.Word.{hit_of, word_of}
use Rattle.hcc_word.specs.declared.layout.TheConstants.{COUNTER_BITS, HIT_PLACE, STATE_PLACE}
use Rattle.hcc_word.specs.declared.layout.TheConstants.{COUNTER_MASK, HIT_BIT, OCCUPIED_BIT}
use Rattle.hcc_word.specs.declared.layout.TheConstants.{HIDING_MASK}
use lib.Bits.{or_shifted_r, or_zero_r}

-- what the fields of a word are by a mask
pub ruleset masks = (and_mask)

pub from_bool-le : (b : Bool) → from_bool b ≤ 1
from_bool-le true = omega arith
from_bool-le false = omega arith

-- shifted fields that do not overlap
pub or-fields : (acquires releases : ℕ) (hit : Bool) (state : ℕ)
    → acquires < 2 ^ COUNTER_BITS → releases < 2 ^ COUNTER_BITS → state < 8
    → bit_or (bit_or (bit_or (state * 2 ^ STATE_PLACE % 2 ^ 64)
    (from_bool hit * 2 ^ HIT_PLACE % 2 ^ 64))
    (releases * 2 ^ COUNTER_BITS % 2 ^ 64)) acquires
    ≡ word_of acquires releases hit state
unfolding word_of
or-fields a r hit s a_fits r_fits s_fits =
    let h : ℕ = from_bool hit in
    let h_fits : h ≤ 1 = from_bool-le hit in
    let top : ℕ = s * 2 + h in
    let high : ℕ = top * 2 ^ COUNTER_BITS + r in
    let state_is : s * 2 ^ STATE_PLACE % 2 ^ 64 ≡ s * 2 ^ STATE_PLACE = omega arith in
    let hit_is : h * 2 ^ HIT_PLACE % 2 ^ 64 ≡ h * 2 ^ HIT_PLACE = omega arith in
    let releases_is : r * 2 ^ COUNTER_BITS % 2 ^ 64 ≡ r * 2 ^ COUNTER_BITS = omega arith in
    let with_hit : bit_or (s * 2 ^ STATE_PLACE) (h * 2 ^ HIT_PLACE) ≡ top * 2 ^ HIT_PLACE =
    or_shifted s 61 (h * 2 ^ HIT_PLACE) (omega arith) ∙ omega arith in
    let with_releases : bit_or (top * 2 ^ HIT_PLACE) (r * 2 ^ COUNTER_BITS)
    ≡ high * 2 ^ COUNTER_BITS =
    or_shifted top 60 (r * 2 ^ COUNTER_BITS) (omega arith) ∙ omega arith in
    let with_acquires : bit_or (high * 2 ^ COUNTER_BITS) a ≡ high * 2 ^ COUNTER_BITS + a =
    or_shifted high 30 a (omega arith) in
    let sum : high * 2 ^ COUNTER_BITS + a
    ≡ a + r * 2 ^ COUNTER_BITS + h * 2 ^ HIT_PLACE + s * 2 ^ STATE_PLACE = omega arith in
    cc

-- a word has a bit exactly where `and` with it is not 0
pub test-hit_bit : (word : ℕ) → not (nat_eq (bit_and word HIT_BIT) 0) ≡ hit_of word
unfolding hit_of
test-hit_bit word =
    ap (λ (x : ℕ). not (nat_eq x 0)) (and_pow word 60)
    ∙ by_bit (word / 2 ^ HIT_PLACE % 2) (omega arith)
  where
    by_bit : (bit : ℕ) → bit < 2 → not (nat_eq (bit * 2 ^ HIT_PLACE) 0) ≡ nat_eq bit 1
    by_bit bit low = grind arith

-- the occupied bit is added to a word that lacks it
pub or-occupied_bit_low : (word : ℕ) → word < OCCUPIED_BIT
    → bit_or word OCCUPIED_BIT ≡ word + OCCUPIED_BIT
or-occupied_bit_low word low =
    let e : bit_or word OCCUPIED_BIT ≡ OCCUPIED_BIT + word = or_shifted_r 1 63 word low in
    omega arith

-- it changes no word that has it
pub or-occupied_bit_high : (word : ℕ) → OCCUPIED_BIT ≤ word → word < 2 ^ 64
    → bit_or word OCCUPIED_BIT ≡ word
or-occupied_bit_high word low high =
    let rest : ℕ = word - OCCUPIED_BIT in
    let as_sum : OCCUPIED_BIT + rest ≡ word = omega arith in
    let e : bit_or (OCCUPIED_BIT + rest) OCCUPIED_BIT ≡ OCCUPIED_BIT + bit_or rest 0 =
    or_block 63 1 1 rest 0 (omega arith) (omega arith) in
    let same : bit_or rest 0 ≡ rest = or_zero_r rest in
    cc

-- the visible bit is cleared
pub and-not_visible_bit : (state rest : ℕ) → rest < 2 ^ STATE_PLACE
    → bit_and (state * 2 ^ STATE_PLACE + rest) HIDING_MASK
    ≡ bit_and state 6 * 2 ^ STATE_PLACE + rest
and-not_visible_bit state rest low =
    let e : bit_and (state * 2 ^ STATE_PLACE + rest) (6 * 2 ^ STATE_PLACE + (2 ^ STATE_PLACE - 1))
    ≡ bit_and state 6 * 2 ^ STATE_PLACE + bit_and rest (2 ^ STATE_PLACE - 1) =
    and_block 61 state 6 rest (2 ^ STATE_PLACE - 1) low (omega arith) in
    let mask : bit_and rest (2 ^ STATE_PLACE - 1) ≡ rest % 2 ^ STATE_PLACE = and_mask rest 61 in
    let whole : rest % 2 ^ STATE_PLACE ≡ rest = omega arith in
    e ∙ ap (λ (x : ℕ). bit_and state 6 * 2 ^ STATE_PLACE + x) (mask ∙ whole)

-- the hit bit is set, below whatever state
pub or-hit_bit : (state : ℕ) (hit : Bool) (rest : ℕ) → rest < 2 ^ HIT_PLACE
    → bit_or ((state * 2 + from_bool hit) * 2 ^ HIT_PLACE + rest) HIT_BIT
    ≡ (state * 2 + 1) * 2 ^ HIT_PLACE + rest
or-hit_bit state hit rest low =
    let top : ℕ = state * 2 + from_bool hit in
    let blocks : bit_or (top * 2 ^ HIT_PLACE + rest) (1 * 2 ^ HIT_PLACE + 0)
    ≡ bit_or top 1 * 2 ^ HIT_PLACE + bit_or rest 0 =
    or_block 60 top 1 rest 0 low (omega arith) in
    let upper : bit_or top 1 ≡ state * 2 + 1 =
    or_block 1 state 0 (from_bool hit) 1 (below_two hit) (omega arith)
    ∙ (ap (λ (x : ℕ). x * 2 + bit_or (from_bool hit) 1) (or_zero_r state)
    ∙ ap (λ (x : ℕ). state * 2 + x) (lowest hit)) in
    let lower : bit_or rest 0 ≡ rest = or_zero_r rest in
    blocks ∙ (ap (λ (x : ℕ). x * 2 ^ HIT_PLACE + bit_or rest 0) upper
    ∙ ap (λ (x : ℕ). (state * 2 + 1) * 2 ^ HIT_PLACE + x) lower)
  where
    lowest : (h : Bool) → bit_or (from_bool h) 1 ≡ 1
    lowest true = refl
    lowest false = refl

    below_two : (h : Bool) → from_bool h < 2
    below_two true = omega arith
    below_two false = omega arith

-- acquires less releases, where the program subtracts them as 32-bit words and masks the rest
pub and-difference : (acquires releases : ℕ)
    → acquires < 2 ^ COUNTER_BITS → releases < 2 ^ COUNTER_BITS
    → bit_and ((acquires + (2 ^ 32 - releases)) % 2 ^ 32) COUNTER_MASK
    ≡ (acquires + (2 ^ COUNTER_BITS - releases)) % 2 ^ COUNTER_BITS
and-difference a r a_fits r_fits =
    and_mask ((a + (2 ^ 32 - r)) % 2 ^ 32) 30 ∙ omega arith
