-- The fields of a word.
use Rattle.std.proofs.Common.{◌≡◌, ℕ, zero, suc, ◌+◌, ◌*◌, ◌/◌, ◌%◌, ◌^◌, ◌<◌, ◌↔◌, Bool, true}
use Rattle.std.proofs.Common.{false, arith, refl, ap, nat_eq}
use Rattle.std.specs.Int.{from_bool}
use Rattle.hcc_word.specs.declared.layout.TheConstants.{COUNTER_BITS, HIT_PLACE, STATE_PLACE}
use Rattle.hcc_word.specs.Word.{acquires_of, releases_of, refs_of, hit_of, state_of, word_of}

-- ---- ranges

pub acquires_of-lt : (word : ℕ) → acquires_of word < 2 ^ COUNTER_BITS
unfolding acquires_of
acquires_of-lt word = omega arith

pub releases_of-lt : (word : ℕ) → releases_of word < 2 ^ COUNTER_BITS
unfolding releases_of
releases_of-lt word = omega arith

pub refs_of-lt : (word : ℕ) → refs_of word < 2 ^ COUNTER_BITS
unfolding refs_of
refs_of-lt word = omega arith

pub state_of-lt : (word : ℕ) → word < 2 ^ 64 → state_of word < 8
unfolding state_of
state_of-lt word fits = omega arith

-- no references are counted exactly where both counters are equal: they are the countdown
pub refs_of-zero : (word : ℕ) → (refs_of word ≡ 0) ↔ (acquires_of word ≡ releases_of word)
unfolding refs_of
refs_of-zero word =
    let a : acquires_of word < 2 ^ COUNTER_BITS = acquires_of-lt word in
    let r : releases_of word < 2 ^ COUNTER_BITS = releases_of-lt word in
    ((λ none. omega arith), (λ same. omega arith))

-- ---- the fields of the word that is made of them

module _ (acquires releases : ℕ) (hit : Bool) (state : ℕ)
    (acquires_fit : acquires < 2 ^ COUNTER_BITS) (releases_fit : releases < 2 ^ COUNTER_BITS) where
  pub acquires_of-word_of : acquires_of (word_of acquires releases hit state) ≡ acquires
  unfolding acquires_of word_of
  acquires_of-word_of = let h : ℕ = from_bool hit in omega arith

  pub releases_of-word_of : releases_of (word_of acquires releases hit state) ≡ releases
  unfolding releases_of word_of
  releases_of-word_of = let h : ℕ = from_bool hit in omega arith

  pub hit_of-word_of : hit_of (word_of acquires releases hit state) ≡ hit
  unfolding hit_of word_of
  hit_of-word_of = by_hit hit
    where
      by_hit : (h : Bool) → nat_eq ((acquires + releases * 2 ^ COUNTER_BITS
          + from_bool h * 2 ^ HIT_PLACE + state * 2 ^ STATE_PLACE) / 2 ^ HIT_PLACE % 2) 1 ≡ h
      by_hit true =
          let set : (acquires + releases * 2 ^ COUNTER_BITS + 2 ^ HIT_PLACE
          + state * 2 ^ STATE_PLACE) / 2 ^ HIT_PLACE % 2 ≡ 1 = omega arith in
          ap (λ (x : ℕ). nat_eq x 1) set
      by_hit false =
          let clear : (acquires + releases * 2 ^ COUNTER_BITS + 0
          + state * 2 ^ STATE_PLACE) / 2 ^ HIT_PLACE % 2 ≡ 0 = omega arith in
          ap (λ (x : ℕ). nat_eq x 1) clear

  pub state_of-word_of : state_of (word_of acquires releases hit state) ≡ state
  unfolding state_of word_of
  state_of-word_of = by_hit hit
    where
      by_hit : (h : Bool) → (acquires + releases * 2 ^ COUNTER_BITS + from_bool h * 2 ^ HIT_PLACE
          + state * 2 ^ STATE_PLACE) / 2 ^ STATE_PLACE ≡ state
      by_hit true = omega arith
      by_hit false = omega arith

bit_from_test : (bit : ℕ) → bit < 2 → from_bool (nat_eq bit 1) ≡ bit
bit_from_test zero low = refl
bit_from_test (suc zero) low = refl
bit_from_test (suc (suc more)) low = absurd (omega arith)

-- a word is the word of its fields: what a step changes of one field leaves the others alone
pub word_of-fields : (word : ℕ)
    → word_of (acquires_of word) (releases_of word) (hit_of word) (state_of word) ≡ word
unfolding acquires_of releases_of hit_of state_of word_of
word_of-fields word =
    let bit : ℕ = word / 2 ^ HIT_PLACE % 2 in
    let low : bit < 2 = omega arith in
    let tested : ℕ = from_bool (nat_eq bit 1) in
    let same : tested ≡ bit = bit_from_test bit low in
    omega arith
