-- What an add, a take or a bit operation makes of a word: one field is changed, and no other.
use Rattle.std.proofs.Common.{◌≡◌, ℕ, ◌+◌, ◌-◌, ◌*◌, ◌%◌, ◌^◌, ◌<◌, ◌≤◌, Bool, true, arith, ap, ◌∙◌}
use Rattle.std.proofs.Common.{sym, bit_or, bit_and}
use Rattle.std.specs.Int.{from_bool}
use Rattle.hcc_word.specs.declared.layout.TheConstants.{COUNTER_BITS, HIT_PLACE, STATE_PLACE}
use Rattle.hcc_word.specs.declared.layout.TheConstants.{ONE_RELEASE, HIT_BIT, OCCUPIED_BIT}
use Rattle.hcc_word.specs.declared.layout.TheConstants.{HIDING_MASK, CONSTRUCTION}
use Rattle.hcc_word.specs.Word.{acquires_of, releases_of, hit_of, state_of, word_of}
use Rattle.hcc_word.specs.Changes.{SetsAcquires, SetsReleases}
use Rattle.hcc_word.proofs.Bits.{from_bool-le, or-occupied_bit_high, and-not_visible_bit}
use Rattle.hcc_word.proofs.Bits.{or-hit_bit}
use Rattle.hcc_word.proofs.FieldLaws.{acquires_of-lt, releases_of-lt, state_of-lt}
use Rattle.hcc_word.proofs.FieldLaws.{acquires_of-word_of, releases_of-word_of, hit_of-word_of}
use Rattle.hcc_word.proofs.FieldLaws.{state_of-word_of, word_of-fields}

-- ---- the word of four fields

module _ (acquires releases : ℕ) (hit : Bool) (state : ℕ)
    (acquires_fit : acquires < 2 ^ COUNTER_BITS) (releases_fit : releases < 2 ^ COUNTER_BITS)
    (state_fits : state < 8) where
  -- a word is below 2^64
  pub word_of-lt : word_of acquires releases hit state < 2 ^ 64
  unfolding word_of
  word_of-lt =
      let h : ℕ = from_bool hit in
      let h_low : h ≤ 1 = from_bool-le hit in
      omega arith

  -- an add of n that stays within the acquire counter
  pub add_acquires-word_of : (n : ℕ) → acquires + n < 2 ^ COUNTER_BITS
      → (word_of acquires releases hit state + n) % 2 ^ 64
      ≡ word_of (acquires + n) releases hit state
  unfolding word_of
  add_acquires-word_of n fits =
      let h : ℕ = from_bool hit in
      let h_low : h ≤ 1 = from_bool-le hit in
      omega arith

  -- a take of n that are there from the acquire counter
  pub take_acquires-word_of : (n left : ℕ) → left + n ≡ acquires
      → (word_of acquires releases hit state + (2 ^ 64 - n)) % 2 ^ 64
      ≡ word_of left releases hit state
  unfolding word_of
  take_acquires-word_of n left there =
      let h : ℕ = from_bool hit in
      let h_low : h ≤ 1 = from_bool-le hit in
      omega arith

  -- an add of n that stays within the release counter
  pub add_releases-word_of : (n : ℕ) → releases + n < 2 ^ COUNTER_BITS
      → (word_of acquires releases hit state + n * ONE_RELEASE) % 2 ^ 64
      ≡ word_of acquires (releases + n) hit state
  unfolding word_of
  add_releases-word_of n fits =
      let h : ℕ = from_bool hit in
      let h_low : h ≤ 1 = from_bool-le hit in
      omega arith

  -- an or of the occupied bit, where the state has it
  pub or_occupied-word_of : CONSTRUCTION ≤ state
      → bit_or (word_of acquires releases hit state) OCCUPIED_BIT
      ≡ word_of acquires releases hit state
  unfolding word_of
  or_occupied-word_of occupied =
      let h : ℕ = from_bool hit in
      let rest : ℕ = acquires + releases * 2 ^ COUNTER_BITS + h * 2 ^ HIT_PLACE in
      let high : OCCUPIED_BIT ≤ rest + state * 2 ^ STATE_PLACE = omega arith in
      or-occupied_bit_high (word_of acquires releases hit state) high word_of-lt

  -- an and that hides: the state loses its visible bit
  pub and_hide-word_of : bit_and (word_of acquires releases hit state) HIDING_MASK
      ≡ word_of acquires releases hit (bit_and state 6)
  unfolding word_of
  and_hide-word_of =
      let h : ℕ = from_bool hit in
      let h_low : h ≤ 1 = from_bool-le hit in
      let rest : ℕ = acquires + releases * 2 ^ COUNTER_BITS + h * 2 ^ HIT_PLACE in
      let turned : rest + state * 2 ^ STATE_PLACE ≡ state * 2 ^ STATE_PLACE + rest = omega arith in
      let cleared = and-not_visible_bit state rest (omega arith) in
      let left : ℕ = bit_and state 6 in
      let back : left * 2 ^ STATE_PLACE + rest ≡ rest + left * 2 ^ STATE_PLACE = omega arith in
      ap (λ (x : ℕ). bit_and x HIDING_MASK) turned ∙ (cleared ∙ back)

  -- an or of the hit bit
  pub or_hit-word_of : bit_or (word_of acquires releases hit state) HIT_BIT
      ≡ word_of acquires releases true state
  unfolding word_of
  or_hit-word_of =
      let h : ℕ = from_bool hit in
      let h_low : h ≤ 1 = from_bool-le hit in
      let rest : ℕ = acquires + releases * 2 ^ COUNTER_BITS in
      let turned : rest + h * 2 ^ HIT_PLACE + state * 2 ^ STATE_PLACE
      ≡ (state * 2 + h) * 2 ^ HIT_PLACE + rest =
      omega arith in
      let set = or-hit_bit state hit rest (omega arith) in
      let back : (state * 2 + 1) * 2 ^ HIT_PLACE + rest
      ≡ rest + 2 ^ HIT_PLACE + state * 2 ^ STATE_PLACE =
      omega arith in
      ap (λ (x : ℕ). bit_or x HIT_BIT) turned ∙ (set ∙ back)

-- ---- any word

SetsAcquires-word_of : (word acquires : ℕ) → acquires < 2 ^ COUNTER_BITS
    → SetsAcquires word (word_of acquires (releases_of word) (hit_of word) (state_of word)) acquires
SetsAcquires-word_of word acquires fits =
    let r = releases_of word in
    let h = hit_of word in
    let s = state_of word in
    let r_fits = releases_of-lt word in
    record {
      changed = acquires_of-word_of acquires r h s fits r_fits;
      releases = releases_of-word_of acquires r h s fits r_fits;
      hit = hit_of-word_of acquires r h s fits r_fits;
      state = state_of-word_of acquires r h s fits r_fits;
    }

SetsReleases-word_of : (word releases : ℕ) → releases < 2 ^ COUNTER_BITS
    → SetsReleases word (word_of (acquires_of word) releases (hit_of word) (state_of word)) releases
SetsReleases-word_of word releases fits =
    let a = acquires_of word in
    let h = hit_of word in
    let s = state_of word in
    let a_fits = acquires_of-lt word in
    record {
      changed = releases_of-word_of a releases h s a_fits fits;
      acquires = acquires_of-word_of a releases h s a_fits fits;
      hit = hit_of-word_of a releases h s a_fits fits;
      state = state_of-word_of a releases h s a_fits fits;
    }

module _ (word n : ℕ) (fits : word < 2 ^ 64) where
  -- An acquire of n within its counter carries into no other field.
  pub SetsAcquires-add : acquires_of word + n < 2 ^ COUNTER_BITS
      → SetsAcquires word ((word + n) % 2 ^ 64) (acquires_of word + n)
  SetsAcquires-add within =
      let a = acquires_of word in
      let r = releases_of word in
      let h = hit_of word in
      let s = state_of word in
      let sum = add_acquires-word_of a r h s (acquires_of-lt word) (releases_of-lt word)
      (state_of-lt word fits) n within in
      let is : (word + n) % 2 ^ 64 ≡ word_of (a + n) r h s =
      ap (λ (x : ℕ). (x + n) % 2 ^ 64) (sym (word_of-fields word)) ∙ sum in
      rw is (SetsAcquires-word_of word (a + n) within)

  -- A give-back of n that are there borrows from no other field.
  pub SetsAcquires-take : n ≤ acquires_of word
      → SetsAcquires word ((word + (2 ^ 64 - n)) % 2 ^ 64) (acquires_of word - n)
  SetsAcquires-take there =
      let a = acquires_of word in
      let r = releases_of word in
      let h = hit_of word in
      let s = state_of word in
      let a_fits = acquires_of-lt word in
      let left_and_n : a - n + n ≡ a = omega arith in
      let rest = take_acquires-word_of a r h s a_fits (releases_of-lt word)
      (state_of-lt word fits) n (a - n) left_and_n in
      let is : (word + (2 ^ 64 - n)) % 2 ^ 64 ≡ word_of (a - n) r h s =
      ap (λ (x : ℕ). (x + (2 ^ 64 - n)) % 2 ^ 64) (sym (word_of-fields word)) ∙ rest in
      rw is (SetsAcquires-word_of word (a - n) (omega arith))

  -- A release of n within its counter carries into no other field.
  pub SetsReleases-add : releases_of word + n < 2 ^ COUNTER_BITS
      → SetsReleases word ((word + n * ONE_RELEASE) % 2 ^ 64) (releases_of word + n)
  SetsReleases-add within =
      let a = acquires_of word in
      let r = releases_of word in
      let h = hit_of word in
      let s = state_of word in
      let sum = add_releases-word_of a r h s (acquires_of-lt word) (releases_of-lt word)
      (state_of-lt word fits) n within in
      let is : (word + n * ONE_RELEASE) % 2 ^ 64 ≡ word_of a (r + n) h s =
      ap (λ (x : ℕ). (x + n * ONE_RELEASE) % 2 ^ 64) (sym (word_of-fields word)) ∙ sum in
      rw is (SetsReleases-word_of word (r + n) within)
