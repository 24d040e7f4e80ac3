-- What each kind of step makes of the code of a slot.
use Rattle.std.proofs.Common.{◌≡◌, ℕ, ◌+◌, ◌-◌, ◌*◌, ◌%◌, ◌^◌, ◌<◌, ◌≤◌, Bool, true, false, arith}
use Rattle.std.proofs.Common.{refl, sym, ap, ◌∙◌, bit_or, bit_and}
use Rattle.std.specs.Int.{from_bool}
use Rattle.hcc_word.specs.declared.layout.TheConstants.{COUNTER_BITS, ONE_RELEASE, HIT_BIT}
use Rattle.hcc_word.specs.declared.layout.TheConstants.{OCCUPIED_BIT, HIDING_MASK, CONSTRUCTION}
use Rattle.hcc_word.specs.declared.layout.TheConstants.{CONSTRUCTION_WORD, EMPTY_WORD, VISIBLE}
use Rattle.hcc_word.specs.Word.{word_of}
use Rattle.hcc_word.specs.Code.{code_of_empty, code_of_building, code_of_shareable, entry_state}
use Rattle.hcc_word.specs.Near.{IsNear}
use Rattle.hcc_word.proofs.Bits.{from_bool-le, or-occupied_bit_low, or-occupied_bit_high}
use Rattle.hcc_word.proofs.WordLaws.{word_of-lt, add_acquires-word_of, take_acquires-word_of}
use Rattle.hcc_word.proofs.WordLaws.{add_releases-word_of, or_occupied-word_of, and_hide-word_of}
use Rattle.hcc_word.proofs.WordLaws.{or_hit-word_of}
use Rattle.hcc_word.proofs.CodeLaws.{code_of_shareable-word_of}
use Rattle.hcc_word.proofs.NearLaws.{uses_and_refs_fit}

-- ---- the steps at an empty slot, and at one under construction

module _ (strays : ℕ) where
  -- An acquire of n that finds an empty slot: the acquires stray there.
  pub add_acquires-empty : (n : ℕ) → strays + n < 2 ^ COUNTER_BITS
      → (code_of_empty strays + n) % 2 ^ 64 ≡ code_of_empty (strays + n)
  unfolding code_of_empty
  add_acquires-empty n few = omega arith

  -- An acquire of n that finds a slot under construction: the acquires stray there.
  pub add_acquires-building : (n : ℕ) → strays + n < 2 ^ COUNTER_BITS
      → (code_of_building strays + n) % 2 ^ 64 ≡ code_of_building (strays + n)
  unfolding code_of_building
  add_acquires-building n few = omega arith

  -- The or of the occupied bit at an empty slot: it is under construction, and keeps its strays.
  pub or_occupied-empty : strays < 2 ^ COUNTER_BITS
      → bit_or (code_of_empty strays) OCCUPIED_BIT ≡ code_of_building strays
  unfolding code_of_empty code_of_building
  or_occupied-empty few = or-occupied_bit_low strays (omega arith)

  -- The or of the occupied bit at a slot under construction: nothing changes.
  pub or_occupied-building : strays < 2 ^ COUNTER_BITS
      → bit_or (code_of_building strays) OCCUPIED_BIT ≡ code_of_building strays
  unfolding code_of_building
  or_occupied-building few =
      or-occupied_bit_high (strays + OCCUPIED_BIT) (omega arith) (omega arith)

-- ---- the steps at a slot with an entry

entry_state-lt : (visible : Bool) → entry_state visible < 8
entry_state-lt true = omega arith
entry_state-lt false = omega arith

entry_state-occupied : (visible : Bool) → CONSTRUCTION ≤ entry_state visible
entry_state-occupied true = omega arith
entry_state-occupied false = omega arith

entry_state-hidden : (visible : Bool) → bit_and (entry_state visible) 6 ≡ entry_state false
entry_state-hidden true = refl
entry_state-hidden false = refl

module _ {most uses refs counting : ℕ} (hit visible : Bool)
    (near : IsNear most uses refs counting) where
  as_word : code_of_shareable uses refs hit visible
      ≡ word_of (uses + refs) uses hit (entry_state visible)
  as_word = code_of_shareable-word_of uses refs hit visible

  acquires_fit : uses + refs < 2 ^ COUNTER_BITS
  acquires_fit = uses_and_refs_fit near

  releases_fit : uses < 2 ^ COUNTER_BITS
  releases_fit = let fits = uses_and_refs_fit near in omega arith

  -- Any step: the code is a word.
  pub code_of_shareable-lt : code_of_shareable uses refs hit visible < 2 ^ 64
  code_of_shareable-lt =
      rw as_word (word_of-lt (uses + refs) uses hit (entry_state visible)
      acquires_fit releases_fit (entry_state-lt visible))

  -- An acquire of n: there are n references more.
  pub add_acquires-shareable : (n after : ℕ) → after ≡ refs + n → after ≤ most
      → (code_of_shareable uses refs hit visible + n) % 2 ^ 64
      ≡ code_of_shareable uses after hit visible
  add_acquires-shareable n after sum few =
      let fits : uses + refs + n < 2 ^ COUNTER_BITS = omega arith in
      let acquires : uses + refs + n ≡ uses + after = omega arith in
      rw as_word (add_acquires-word_of (uses + refs) uses hit (entry_state visible)
      acquires_fit releases_fit (entry_state-lt visible) n fits)
      ∙ (ap (λ (a : ℕ). word_of a uses hit (entry_state visible)) acquires
      ∙ sym (code_of_shareable-word_of uses after hit visible))

  -- A give-back of n references that are there: they go.
  pub take_acquires-shareable : (n left : ℕ) → left + n ≡ refs
      → (code_of_shareable uses refs hit visible + (2 ^ 64 - n)) % 2 ^ 64
      ≡ code_of_shareable uses left hit visible
  take_acquires-shareable n left there =
      let acquires : uses + left + n ≡ uses + refs = omega arith in
      rw as_word (take_acquires-word_of (uses + refs) uses hit (entry_state visible)
      acquires_fit releases_fit (entry_state-lt visible) n (uses + left) acquires)
      ∙ sym (code_of_shareable-word_of uses left hit visible)

  -- A useful release of n counting references: they become uses.
  pub add_releases-shareable : (n left : ℕ) → left + n ≡ refs → n ≤ counting
      → (code_of_shareable uses refs hit visible + n * ONE_RELEASE) % 2 ^ 64
      ≡ code_of_shareable (uses + n) left hit visible
  add_releases-shareable n left there counted =
      let fits : uses + n < 2 ^ COUNTER_BITS = omega arith in
      let acquires : uses + refs ≡ uses + n + left = omega arith in
      rw as_word (add_releases-word_of (uses + refs) uses hit (entry_state visible)
      acquires_fit releases_fit (entry_state-lt visible) n fits)
      ∙ (ap (λ (a : ℕ). word_of a (uses + n) hit (entry_state visible)) acquires
      ∙ sym (code_of_shareable-word_of (uses + n) left hit visible))

  -- The or of the occupied bit: nothing changes.
  pub or_occupied-shareable :
      bit_or (code_of_shareable uses refs hit visible) OCCUPIED_BIT
      ≡ code_of_shareable uses refs hit visible
  or_occupied-shareable =
      rw as_word (or_occupied-word_of (uses + refs) uses hit (entry_state visible)
      acquires_fit releases_fit (entry_state-lt visible) (entry_state-occupied visible))

  -- The and that hides: the entry is invisible, whether or not it was.
  pub and_hide-shareable :
      bit_and (code_of_shareable uses refs hit visible) HIDING_MASK
      ≡ code_of_shareable uses refs hit false
  and_hide-shareable =
      rw as_word (and_hide-word_of (uses + refs) uses hit (entry_state visible)
      acquires_fit releases_fit (entry_state-lt visible))
      ∙ (ap (λ (state : ℕ). word_of (uses + refs) uses hit state) (entry_state-hidden visible)
      ∙ sym (code_of_shareable-word_of uses refs hit false))

  -- The or of the hit bit: the entry is marked, whether or not it was.
  pub or_hit-shareable :
      bit_or (code_of_shareable uses refs hit visible) HIT_BIT
      ≡ code_of_shareable uses refs true visible
  or_hit-shareable =
      rw as_word (or_hit-word_of (uses + refs) uses hit (entry_state visible)
      acquires_fit releases_fit (entry_state-lt visible))
      ∙ sym (code_of_shareable-word_of uses refs true visible)

-- ---- the stores, and the exchange to construction

-- The exchange to construction: its word is that of a slot under construction with no strays.
pub exchange_to_construction : CONSTRUCTION_WORD ≡ code_of_building 0
unfolding code_of_building
exchange_to_construction = refl

-- The store that empties a slot: its word is that of an empty slot with no strays.
pub store_empty : EMPTY_WORD ≡ code_of_empty 0
unfolding code_of_empty
store_empty = refl

-- The store that shows an entry: its word is that of a visible slot with these uses, and its
-- maker's reference or none.
pub store_visible : (countdown : ℕ) (keep : Bool) → 0 < countdown
    → word_of countdown (countdown - from_bool keep) false VISIBLE
    ≡ code_of_shareable (countdown - from_bool keep) (from_bool keep) false true
store_visible countdown keep some =
    let uses : ℕ = countdown - from_bool keep in
    let kept : ℕ = from_bool keep in
    let kept_low : kept ≤ 1 = from_bool-le keep in
    let sum : countdown ≡ uses + kept = omega arith in
    ap (λ (acquires : ℕ). word_of acquires uses false VISIBLE) sum
    ∙ sym (code_of_shareable-word_of uses kept false true)
