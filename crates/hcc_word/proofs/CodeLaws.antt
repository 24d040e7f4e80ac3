-- What a word that was found tells of the slot whose code it is: each test holds exactly where
-- the slot is so.
use Rattle.std.proofs.Common.{◌≡◌, ℕ, ◌+◌, ◌^◌, ◌<◌, Bool, true, false, arith, refl, nat_eq}
use Rattle.std.specs.Prelude.{nat_lt, nat_le, not, ◌==◌}
use Rattle.hcc_word.specs.declared.layout.TheConstants.{COUNTER_BITS, EMPTY, CONSTRUCTION}
use Rattle.hcc_word.specs.declared.layout.TheConstants.{INVISIBLE, VISIBLE, NEAR}
use Rattle.hcc_word.specs.Word.{acquires_of, releases_of, refs_of, hit_of, state_of, word_of}
use Rattle.hcc_word.specs.Word.{is_empty, is_visible, is_shareable, is_referenced, is_counting}
use Rattle.hcc_word.specs.Code.{code_of_empty, code_of_building, code_of_shareable, entry_state}
use Rattle.hcc_word.specs.Near.{IsNear}
use Rattle.hcc_word.proofs.FieldLaws.{acquires_of-word_of, releases_of-word_of, hit_of-word_of}
use Rattle.hcc_word.proofs.FieldLaws.{state_of-word_of}
use Rattle.hcc_word.proofs.NearLaws.{uses_and_refs_fit}

-- ---- an empty slot

module _ (strays : ℕ) (few : strays < 2 ^ COUNTER_BITS) where
  -- Each step that finds an empty slot cites that its code is a word.
  pub code_of_empty-lt : code_of_empty strays < 2 ^ 64
  unfolding code_of_empty
  code_of_empty-lt = omega arith

  -- Its state is Empty: what tells the phase that was found cites it, by the tests below.
  pub state_of-empty : state_of (code_of_empty strays) ≡ EMPTY
  unfolding state_of code_of_empty
  state_of-empty = omega arith

  -- The or of the occupied bit cites that it found an empty slot.
  pub is_empty-empty : is_empty (code_of_empty strays) ≡ true
  is_empty-empty = rw state_of-empty refl

  -- Loads and acquires cite that they did not find a visible entry.
  pub is_visible-empty : is_visible (code_of_empty strays) ≡ false
  is_visible-empty = rw state_of-empty refl

  -- Loads, acquires and the exchange to construction cite that they did not find an entry.
  pub is_shareable-empty : is_shareable (code_of_empty strays) ≡ false
  is_shareable-empty = rw state_of-empty refl

-- ---- a slot under construction

module _ (strays : ℕ) (few : strays < 2 ^ COUNTER_BITS) where
  -- Each step that finds a slot under construction cites that its code is a word.
  pub code_of_building-lt : code_of_building strays < 2 ^ 64
  unfolding code_of_building
  code_of_building-lt = omega arith

  -- Its state is Construction: what tells the phase that was found cites it, by the tests below.
  pub state_of-building : state_of (code_of_building strays) ≡ CONSTRUCTION
  unfolding state_of code_of_building
  state_of-building = omega arith

  -- The or of the occupied bit cites that it did not find an empty slot.
  pub is_empty-building : is_empty (code_of_building strays) ≡ false
  is_empty-building = rw state_of-building refl

  -- Loads and acquires cite that they did not find a visible entry.
  pub is_visible-building : is_visible (code_of_building strays) ≡ false
  is_visible-building = rw state_of-building refl

  -- Loads, acquires and the exchange to construction cite that they did not find an entry.
  pub is_shareable-building : is_shareable (code_of_building strays) ≡ false
  is_shareable-building = rw state_of-building refl

-- ---- a slot with an entry

-- The code is the word of its fields: the laws below and those of the steps stand on it.
pub code_of_shareable-word_of : (uses refs : ℕ) (hit visible : Bool)
    → code_of_shareable uses refs hit visible ≡ word_of (uses + refs) uses hit (entry_state visible)
unfolding code_of_shareable word_of
code_of_shareable-word_of uses refs hit visible = refl

module _ {most uses refs counting : ℕ} (hit visible : Bool)
    (near : IsNear most uses refs counting) where
  as_word : code_of_shareable uses refs hit visible
      ≡ word_of (uses + refs) uses hit (entry_state visible)
  as_word = code_of_shareable-word_of uses refs hit visible

  acquires_fit : uses + refs < 2 ^ COUNTER_BITS
  acquires_fit = uses_and_refs_fit near

  releases_fit : uses < 2 ^ COUNTER_BITS
  releases_fit = let fits = uses_and_refs_fit near in omega arith

  -- The correction's exchange cites the acquire counter.
  pub acquires_of-shareable : acquires_of (code_of_shareable uses refs hit visible) ≡ uses + refs
  acquires_of-shareable =
      rw as_word
      (acquires_of-word_of (uses + refs) uses hit (entry_state visible) acquires_fit releases_fit)

  -- The two exchanges cite the release counter, and acquires by `is_counting`.
  pub releases_of-shareable : releases_of (code_of_shareable uses refs hit visible) ≡ uses
  releases_of-shareable =
      rw as_word
      (releases_of-word_of (uses + refs) uses hit (entry_state visible) acquires_fit releases_fit)

  -- The two exchanges, and the step that frees, cite the hit bit.
  pub hit_of-shareable : hit_of (code_of_shareable uses refs hit visible) ≡ hit
  hit_of-shareable =
      rw as_word
      (hit_of-word_of (uses + refs) uses hit (entry_state visible) acquires_fit releases_fit)

  -- What tells the phase that was found cites the state, by the tests below.
  pub state_of-shareable : state_of (code_of_shareable uses refs hit visible) ≡ entry_state visible
  state_of-shareable =
      rw as_word
      (state_of-word_of (uses + refs) uses hit (entry_state visible) acquires_fit releases_fit)

  -- The exchange to construction and the clock's exchange cite the references.
  pub refs_of-shareable : refs_of (code_of_shareable uses refs hit visible) ≡ refs
  unfolding refs_of
  refs_of-shareable =
      let fits = acquires_fit in
      rw (acquires_of-shareable, releases_of-shareable) (omega arith)

  -- The or of the occupied bit cites that it did not find an empty slot.
  pub is_empty-shareable : is_empty (code_of_shareable uses refs hit visible) ≡ false
  is_empty-shareable =
      let at : Bool → Type 0 = λ v. nat_eq (entry_state v) EMPTY ≡ false in
      rw state_of-shareable (elim visible as at [ true ↦ refl | false ↦ refl ])

  -- Loads, acquires and the and that hides cite whether they found a visible entry.
  pub is_visible-shareable : is_visible (code_of_shareable uses refs hit visible) ≡ visible
  is_visible-shareable =
      let at : Bool → Type 0 = λ v. nat_eq (entry_state v) VISIBLE ≡ v in
      rw state_of-shareable (elim visible as at [ true ↦ refl | false ↦ refl ])

  -- Loads, acquires and the exchange to construction cite that they found an entry.
  pub is_shareable-shareable : is_shareable (code_of_shareable uses refs hit visible) ≡ true
  is_shareable-shareable =
      let at : Bool → Type 0 = λ v. nat_le INVISIBLE (entry_state v) ≡ true in
      rw state_of-shareable (elim visible as at [ true ↦ refl | false ↦ refl ])

  -- Loads and give-backs cite whether the slot is referenced.
  pub is_referenced-shareable : is_referenced (code_of_shareable uses refs hit visible)
      ≡ not (refs == 0)
  is_referenced-shareable = rw refs_of-shareable refl

  -- Acquires cite whether the references that they got are counting.
  pub is_counting-shareable : is_counting (code_of_shareable uses refs hit visible)
      ≡ nat_lt uses NEAR
  is_counting-shareable = rw releases_of-shareable refl
