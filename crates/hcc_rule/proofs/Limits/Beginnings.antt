-- The words with which a shard begins, slot by slot.
use Rattle.std.proofs.Common.{◌≡◌, ℕ, ◌+◌, ◌<◌, ◌≢◌, inl, inr, true, false, List, Some, replicate, slice_get, slice_index, refl, ap, ◌∙◌, arith}
use Rattle.std.proofs.lemmas.List.{length-replicate}
use Rattle.hcc_core.specs.Opening.{new_slot}
use Rattle.hcc_word.specs.Code.{code_of_empty}
use Rattle.hcc_word.specs.Word.{word_of}
use Rattle.hcc_word.specs.declared.layout.TheConstants.{VISIBLE}
use Rattle.hcc_word.proofs.CodeLaws.{code_of_shareable-word_of}
use Rattle.hcc_rule.specs.declared.image.ImageEntry.{ImageEntry}
use Rattle.hcc_rule.specs.declared.layout.TheConstants.{META}
use Rattle.hcc_rule.specs.Images.{BeginsWith, resident_of, slots_with}
use Rattle.hcc_rule.specs.ImageLimits.{AreRising}
use Rattle.hcc_rule.specs.Words.{field_at, code_of}
use Rattle.hcc_rule.proofs.Basics.Lists.{there}
use Rattle.hcc_rule.proofs.Images.Fillings.{filled_length, filled_at, slot_with}

-- the word of an empty slot without strays is 0
empty_code : code_of new_slot ≡ 0
unfolding code_of_empty
empty_code = refl

module _ (size room : ℕ) (es : List ImageEntry) (words : List ℕ)
    (begins : BeginsWith size room es words) where
  -- an entry is Visible, with its uses, no references and no hit bit
  pub entry_shown : AreRising 0 size es → (number : ℕ) (e : ImageEntry)
      → slice_get es number ≡ Some e
      → slice_index words (field_at room e.slot META) ≡ word_of e.uses e.uses false VISIBLE
  entry_shown rising number e at =
      let here = filled_at size 0 0 es (replicate size new_slot) number e rising
      (length-replicate size new_slot) at in
      let same : 0 + number ≡ number = omega arith in
      begins.coded.meta e.slot (resident_of size number e)
      (here ∙ ap (λ m. Some (resident_of size m e)) same)
      ∙ (code_of_shareable-word_of e.uses 0 false true
      ∙ ap (λ n. word_of n e.uses false VISIBLE) (let g : e.uses + 0 ≡ e.uses = omega arith in g))

  -- the word of a slot of no entry is 0
  pub slot_cleared : (slot : ℕ) → slot < size
      → ((number : ℕ) (e : ImageEntry) → slice_get es number ≡ Some e → e.slot ≢ slot)
      → slice_index words (field_at room slot META) ≡ 0
  slot_cleared slot near nobody =
      let wide = filled_length size 0 es (replicate size new_slot)
      ∙ length-replicate size new_slot in
      let found = there (slots_with size es) slot (omega arith) in
      begins.coded.meta slot found.0 found.1 ∙ elim (slot_with size es slot found.0 found.1) [
        | inl empty ↦ ap code_of empty ∙ empty_code
        | inr placed ↦ absurd (nobody placed.number placed.entry placed.listed placed.here)
      ]
