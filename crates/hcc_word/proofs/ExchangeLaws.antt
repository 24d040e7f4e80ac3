-- What the clock's exchange and a correction's make of the code of a slot.
use Rattle.std.proofs.Common.{◌≡◌, ℕ, ◌+◌, ◌-◌, ◌^◌, ◌<◌, ◌≤◌, ◌↔◌, Bool, true, false, arith, sym}
use Rattle.std.proofs.Common.{refl, ap, ◌∙◌, add-zero}
use Rattle.hcc_word.specs.declared.layout.TheConstants.{COUNTER_BITS, CONSTRUCTION, CORRECTION}
use Rattle.hcc_word.specs.declared.layout.TheConstants.{EMPTY, NEAR, VISIBLE}
use Rattle.hcc_word.specs.Word.{state_of, word_of}
use Rattle.hcc_word.specs.Code.{code_of_empty, code_of_building, code_of_shareable, entry_state}
use Rattle.hcc_word.specs.Near.{IsNear}
use Rattle.hcc_word.specs.Changes.{IsClockable, IsCorrectable, clocked_countdown, clocked_word}
use Rattle.hcc_word.specs.Changes.{corrected_word}
use Rattle.hcc_word.proofs.CodeLaws.{code_of_shareable-word_of, state_of-empty, state_of-building}
use Rattle.hcc_word.proofs.CodeLaws.{acquires_of-shareable, releases_of-shareable}
use Rattle.hcc_word.proofs.CodeLaws.{refs_of-shareable, hit_of-shareable, state_of-shareable}

-- ---- the clock's exchange

-- The clock counts no empty slot.
pub IsClockable-empty : (strays : ℕ) → strays < 2 ^ COUNTER_BITS
    → IsClockable (code_of_empty strays) → ⊥
IsClockable-empty strays few clockable =
    let state : state_of (code_of_empty strays) ≡ EMPTY = state_of-empty strays few in
    let visible : state_of (code_of_empty strays) ≡ VISIBLE = clockable.visible in
    omega arith

-- The clock counts no slot under construction.
pub IsClockable-building : (strays : ℕ) → strays < 2 ^ COUNTER_BITS
    → IsClockable (code_of_building strays) → ⊥
IsClockable-building strays few clockable =
    let state : state_of (code_of_building strays) ≡ CONSTRUCTION = state_of-building strays few in
    let visible : state_of (code_of_building strays) ≡ VISIBLE = clockable.visible in
    omega arith

visible_state : (visible : Bool) → entry_state visible ≡ VISIBLE → visible ≡ true
visible_state true same = refl
visible_state false same = absurd (omega arith)

module _ {most uses refs counting : ℕ} (hit visible : Bool)
    (near : IsNear most uses refs counting) where
  -- The clock counts a slot with an entry exactly where it is visible, unreferenced and has uses.
  pub IsClockable-shareable : IsClockable (code_of_shareable uses refs hit visible)
      ↔ ((visible ≡ true) × (refs ≡ 0) × (0 < uses))
  IsClockable-shareable = (forth, back)
    where
      forth : IsClockable (code_of_shareable uses refs hit visible)
          → (visible ≡ true) × (refs ≡ 0) × (0 < uses)
      forth c =
          let state = state_of-shareable hit visible near in
          let is_visible = visible_state visible (sym state ∙ c.visible) in
          let no_refs = sym (refs_of-shareable hit visible near) ∙ c.unreferenced in
          let some_uses = rw (releases_of-shareable hit visible near) at c.counted in
          (is_visible, no_refs, some_uses)

      back : (visible ≡ true) × (refs ≡ 0) × (0 < uses)
          → IsClockable (code_of_shareable uses refs hit visible)
      back (is_visible, no_refs, some_uses) = record {
        visible = state_of-shareable hit visible near ∙ ap entry_state is_visible;
        unreferenced = refs_of-shareable hit visible near ∙ no_refs;
        counted = rw (releases_of-shareable hit visible near) some_uses;
      }

  -- The clock's exchange that wins: it leaves its countdown as uses, and keeps the hit bit.
  pub clocked_word-shareable : clocked_word (code_of_shareable uses refs hit visible)
      ≡ code_of_shareable (clocked_countdown uses) 0 hit true
  clocked_word-shareable =
      let count = releases_of-shareable hit visible near in
      let bit = hit_of-shareable hit visible near in
      let left : ℕ = clocked_countdown uses in
      rw (count, bit)
      (ap (λ (acquires : ℕ). word_of acquires left hit VISIBLE) (sym (add-zero left))
      ∙ sym (code_of_shareable-word_of left 0 hit true))

  -- A correction is made at a slot with an entry exactly where its uses are at NEAR or above.
  pub IsCorrectable-shareable : IsCorrectable (code_of_shareable uses refs hit visible)
      ↔ (NEAR ≤ uses)
  IsCorrectable-shareable =
      let acquired = acquires_of-shareable hit visible near in
      let count = releases_of-shareable hit visible near in (
        (λ (c : IsCorrectable (code_of_shareable uses refs hit visible)). rw count at c.near),
        (λ (h : NEAR ≤ uses). record { near = rw count h; enough = rw acquired (omega arith) }),
      )

  -- The correction's exchange that wins: the uses are 2^29 fewer, and nothing else changes.
  pub corrected_word-shareable : NEAR ≤ uses
      → corrected_word (code_of_shareable uses refs hit visible)
      ≡ code_of_shareable (uses - CORRECTION) refs hit visible
  corrected_word-shareable high =
      let acquired = acquires_of-shareable hit visible near in
      let count = releases_of-shareable hit visible near in
      let bit = hit_of-shareable hit visible near in
      let state = state_of-shareable hit visible near in
      let fewer : ℕ = uses - CORRECTION in
      let sum : uses + refs - CORRECTION ≡ fewer + refs = omega arith in
      rw (acquired, count, bit, state)
      (ap (λ (acquires : ℕ). word_of acquires fewer hit (entry_state visible)) sum
      ∙ sym (code_of_shareable-word_of fewer refs hit visible))
