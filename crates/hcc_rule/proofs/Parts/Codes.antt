-- What the meta words of a lawful world tell: strays are few, and counters stay in their fields.
use Rattle.std.proofs.Common.{◌≡◌, ℕ, ◌+◌, ◌^◌, ◌<◌, ◌≤◌, Bool, true, false, List, Some, slice_get, ap, ◌∙◌, arith}
use Rattle.hcc_word.specs.Word.{is_shareable, is_visible}
use Rattle.hcc_word.specs.Near.{IsNear}
use Rattle.hcc_word.proofs.CodeLaws.{is_shareable-empty, is_shareable-building, is_shareable-shareable, is_visible-shareable, is_empty-empty, is_empty-building, is_empty-shareable}
use Rattle.hcc_core.specs.declared.limits.TheConstants.{MOST_REFERENCES}
use Rattle.hcc_core.specs.declared.slot.Reference.{Reference}
use Rattle.hcc_core.specs.declared.slot.Resident.{Resident}
use Rattle.hcc_core.specs.declared.slot.Slot.{Slot}
use Rattle.hcc_core.specs.declared.slot.Slot.TheVariants as slots
use Rattle.hcc_core.specs.Sums.{when}
use Rattle.hcc_core.specs.World.{State, phase_if, phase_of, strays_of, weight, counted, is_shareable as has_entry}
use Rattle.hcc_core.specs.Lawful.{Lawful}
use Rattle.hcc_core.proofs.SumLemmas.{total-le}
use Rattle.hcc_rule.specs.Words.{code_of}
use Rattle.hcc_rule.specs.Events.{phase_in}
use Rattle.hcc_core.specs.declared.event.Phase.{Phase}
use Rattle.hcc_core.specs.declared.event.Phase.TheVariants as phases
use Rattle.std.specs.Prelude.{if◌then◌else◌}

pub when_le : (b : Bool) (n : ℕ) → when b n ≤ n
when_le true n = omega arith
when_le false n = omega arith

-- the references that count are references
counted_few : (ks : List Reference) → counted ks ≤ weight ks
counted_few ks = total-le (λ (k : Reference). when k.counting k.weight)
    (λ (k : Reference). k.weight) ks (λ i k at. when_le k.counting k.weight)

-- what a slot is, by three tests of its word
abbrev phase_by : (empty entry visible : Bool) → Phase
phase_by empty entry visible =
    if empty then phases.Empty else if entry then phase_if visible else phases.Building

module _ (w : State) (l : Lawful w) (i : ℕ) where
  -- strays stay far below a counter's end
  pub few_strays : (slot : Slot) → slice_get w.slots i ≡ Some slot → strays_of slot + 3 < 2 ^ 30
  few_strays slot at =
      let few = l.strayed i slot at in
      let clients = l.sized.few_clients in
      omega arith

  -- an entry's counters are near
  pub is_near : (r : Resident) → slice_get w.slots i ≡ Some (slots.Shareable r)
      → IsNear MOST_REFERENCES r.uses (weight r.references) (counted r.references)
  is_near r at =
      let bound = l.bounded i (slots.Shareable r) at in
      let refs = bound.references in
      let uses = bound.uses in
      let clients = l.sized.few_clients in
      let few : weight r.references ≤ MOST_REFERENCES = omega arith in
      let counting = counted_few r.references in
      record {
        few_refs = few;
        counting_are_refs = counting;
        near_uses = omega arith;
        room = omega arith;
      }

  -- a word tells whether its slot has an entry
  pub tells_entry : (slot : Slot) → slice_get w.slots i ≡ Some slot
      → is_shareable (code_of slot) ≡ has_entry slot
  tells_entry (slots.Empty strays) at = let few =
      few_strays (slots.Empty strays) at in is_shareable-empty strays (omega arith)
  tells_entry (slots.Building client strays) at = let few =
      few_strays (slots.Building client strays) at in is_shareable-building strays (omega arith)
  tells_entry (slots.Shareable r) at = is_shareable-shareable r.hit r.shown (is_near r at)

  -- and whether look-ups find it
  pub tells_shown : (r : Resident) → slice_get w.slots i ≡ Some (slots.Shareable r)
      → is_visible (code_of (slots.Shareable r)) ≡ r.shown
  tells_shown r at = is_visible-shareable r.hit r.shown (is_near r at)

  -- and what its slot is
  pub tells_phase : (slot : Slot) → slice_get w.slots i ≡ Some slot
      → phase_in (code_of slot) ≡ phase_of slot
  tells_phase (slots.Empty strays) at =
      let few = few_strays (slots.Empty strays) at in
      let word : ℕ = code_of (slots.Empty strays) in
      ap (λ b. phase_by b (is_shareable word) (is_visible word))
      (is_empty-empty strays (omega arith))
  tells_phase (slots.Building client strays) at =
      let few = few_strays (slots.Building client strays) at in
      let word : ℕ = code_of (slots.Building client strays) in
      ap (λ b. phase_by b (is_shareable word) (is_visible word))
      (is_empty-building strays (omega arith))
      ∙ ap (λ b. phase_by false b (is_visible word))
      (tells_entry (slots.Building client strays) at)
  tells_phase (slots.Shareable r) at =
      let word : ℕ = code_of (slots.Shareable r) in
      ap (λ b. phase_by b (is_shareable word) (is_visible word))
      (is_empty-shareable r.hit r.shown (is_near r at))
      ∙ (ap (λ b. phase_by false b (is_visible word)) (tells_entry (slots.Shareable r) at)
      ∙ ap (λ b. phase_by false true b) (tells_shown r at))
