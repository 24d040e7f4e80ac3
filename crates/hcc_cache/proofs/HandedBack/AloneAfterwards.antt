-- Standalone entries after a call.
use Rattle.std.proofs.Common.{◌≡◌, inl, inr, ℕ, ◌+◌, Some, None, subst, sym, refl, ap, ◌∙◌, arith}
use Rattle.std.proofs.lemmas.Bool.{cases_eq}
use Rattle.slab.specs.Slab.{get, slab_len, Updates}
use Rattle.hcc_cache.specs.declared.client.Client.{Client}
use Rattle.hcc_cache.specs.declared.holding.Alone.{Alone}
use Rattle.hcc_cache.specs.declared.holding.Value.{Value}
use Rattle.hcc_cache.specs.Alones.{AreAlone, MoreAlone}
use Rattle.hcc_cache.proofs.Basics.SlabSums.{len_updated, one_of}
use Rattle.hcc_cache.proofs.Handles.SameHolds.{freed_is, stood_there, written_is}

-- after two calls that left them
pub alone_then : {T : Type 0} (a b c : Client T) → AreAlone a b → AreAlone b c → AreAlone a c
alone_then a b c first next = record {
  most = next.most ∙ first.most;
  count = next.count ∙ first.count;
  each = λ index x there.
      let was = next.each index x there in
      let before = first.each index was.0 was.1 in
      (before.0, before.1, was.2 ∙ before.2);
}

module _ {T : Type 0} (old new : Client T) (most : new.most ≡ old.most) where
  -- none changed
  pub alone_same : new.alone ≡ old.alone → AreAlone old new
  alone_same same = record {
    most = most;
    count = ap slab_len same;
    each = λ index a there. (a, ap (λ s. get s index) (sym same) ∙ there, refl);
  }

  -- one did, and has its value
  pub alone_changed : (at : ℕ) (a b : Alone) → get old.alone at ≡ Some a → b.value ≡ a.value
      → Updates old.alone new.alone at (Some b) → AreAlone old new
  alone_changed at a b there same updates =
      let count = len_updated old.alone new.alone at (Some b) updates in
      let had : one_of (get old.alone at) ≡ 1 = ap one_of there in
      record {
        most = most;
        count = omega arith;
        each = λ p x is. elim (cases_eq p at) [
          | inl here ↦
              let it = written_is old.alone new.alone at b x p updates here is in
              (a, ap (get old.alone) here ∙ there, ap (λ (y : Alone). y.value) it ∙ same)
          | inr other ↦
              (x, stood_there old.alone new.alone at (Some b) x p updates other is, refl)
        ];
      }

  -- one came
  pub alone_more : (at : ℕ) (a : Alone) → get old.alone at ≡ None
      → Updates old.alone new.alone at (Some a) → (Is : Value → Type 0) → Is a.value
      → MoreAlone Is old new
  alone_more at a free updates Is made =
      let count = len_updated old.alone new.alone at (Some a) updates in
      let had : one_of (get old.alone at) ≡ 0 = ap one_of free in
      record {
        most = most;
        count = omega arith;
        each = λ p x is. elim (cases_eq p at) [
          | inl here ↦
              inr (subst (λ (y : Alone). Is y.value)
              (sym (written_is old.alone new.alone at a x p updates here is)) made)
          | inr other ↦
              inl (x, stood_there old.alone new.alone at (Some a) x p updates other is, refl)
        ];
      }

  -- one went
  pub alone_fewer : (at : ℕ) (a : Alone) → get old.alone at ≡ Some a
      → Updates old.alone new.alone at None
      → (slab_len new.alone + 1 ≡ slab_len old.alone)
      × ((p : ℕ) (x : Alone) → get new.alone p ≡ Some x → get old.alone p ≡ Some x)
  alone_fewer at a there updates =
      let count = len_updated old.alone new.alone at None updates in
      let had : one_of (get old.alone at) ≡ 1 = ap one_of there in (
        omega arith,
        λ p x is. elim (cases_eq p at) [
          | inl here ↦ absurd (freed_is old.alone new.alone at x p updates here is)
          | inr other ↦ stood_there old.alone new.alone at None x p updates other is
        ],
      )
