-- The least number of what has some, such as a client with handles, once one more is looked at.
use Rattle.std.proofs.Common.{◌≡◌, inl, inr, ℕ, zero, suc, ◌<◌, ◌≤◌, min, List, [], ◌∷◌, ◌++◌, Option, Some, None, IfSome, IfNone, length, slice_get, sym, refl, ap, ◌∙◌, arith}
use Rattle.std.proofs.lemmas.Bool.{cases_lt}
use Rattle.hcc_core.proofs.ListLemmas.{read_last}
use Rattle.hcc_rule.proofs.Entries.ShowParts.{get_front}
use Rattle.hcc_cache.specs.Closings.{IsLeastOf, NoneHas, with_holder}
use Rattle.hcc_cache.proofs.Basics.Lists.{get_push}

module _ {X : Type 0} (many number : X → ℕ) where
  -- The least number so far is the least of all, where the other holds none or has a greater one.
  still_least : (xs : List X) (c : X) (m : ℕ) → IsLeastOf many number xs m
      → (0 < many c → m ≤ number c) → IsLeastOf many number (xs ++ c ∷ []) m
  still_least xs c m h other = record {
    index = h.index;
    holder = h.holder;
    there = get_front xs (c ∷ []) h.index h.holder h.there;
    holds = h.holds;
    called = h.called;
    least = λ k client at holds. elim (get_push xs c client k at) [
      | inl old ↦ h.least k client old holds
      | inr last ↦
          let same = ap many last.1 in
          let numbers = ap number last.1 in
          let low = other (omega arith) in
          omega arith
    ];
  }

  -- Else the other's number is.
  now_least : (xs : List X) (c : X) → 0 < many c
      → ((k : ℕ) (client : X) → slice_get xs k ≡ Some client → 0 < many client
      → number c ≤ number client)
      → IsLeastOf many number (xs ++ c ∷ []) (number c)
  now_least xs c holds all = record {
    index = length xs;
    holder = c;
    there = read_last xs c;
    holds = holds;
    called = refl;
    least = λ k client at held. elim (get_push xs c client k at) [
      | inl old ↦ all k client old held
      | inr last ↦ let numbers = ap number last.1 in omega arith
    ];
  }

  -- one client more, whether it holds handles or not
  pub holder_more : (xs : List X) (c : X) (least : Option ℕ) (held : ℕ)
      → many c ≡ held → IfSome least (IsLeastOf many number xs)
      → IfNone least (NoneHas many number xs)
      → IfSome (with_holder held (number c) least) (IsLeastOf many number (xs ++ c ∷ []))
      × IfNone (with_holder held (number c) least) (NoneHas many number (xs ++ c ∷ []))
  holder_more xs c None zero is found none = (
    tt,
    λ k client at. elim (get_push xs c client k at) [
      | inl old ↦ none k client old
      | inr last ↦ sym (ap many last.1) ∙ is
    ],
  )
  holder_more xs c (Some m) zero is found none =
      (still_least xs c m found (λ h. absurd (omega arith)), tt)
  holder_more xs c None (suc held) is found none = (
    now_least xs c (omega arith)
        (λ k client old holds. let z = none k client old in absurd (omega arith)),
    tt,
  )
  holder_more xs c (Some m) (suc held) is found none = elim (cases_lt (number c) m) [
    | inl less ↦
        let e : min m (number c) ≡ number c = omega arith in (
          rw e (now_least xs c (omega arith)
              (λ k client old holds. let low = found.least k client old holds in omega arith)),
          tt,
        )
    | inr more ↦
        let e : min m (number c) ≡ m = omega arith in
        (rw e (still_least xs c m found (λ h. more)), tt)
  ]
