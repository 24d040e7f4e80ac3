-- What lists of words, views and slots read once one of their members was written.
use Rattle.std.proofs.Common.{◌≡◌, ℕ, zero, suc, ◌<◌, ◌≢◌, inl, inr, List, [], ◌∷◌, ◌++◌, Some, length, slice_get, slice_index, slice_set, sym, refl, ap, ◌∙◌, arith}
use Rattle.std.proofs.lemmas.Bool.{cases_eq}
use mathlib.Core.Option.{some, some-injective, some-ne-none}
use lib.ListN.{get_elem?}
use Rattle.hcc_core.proofs.ListLemmas.{get_at_set, read_here, read_other}
use Rattle.hcc_rule.specs.Views.{Each}

-- A table's readings and the world's are the same.
pub read_at : {A : Type 0} (xs : List A) (i : ℕ) (a : A) → get_elem? xs i ≡ some a
    → slice_get xs i ≡ Some a
read_at [] i a h = absurd (some-ne-none a (sym h))
read_at (x ∷ xs) zero a h = ap Some (some-injective x a h)
read_at (x ∷ xs) (suc i) a h = read_at xs i a h

pub within : {A : Type 0} (xs : List A) (i : ℕ) (a : A) → slice_get xs i ≡ Some a → i < length xs
within [] i a h = cc
within (x ∷ xs) zero a h = omega arith
within (x ∷ xs) (suc i) a h = let rest = within xs i a h in omega arith

pub there : {A : Type 0} (xs : List A) (i : ℕ) → i < length xs
    → (a : A) × (slice_get xs i ≡ Some a)
there [] i h = absurd (omega arith)
there (x ∷ xs) zero h = (x, refl)
there (x ∷ xs) (suc i) h = there xs i (omega arith)

-- The word that was written, and the others.
pub word_here : (words : List ℕ) (a y : ℕ) → a < length words
    → slice_index (slice_set words a y) a ≡ y
word_here [] a y h = absurd (omega arith)
word_here (w ∷ ws) zero y h = refl
word_here (w ∷ ws) (suc a) y h = word_here ws a y (omega arith)

pub word_else : (words : List ℕ) (a b y : ℕ) → b ≢ a
    → slice_index (slice_set words a y) b ≡ slice_index words b
word_else [] a b y h = refl
word_else (w ∷ ws) zero zero y h = absurd (h refl)
word_else (w ∷ ws) zero (suc b) y h = refl
word_else (w ∷ ws) (suc a) zero y h = refl
word_else (w ∷ ws) (suc a) (suc b) y h = word_else ws a b y (λ e. h (ap suc e))

-- What holds of each member holds once one was written for which it holds.
pub each_set : {A : Type 0} (P : ℕ → A → Type 0) (xs : List A) (i : ℕ) (y : A) → P i y
    → ((j : ℕ) (x : A) → j ≢ i → slice_get xs j ≡ Some x → P j x)
    → (j : ℕ) (x : A) → slice_get (slice_set xs i y) j ≡ Some x → P j x
each_set P xs i y mine others j x h = elim (cases_eq j i) [
  | inl same ↦ elim (get_at_set xs i j y x h) [
    | inl e ↦ rw (same, e.1) mine
    | inr old ↦
        let now : slice_get (slice_set xs i y) i ≡ Some y =
        read_here xs i x y (ap (slice_get xs) (sym same) ∙ old) in
        let both : Some x ≡ Some y = sym h ∙ (ap (slice_get (slice_set xs i y)) same ∙ now) in
        let is : x ≡ y = cc in
        rw (same, is) mine
  ]
  | inr other ↦ others j x other (sym (read_other xs i j y other) ∙ h)
]

-- The same of a property of members alone.
pub each_map : {A : Type 0} (P Q : A → Type 0) → ((a : A) → P a → Q a)
    → (xs : List A) → Each P xs → Each Q xs
each_map P Q f [] h = tt
each_map P Q f (x ∷ xs) h = (f x h.0, each_map P Q f xs h.1)

pub each_append : {A : Type 0} (P : A → Type 0) (xs ys : List A) → Each P xs → Each P ys
    → Each P (xs ++ ys)
each_append P [] ys h g = g
each_append P (x ∷ xs) ys h g = (h.0, each_append P xs ys h.1 g)
