-- What a list reads once one of its members was written, and what it reads at the start.
use Rattle.std.proofs.Common.{◌≡◌, ◌⊎◌, inl, inr, ℕ, zero, suc, List, [], ◌∷◌, Option, Some, None}
use Rattle.std.proofs.Common.{slice_set, slice_get, get_or, replicate, refl, ap, sym, ◌∙◌, ◌++◌}
use Rattle.std.proofs.Common.{length}
use Rattle.std.specs.Prelude.{option_and_then}
use Rattle.std.proofs.lemmas.Option.{get_or_from_slice_get}

-- the member that was written, or one that was there
pub get_at_set : {X : Type 0} (xs : List X) (i j : ℕ) (y x : X)
    → slice_get (slice_set xs i y) j ≡ Some x
    → ((j ≡ i) × (x ≡ y)) ⊎ (slice_get xs j ≡ Some x)
get_at_set [] i j y x h = inr h
get_at_set (z ∷ zs) zero zero y x h = inl (refl, cc)
get_at_set (z ∷ zs) zero (suc j) y x h = inr h
get_at_set (z ∷ zs) (suc i) zero y x h = inr h
get_at_set (z ∷ zs) (suc i) (suc j) y x h = elim (get_at_set zs i j y x h) [
  | inl e ↦ inl (ap suc e.0, e.1)
  | inr e ↦ inr e
]

-- what an index read is what the list has there
pub read_is : {X : Type 0} (xs : List X) (i : ℕ) (x y : X) → slice_get xs i ≡ Some y
    → x ≡ get_or xs i x → x ≡ y
read_is xs i x y h e = e ∙ get_or_from_slice_get xs i y x h

-- a reading that the change leaves alone is the same everywhere
pub read_same : {X A : Type 0} (f : Option X → A) (xs : List X) (i j : ℕ) (old new : X)
    → slice_get xs i ≡ Some old → f (Some new) ≡ f (Some old)
    → f (slice_get (slice_set xs i new) j) ≡ f (slice_get xs j)
read_same f [] i j old new h e = refl
read_same f (x ∷ xs) zero zero old new h e = e ∙ ap f (sym h)
read_same f (x ∷ xs) zero (suc j) old new h e = refl
read_same f (x ∷ xs) (suc i) zero old new h e = refl
read_same f (x ∷ xs) (suc i) (suc j) old new h e = read_same f xs i j old new h e

pub read_here : {X : Type 0} (xs : List X) (i : ℕ) (old new : X)
    → slice_get xs i ≡ Some old → slice_get (slice_set xs i new) i ≡ Some new
read_here [] i old new h = cc
read_here (x ∷ xs) zero old new h = refl
read_here (x ∷ xs) (suc i) old new h = read_here xs i old new h

pub read_other : {X : Type 0} (xs : List X) (i j : ℕ) (new : X)
    → (j ≡ i → ⊥) → slice_get (slice_set xs i new) j ≡ slice_get xs j
read_other [] i j new h = refl
read_other (x ∷ xs) zero zero new h = absurd (h refl)
read_other (x ∷ xs) zero (suc j) new h = refl
read_other (x ∷ xs) (suc i) zero new h = refl
read_other (x ∷ xs) (suc i) (suc j) new h = read_other xs i j new (λ e. h (ap suc e))

-- a member written over itself
pub set_same : {X : Type 0} (xs : List X) (i : ℕ) (x : X) → slice_get xs i ≡ Some x
    → slice_set xs i x ≡ xs
set_same [] i x h = refl
set_same (y ∷ ys) zero x h = ap (λ z. z ∷ ys) (let e : x ≡ y = cc in e)
set_same (y ∷ ys) (suc i) x h = ap (λ zs. y ∷ zs) (set_same ys i x h)

-- a list of one member over and over reads that member or nothing
pub in_replicate : {X : Type 0} (n i : ℕ) (x : X)
    → (slice_get (replicate n x) i ≡ None) ⊎ (slice_get (replicate n x) i ≡ Some x)
in_replicate zero i x = inl refl
in_replicate (suc n) zero x = inr refl
in_replicate (suc n) (suc i) x = in_replicate n i x

-- so a reading that gives nothing at that member gives nothing
pub nothing_in : {X A : Type 0} (f : Option X → Option A) (n i : ℕ) (x : X) (a : A)
    → f None ≡ None → f (Some x) ≡ None → f (slice_get (replicate n x) i) ≡ Some a → ⊥
nothing_in f n i x a none some h = elim (in_replicate n i x) [
  | inl e ↦ let bad : None ≡ Some a = sym none ∙ ap f (sym e) ∙ h in cc
  | inr e ↦ let bad : None ≡ Some a = sym some ∙ ap f (sym e) ∙ h in cc
]

-- and each member that is read is that one
pub replicate_is : {X : Type 0} (n i : ℕ) (x y : X) → slice_get (replicate n x) i ≡ Some y → y ≡ x
replicate_is zero i x y h = cc
replicate_is (suc n) zero x y h = cc
replicate_is (suc n) (suc i) x y h = replicate_is n i x y h

-- what is read of the member that was written, or of one that was there
pub read_at_set : {X A : Type 0} (f : X → Option A) (xs : List X) (i j : ℕ) (new : X) (a : A)
    → option_and_then f (slice_get (slice_set xs i new) j) ≡ Some a
    → ((j ≡ i) × (f new ≡ Some a)) ⊎ (option_and_then f (slice_get xs j) ≡ Some a)
read_at_set f [] i j new a h = inr h
read_at_set f (x ∷ xs) zero zero new a h = inl (refl, h)
read_at_set f (x ∷ xs) zero (suc j) new a h = inr h
read_at_set f (x ∷ xs) (suc i) zero new a h = inr h
read_at_set f (x ∷ xs) (suc i) (suc j) new a h = elim (read_at_set f xs i j new a h) [
  | inl e ↦ inl (ap suc e.0, e.1)
  | inr e ↦ inr e
]

-- what is read of a list is read of it with more at its end
pub read_before : {X A : Type 0} (f : X → Option A) (xs ys : List X) (i : ℕ) (a : A)
    → option_and_then f (slice_get xs i) ≡ Some a
    → option_and_then f (slice_get (xs ++ ys) i) ≡ Some a
read_before f [] ys i a h = cc
read_before f (x ∷ xs) ys zero a h = h
read_before f (x ∷ xs) ys (suc i) a h = read_before f xs ys i a h

-- and what was put there is read behind the list
pub read_last : {X : Type 0} (xs : List X) (x : X) → slice_get (xs ++ x ∷ []) (length xs) ≡ Some x
read_last [] x = refl
read_last (y ∷ ys) x = read_last ys x
