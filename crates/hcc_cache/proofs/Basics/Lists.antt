-- Fronts of lists, lists with one more, and lists turned round.
use Rattle.std.proofs.Common.{◌≡◌, ◌⊎◌, inl, inr, ℕ, zero, suc, ◌-◌, ◌<◌, List, [], ◌∷◌, ◌++◌, None, Option, Some, drop, flat_map, length, map, reverse, take, get_or, slice_get, sym, refl, ap, ◌+◌, ◌∙◌, add-one, arith}
use Rattle.std.proofs.lemmas.List.{get_or-reverse}
use Rattle.std.proofs.lemmas.Option.{get_or_from_slice_get, slice_get-get_or}

module _ {X : Type 0} where
  -- a front and its next element are the longer front
  pub take_snoc : (xs : List X) (k : ℕ) (x : X) → slice_get xs k ≡ Some x
      → take (suc k) xs ≡ take k xs ++ x ∷ []
  take_snoc [] k x h = cc
  take_snoc (y ∷ ys) zero x h = ap (λ z. z ∷ []) (let e : y ≡ x = cc in e)
  take_snoc (y ∷ ys) (suc k) x h = ap (λ zs. y ∷ zs) (take_snoc ys k x h)

  -- what a front has, the list has
  pub get_take : (xs : List X) (n k : ℕ) (x : X) → slice_get (take n xs) k ≡ Some x
      → slice_get xs k ≡ Some x
  get_take [] zero k x h = cc
  get_take [] (suc n) k x h = cc
  get_take (y ∷ ys) zero k x h = cc
  get_take (y ∷ ys) (suc n) zero x h = h
  get_take (y ∷ ys) (suc n) (suc k) x h = get_take ys n k x h

  -- what the list has within a front, the front has
  pub get_in_take : (xs : List X) (n k : ℕ) (x : X) → k < n → slice_get xs k ≡ Some x
      → slice_get (take n xs) k ≡ Some x
  get_in_take [] n k x below h = cc
  get_in_take (y ∷ ys) zero k x below h = absurd (omega arith)
  get_in_take (y ∷ ys) (suc n) zero x below h = h
  get_in_take (y ∷ ys) (suc n) (suc k) x below h = get_in_take ys n k x (omega arith) h

  -- what a list that is turned round has, counted from the list's end
  pub get_reverse : (xs : List X) (k : ℕ) (x : X) → k < length xs
      → slice_get (reverse xs) k ≡ Some x → slice_get xs (length xs - 1 - k) ≡ Some x
  get_reverse xs k x inside h =
      let read : get_or (reverse xs) k x ≡ x = get_or_from_slice_get (reverse xs) k x x h in
      slice_get-get_or xs (length xs - 1 - k) x (omega arith)
      ∙ ap Some (sym (get_or-reverse xs k x inside) ∙ read)

  -- an element of a list with one more is an old one, or the last
  pub get_push : (xs : List X) (x y : X) (k : ℕ) → slice_get (xs ++ x ∷ []) k ≡ Some y
      → (slice_get xs k ≡ Some y) ⊎ ((k ≡ length xs) × (x ≡ y))
  get_push [] x y zero h = inr (refl, cc)
  get_push [] x y (suc k) h = cc
  get_push (z ∷ zs) x y zero h = inl h
  get_push (z ∷ zs) x y (suc k) h = elim (get_push zs x y k h) [
    | inl e ↦ inl e
    | inr e ↦ inr (ap suc e.0, e.1)
  ]

  -- what each element is by its place, and one more by its own, each of a list with one more is
  pub each_push : (P : ℕ → X → Type 0) (xs : List X) (x : X) → P (length xs) x
      → ((k : ℕ) (y : X) → slice_get xs k ≡ Some y → P k y)
      → (k : ℕ) (y : X) → slice_get (xs ++ x ∷ []) k ≡ Some y → P k y
  each_push P xs x mine all k y h = elim (get_push xs x y k h) [
    | inl stood ↦ all k y stood
    | inr last ↦ rw (last.0, ← last.1) mine
  ]

-- a member of a list that a function makes of another
pub at_map : {A B : Type 0} (f : A → B) (xs : List A) (k : ℕ) (y : B)
    → slice_get (map f xs) k ≡ Some y → (x : A) × (slice_get xs k ≡ Some x) × (f x ≡ y)
at_map f [] k y here = cc
at_map f (x ∷ xs) zero y here = (x, refl, cc)
at_map f (x ∷ xs) (suc k) y here = at_map f xs k y here

-- what is behind a place is the next element, if there is one, and what is behind that
drop_next : {A B : Type 0} (f : A → List B) (g : Option A → List B) (xs : List A) (n : ℕ)
    → g None ≡ [] → ((x : A) → g (Some x) ≡ f x)
    → flat_map f (drop n xs) ≡ g (slice_get xs n) ++ flat_map f (drop (suc n) xs)
drop_next f g [] zero none some = rw none refl
drop_next f g [] (suc n) none some = rw none refl
drop_next f g (x ∷ xs) zero none some = rw (some x) refl
drop_next f g (x ∷ xs) (suc n) none some = drop_next f g xs n none some

pub drop_more : {A B : Type 0} (f : A → List B) (g : Option A → List B) (xs : List A) (n : ℕ)
    → g None ≡ [] → ((x : A) → g (Some x) ≡ f x)
    → flat_map f (drop n xs) ≡ g (slice_get xs n) ++ flat_map f (drop (n + 1) xs)
drop_more f g xs n none some = rw add-one (drop_next f g xs n none some)
