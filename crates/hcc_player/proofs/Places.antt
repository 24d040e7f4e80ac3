-- Lists whose elements have facts by their places.
use Rattle.std.proofs.Common.{◌≡◌, ℕ, zero, suc, ◌+◌, ◌<◌, List, [], ◌∷◌, Some, Result, Ok, Err, IfOk, length, map, get_or, slice_get, refl, ap, ◌∙◌, arith}
use Rattle.std.specs.List.{All}
use Rattle.std.proofs.lemmas.Option.{slice_get-get_or, slice_get_within, get_or_from_slice_get}
use Rattle.hcc_player.specs.Work.{AllWith, EachAt}

-- what holds at each place holds of each element
pub each_all : {A : Type 0} (P : A → Type 0) (xs : List A) → EachAt (λ i x. P x) xs → All P xs
each_all P xs each k d within = each k (get_or xs k d) (slice_get-get_or xs k d within)

-- what holds of each element holds of the one at a place
pub all_at : {A : Type 0} (P : A → Type 0) (xs : List A) (i : ℕ) (x : A) → All P xs
    → slice_get xs i ≡ Some x → P x
all_at P xs i x all here =
    rw (← get_or_from_slice_get xs i x x here) (all i x (slice_get_within xs i x here))

-- the elements of a list that a function makes of another
pub each_map : {A B : Type 0} (P : ℕ → B → Type 0) (f : A → B) (xs : List A)
    → EachAt (λ i x. P i (f x)) xs → EachAt P (map f xs)
each_map P f [] each i y here = cc
each_map P f (x ∷ xs) each zero y here =
    let same : f x ≡ y = cc in rw (← same) (each 0 x refl)
each_map P f (x ∷ xs) each (suc i) y here =
    each_map (λ j. P (suc j)) f xs (λ j z at. each (suc j) z at) i y here

-- What the elements of one list are, and what they and those of another have to do with each other,
-- says what the others are.
pub each_with : {A B : Type 0} (P : ℕ → A → Type 0) (Q : A → B → Type 0) (R : ℕ → B → Type 0)
    (xs : List A) (ys : List B) → ((i : ℕ) (x : A) (y : B) → P i x → Q x y → R i y)
    → EachAt P xs → AllWith Q xs ys → EachAt R ys
each_with P Q R [] [] goes each all i y here = cc
each_with P Q R [] (y ∷ ys) goes each all i z here = absurd all
each_with P Q R (x ∷ xs) [] goes each all i z here = absurd all
each_with P Q R (x ∷ xs) (y ∷ ys) goes each all zero z here =
    let same : y ≡ z = cc in rw (← same) (goes 0 x y (each 0 x refl) all.0)
each_with P Q R (x ∷ xs) (y ∷ ys) goes each all (suc i) z here =
    each_with (λ j. P (suc j)) Q (λ j. R (suc j)) xs ys (λ j. goes (suc j))
    (λ j w at. each (suc j) w at) all.1 i z here

-- lists of one length, by what holds at each place
pub all_with : {A B : Type 0} (P : A → B → Type 0) (xs : List A) (ys : List B)
    → length ys ≡ length xs
    → ((i : ℕ) (x : A) (y : B) → i < length xs → get_or xs i x ≡ x → get_or ys i y ≡ y → P x y)
    → AllWith P xs ys
all_with P [] [] same each = tt
all_with P [] (y ∷ ys) same each = let no : length (y ∷ ys) ≡ 0 = same in absurd (omega arith)
all_with P (x ∷ xs) [] same each = let no : 0 ≡ length (x ∷ xs) = same in absurd (omega arith)
all_with P (x ∷ xs) (y ∷ ys) same each = (
  each 0 x y (omega arith) refl refl,
  all_with P xs ys (omega arith)
      (λ i a b within here there. each (suc i) a b (omega arith) here there),
)

-- a function keeps how many there are
pub count_map : {A B : Type 0} (f : A → B) (xs : List A) → length (map f xs) ≡ length xs
count_map f [] = refl
count_map f (x ∷ xs) = ap suc (count_map f xs)

-- What is left of a list that is used up from the front, from this place on.
abbrev pub IsRest : {A : Type 0} → (all rest : List A) → (from : ℕ) → Type 0
IsRest {A} all rest from =
    (i : ℕ) (x : A) → slice_get rest i ≡ Some x → slice_get all (from + i) ≡ Some x

-- the next element
pub rest_next : {A : Type 0} (all rest : List A) (from : ℕ) (x : A) → IsRest all (x ∷ rest) from
    → slice_get all from ≡ Some x
rest_next all rest from x is =
    let here : from ≡ from + 0 = omega arith in
    ap (slice_get all) here ∙ is 0 x refl

-- what is left behind it
pub rest_goes : {A : Type 0} (all rest : List A) (from : ℕ) (x : A) → IsRest all (x ∷ rest) from
    → IsRest all rest (from + 1)
rest_goes all rest from x is i y here =
    let there : from + 1 + i ≡ from + suc i = omega arith in
    ap (slice_get all) there ∙ is (suc i) y here

-- what two facts at a success give
pub ok_both : {X E : Type 0} (P Q R : X → Type 0) (result : Result X E) → IfOk result P
    → IfOk result Q → ((x : X) → P x → Q x → R x) → IfOk result R
ok_both P Q R (Ok x) p q goes = goes x p q
ok_both P Q R (Err error) p q goes = tt
