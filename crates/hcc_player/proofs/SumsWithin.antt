-- A sum over things that stand for different members of a list is within the sum over the list.
use Rattle.std.proofs.Common.{◌≡◌, ℕ, zero, suc, ◌+◌, ◌≤◌, ◌⊎◌, inl, inr, true, false, Bool}
use Rattle.std.proofs.Common.{List, [], ◌∷◌, ◌++◌, Some, cond, filter, find, length}
use Rattle.std.proofs.Common.{map, refl, sym, ap, ◌∙◌, subst, arith}
use Rattle.std.specs.Prelude.{slice_get}
use Rattle.hcc_core.specs.Sums.{total}
use Rattle.hcc_core.proofs.SumLemmas.{total-append, total-le}

-- Members of lists.

abbrev pub Member : {A : Type 0} → A → List A → Type 0
Member x [] = ⊥
Member x (y ∷ ys) = (x ≡ y) ⊎ Member x ys

pub in_front : {A : Type 0} (x : A) (xs ys : List A) → Member x xs → Member x (xs ++ ys)
in_front x [] ys in_xs = absurd in_xs
in_front x (y ∷ xs) ys (inl same) = inl same
in_front x (y ∷ xs) ys (inr more) = inr (in_front x xs ys more)

pub in_back : {A : Type 0} (x : A) (xs ys : List A) → Member x ys → Member x (xs ++ ys)
in_back x [] ys in_ys = in_ys
in_back x (y ∷ xs) ys in_ys = inr (in_back x xs ys in_ys)

pub in_map : {A B : Type 0} (f : A → B) (x : A) (xs : List A) → Member x xs
    → Member (f x) (map f xs)
in_map f x [] in_xs = absurd in_xs
in_map f x (y ∷ xs) (inl same) = inl (ap f same)
in_map f x (y ∷ xs) (inr more) = inr (in_map f x xs more)

-- what is found is one of them
pub found_in : {A : Type 0} (test : A → Bool) (xs : List A) (x : A) → find test xs ≡ Some x
    → Member x xs
found_in test [] x is = cc
found_in test (y ∷ ys) x is = by (test y) (found_in test ys x) is
  where
    by : (b : Bool) → (find test ys ≡ Some x → Member x ys)
        → cond b (Some y) (find test ys) ≡ Some x → Member x (y ∷ ys)
    by true rest is = let same : x ≡ y = cc in inl same
    by false rest is = inr (rest is)

-- those that pass a test
pub passes_in : {A : Type 0} (test : A → Bool) (x : A) (xs : List A) → test x ≡ true
    → Member x xs → Member x (filter test xs)
passes_in test x [] passes in_xs = absurd in_xs
passes_in test x (y ∷ ys) passes (inl same) =
    let here : test y ≡ true = ap test (sym same) ∙ passes in rw here (inl same)
passes_in test x (y ∷ ys) passes (inr more) = by (test y) (passes_in test x ys passes more)
  where
    by : (b : Bool) → Member x (filter test ys)
        → Member x (cond b (y ∷ filter test ys) (filter test ys))
    by true rest = inr rest
    by false rest = rest

pub was_in : {A : Type 0} (test : A → Bool) (x : A) (xs : List A) → Member x (filter test xs)
    → Member x xs
was_in test x [] in_xs = absurd in_xs
was_in test x (y ∷ ys) in_xs = by (test y) (was_in test x ys) in_xs
  where
    by : (b : Bool) → (Member x (filter test ys) → Member x ys)
        → Member x (cond b (y ∷ filter test ys) (filter test ys)) → Member x (y ∷ ys)
    by true rest (inl same) = inl same
    by true rest (inr more) = inr (rest more)
    by false rest more = inr (rest more)

pub fewer_pass : {A : Type 0} (test : A → Bool) (xs : List A) → length (filter test xs) ≤ length xs
fewer_pass test [] = omega arith
fewer_pass test (y ∷ ys) = by (test y) (fewer_pass test ys)
  where
    by : (b : Bool) → length (filter test ys) ≤ length ys
        → length (cond b (y ∷ filter test ys) (filter test ys)) ≤ suc (length ys)
    by true rest = omega arith
    by false rest = omega arith

-- where as many pass, all do
pub all_pass : {A : Type 0} (test : A → Bool) (xs : List A) → length xs ≤ length (filter test xs)
    → (x : A) → Member x xs → test x ≡ true
all_pass test [] many x in_xs = absurd in_xs
all_pass test (y ∷ ys) many x in_xs =
    by (test y) refl (λ all. all_pass test ys all x) many in_xs
  where
    by : (b : Bool) → test y ≡ b
        → (length ys ≤ length (filter test ys) → Member x ys → test x ≡ true)
        → suc (length ys) ≤ length (cond b (y ∷ filter test ys) (filter test ys))
        → Member x (y ∷ ys) → test x ≡ true
    by true is rest many (inl same) = ap test same ∙ is
    by true is rest many (inr more) = rest (omega arith) more
    by false is rest many in_xs = let few = fewer_pass test ys in absurd (omega arith)

-- Sums.

-- where one list of numbers is within another, and has its sum, each is as large
pub each_as_large : {A : Type 0} (f g : A → ℕ) (xs : List A) → ((x : A) → g x ≤ f x)
    → total f xs ≤ total g xs → (k : ℕ) (x : A) → slice_get xs k ≡ Some x → f x ≤ g x
each_as_large f g [] within many k x at = cc
each_as_large f g (y ∷ ys) within many zero x at =
    let rest = total-le g f ys (λ i z at. within z) in
    let here : f y ≤ g y = omega arith in
    let same : y ≡ x = cc in subst (λ z. f z ≤ g z) same here
each_as_large f g (y ∷ ys) within many (suc k) x at =
    let here = within y in
    each_as_large f g ys within (omega arith) k x at

-- a member with those before it and behind it
record Cut {A : Type 0} (x : A) (xs : List A) : Type 0 where
  front : List A
  back : List A
  is : xs ≡ front ++ x ∷ back

cut : {A : Type 0} (x : A) (xs : List A) → Member x xs → Cut x xs
cut x [] in_xs = absurd in_xs
cut x (y ∷ ys) (inl same) =
    record { front = []; back = ys; is = ap (λ z. z ∷ ys) (sym same) }
cut x (y ∷ ys) (inr more) =
    let c = cut x ys more in
    record { front = y ∷ c.front; back = c.back; is = ap (λ l. y ∷ l) c.is }

-- any other is before it or behind it
elsewhere : {A : Type 0} (z x : A) (front back : List A) → Member z (front ++ x ∷ back)
    → (z ≡ x) ⊎ Member z (front ++ back)
elsewhere z x [] back (inl same) = inl same
elsewhere z x [] back (inr more) = inr more
elsewhere z x (y ∷ front) back (inl same) = inr (inl same)
elsewhere z x (y ∷ front) back (inr more) =
    elim (elsewhere z x front back more) [
      | inl same ↦ inl same
      | inr there ↦ inr (inr there)
    ]

total_cut : {A : Type 0} (f : A → ℕ) (x : A) (front back : List A)
    → total f (front ++ x ∷ back) ≡ f x + total f (front ++ back)
total_cut f x front back =
    let whole = total-append f front (x ∷ back) in
    let rest = total-append f front back in
    omega arith

module _ {A I : Type 0} (charge : A → ℕ) (weight : I → ℕ) (On : A → I → Type 0)
    (Same : A → A → Type 0)
    (one : (a b : A) (i : I) → On a i → On b i → Same a b) where
  -- it stands for one of these, which weighs as much, or is charged nothing
  abbrev pub IsIn : List I → A → Type 0
  IsIn items a =
      (charge a ≡ 0) ⊎ ((i : I) × On a i × Member i items × (charge a ≤ weight i))

  -- different ones are charged within what all weigh
  pub sum_within : (list : List A) (items : List I)
      → ((k : ℕ) (a : A) → slice_get list k ≡ Some a → IsIn items a)
      → ((j k : ℕ) (a b : A) → slice_get list j ≡ Some a → slice_get list k ≡ Some b → Same a b
      → j ≡ k)
      → total charge list ≤ total weight items
  sum_within [] items stands apart = omega arith
  sum_within (a ∷ list) items stands apart =
      by (stands 0 a refl) (λ more each. sum_within list more each rest_apart)
    where
      rest_apart : (j k : ℕ) (b c : A) → slice_get list j ≡ Some b → slice_get list k ≡ Some c
          → Same b c → j ≡ k
      rest_apart j k b c here there same =
          let far = apart (suc j) (suc k) b c here there same in omega arith

      -- those behind it stand for others
      others : (i : I) → On a i → (c : Cut i items) → (k : ℕ) (b : A) → slice_get list k ≡ Some b
          → IsIn items b → IsIn (c.front ++ c.back) b
      others i on c k b at (inl none) = inl none
      others i on c k b at (inr h) =
          elim (elsewhere h.0 i c.front c.back (subst (λ l. Member h.0 l) c.is h.2)) [
            | inl same ↦
                let far = apart 0 (suc k) a b refl at
                (one a b i on (subst (λ j. On b j) same h.1)) in absurd (omega arith)
            | inr there ↦ inr (h.0, h.1, there, h.3)
          ]

      by : IsIn items a
          → ((more : List I) → ((k : ℕ) (b : A) → slice_get list k ≡ Some b → IsIn more b)
          → total charge list ≤ total weight more)
          → charge a + total charge list ≤ total weight items
      by (inl none) within =
          let rest = within items (λ k b at. stands (suc k) b at) in omega arith
      by (inr h) within =
          let c = cut h.0 items h.2 in
          let rest = within (c.front ++ c.back)
          (λ k b at. others h.0 h.1 c k b at (stands (suc k) b at)) in
          let all = ap (total weight) c.is ∙ total_cut weight h.0 c.front c.back in
          let mine = h.3 in
          omega arith

-- as many ones as members
pub total_ones : {A : Type 0} (xs : List A) → total (λ (x : A). 1) xs ≡ length xs
total_ones [] = refl
total_ones (x ∷ xs) = let rest = total_ones xs in omega arith

module _ {A I : Type 0} (On : A → I → Type 0) (Same : A → A → Type 0)
    (one : (a b : A) (i : I) → On a i → On b i → Same a b) where
  -- different ones that each stand for one of these are no more than these
  pub count_within : (list : List A) (items : List I)
      → ((k : ℕ) (a : A) → slice_get list k ≡ Some a → (i : I) × On a i × Member i items)
      → ((j k : ℕ) (a b : A) → slice_get list j ≡ Some a → slice_get list k ≡ Some b → Same a b
      → j ≡ k)
      → length list ≤ length items
  count_within list items stands apart =
      let sum = sum_within (λ (a : A). 1) (λ (i : I). 1) On Same one list items
      (λ k a at. let h = stands k a at in inr (h.0, h.1, h.2, omega arith)) apart in
      let few = total_ones list in
      let many = total_ones items in
      omega arith
