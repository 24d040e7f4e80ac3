-- What a search of a list finds, by how many members pass its test.
use Rattle.std.proofs.Common.{◌≡◌, ℕ, zero, suc, ◌+◌, ◌≤◌, ◌≢◌, ◌||◌, cond, Bool, true, false, nat_lt, List, [], ◌∷◌, Some, None, length, position, slice_get, sym, refl, ap, ◌∙◌, arith}
use Rattle.std.specs.List.{find, list_any, position_or_len}
use Rattle.std.proofs.lemmas.Bool.{lt-ltb, ltb-true}
use Rattle.hcc_core.specs.Sums.{when, total}
use Rattle.hcc_core.specs.Outcomes.{dropped}
use Rattle.hcc_rule.specs.Views.{Each}
use Rattle.hcc_rule.proofs.Basics.Lists.{within}

pub total-same : {A : Type 0} (f g : A → ℕ) (xs : List A) → ((x : A) → f x ≡ g x)
    → total f xs ≡ total g xs
total-same f g [] h = refl
total-same f g (x ∷ xs) h =
    let first = h x in
    let rest = total-same f g xs h in
    omega arith

pub when_zero : (b : Bool) → when b 0 ≡ 0
when_zero true = refl
when_zero false = refl

pub when_swap : (a b : Bool) (n : ℕ) → when a (when b n) ≡ when b (when a n)
when_swap true b n = refl
when_swap false b n = sym (when_zero b)

pub when_same : (a b : Bool) → when a 1 ≡ when b 1 → a ≡ b
when_same true true h = refl
when_same true false h = absurd (omega arith)
when_same false true h = absurd (omega arith)
when_same false false h = refl

module _ {A : Type 0} (p : A → Bool) where
  -- how many members pass
  abbrev pub passing : List A → ℕ
  passing = total (λ x. when (p x) 1)

  pub find_passes : (xs : List A) (x : A) → find p xs ≡ Some x → p x ≡ true
  find_passes [] x h = cc
  find_passes (y ∷ ys) x h = by (p y) refl (find_passes ys x) h
    where
      by : (b : Bool) → p y ≡ b → (find p ys ≡ Some x → p x ≡ true)
          → cond b (Some y) (find p ys) ≡ Some x → p x ≡ true
      by true is later h = let e : y ≡ x = cc in ap p (sym e) ∙ is
      by false is later h = later h

  -- what holds of each member holds of the one that is found
  pub find_each : (P : A → Type 0) (xs : List A) (x : A) → Each P xs → find p xs ≡ Some x → P x
  find_each P [] x each h = cc
  find_each P (y ∷ ys) x each h = by (p y) (find_each P ys x each.1) h
    where
      by : (b : Bool) → (find p ys ≡ Some x → P x) → cond b (Some y) (find p ys) ≡ Some x → P x
      by true later h = let e : y ≡ x = cc in rw (← e) each.0
      by false later h = later h

  -- and of those that are left once it was dropped
  pub dropped_each : (P : A → Type 0) (xs : List A) → Each P xs → Each P (dropped p xs)
  dropped_each P [] each = tt
  dropped_each P (y ∷ ys) each = by (p y) (dropped_each P ys each.1)
    where
      by : (b : Bool) → Each P (dropped p ys) → Each P (cond b ys (y ∷ dropped p ys))
      by true later = each.1
      by false later = (each.0, later)

  -- where none passes, a sum over those that do is 0
  pub none_weighs : (g : A → ℕ) (xs : List A) → passing xs ≡ 0
      → total (λ x. when (p x) (g x)) xs ≡ 0
  none_weighs g [] h = refl
  none_weighs g (y ∷ ys) h = by (p y) (none_weighs g ys) h
    where
      by : (b : Bool) → (passing ys ≡ 0 → total (λ x. when (p x) (g x)) ys ≡ 0)
          → when b 1 + passing ys ≡ 0
          → when b (g y) + total (λ x. when (p x) (g x)) ys ≡ 0
      by true later h = absurd (omega arith)
      by false later h = let rest = later (omega arith) in omega arith

  -- where at most one passes, it is the one that is found
  pub one_weighs : (g : A → ℕ) (xs : List A) (x : A) → find p xs ≡ Some x → passing xs ≤ 1
      → total (λ x. when (p x) (g x)) xs ≡ g x
  one_weighs g [] x h few = cc
  one_weighs g (y ∷ ys) x h few = by (p y) (one_weighs g ys x) h few
    where
      by : (b : Bool) → (find p ys ≡ Some x → passing ys ≤ 1
          → total (λ x. when (p x) (g x)) ys ≡ g x)
          → cond b (Some y) (find p ys) ≡ Some x → when b 1 + passing ys ≤ 1
          → when b (g y) + total (λ x. when (p x) (g x)) ys ≡ g x
      by true later h few =
          let same : g y ≡ g x = ap g (let e : y ≡ x = cc in e) in
          let rest = none_weighs g ys (omega arith) in
          omega arith
      by false later h few = let rest = later h (omega arith) in omega arith

  -- where none is found none passes
  pub none_passes : (xs : List A) → find p xs ≡ None → passing xs ≡ 0
  none_passes [] h = refl
  none_passes (y ∷ ys) h = by (p y) (none_passes ys) h
    where
      by : (b : Bool) → (find p ys ≡ None → passing ys ≡ 0) → cond b (Some y) (find p ys) ≡ None
          → when b 1 + passing ys ≡ 0
      by true later h = cc
      by false later h = let rest = later h in omega arith

  pub some_found : (xs : List A) → 1 ≤ passing xs → (x : A) × (find p xs ≡ Some x)
  some_found [] h = absurd (omega arith)
  some_found (y ∷ ys) h = by (p y) (some_found ys) h
    where
      by : (b : Bool) → (1 ≤ passing ys → (x : A) × (find p ys ≡ Some x))
          → 1 ≤ when b 1 + passing ys
          → (x : A) × (cond b (Some y) (find p ys) ≡ Some x)
      by true later h = (y, refl)
      by false later h = later (omega arith)

  pub some_any : (xs : List A) → 1 ≤ passing xs → list_any p xs ≡ true
  some_any [] h = absurd (omega arith)
  some_any (y ∷ ys) h = by (p y) (some_any ys) h
    where
      by : (b : Bool) → (1 ≤ passing ys → list_any p ys ≡ true) → 1 ≤ when b 1 + passing ys
          → (b || list_any p ys) ≡ true
      by true later h = refl
      by false later h = later (omega arith)

  pub none_any : (xs : List A) → passing xs ≡ 0 → list_any p xs ≡ false
  none_any [] h = refl
  none_any (y ∷ ys) h = by (p y) (none_any ys) h
    where
      by : (b : Bool) → (passing ys ≡ 0 → list_any p ys ≡ false) → when b 1 + passing ys ≡ 0
          → (b || list_any p ys) ≡ false
      by true later h = absurd (omega arith)
      by false later h = later (omega arith)

  pub any_some : (xs : List A) → list_any p xs ≡ true → 1 ≤ passing xs
  any_some [] h = cc
  any_some (y ∷ ys) h = by (p y) (any_some ys) h
    where
      by : (b : Bool) → (list_any p ys ≡ true → 1 ≤ passing ys) → (b || list_any p ys) ≡ true
          → 1 ≤ when b 1 + passing ys
      by true later h = omega arith
      by false later h = let rest = later h in omega arith

  -- Positions.

  place_is : (xs : List A) (i : ℕ) (x : A) → slice_get xs i ≡ Some x → p x ≡ true
      → ((j : ℕ) (y : A) → j ≢ i → slice_get xs j ≡ Some y → p y ≡ false) → position_or_len p xs ≡ i
  place_is [] i x at passes none = cc
  place_is (y ∷ ys) zero x at passes none =
      let is : p y ≡ true = ap p (let e : y ≡ x = cc in e) ∙ passes in
      rw is refl
  place_is (y ∷ ys) (suc i) x at passes none =
      let is : p y ≡ false = none 0 y (λ e. omega arith) refl in
      let rest = place_is ys i x at passes
      (λ j z other there. none (suc j) z (λ e. other (let g : j ≡ i = omega arith in g)) there)
      in
      rw is (omega arith)

  -- the position of a member that passes alone
  pub position_is : (xs : List A) (i : ℕ) (x : A) → slice_get xs i ≡ Some x → p x ≡ true
      → ((j : ℕ) (y : A) → j ≢ i → slice_get xs j ≡ Some y → p y ≡ false) → position p xs ≡ Some i
  position_is xs i x at passes none =
      rw (place_is xs i x at passes none, lt-ltb i (length xs) (within xs i x at)) refl

  nowhere : (xs : List A) → ((j : ℕ) (y : A) → slice_get xs j ≡ Some y → p y ≡ false)
      → position_or_len p xs ≡ length xs
  nowhere [] none = refl
  nowhere (y ∷ ys) none =
      let is : p y ≡ false = none 0 y refl in
      let rest = nowhere ys (λ j z there. none (suc j) z there) in
      rw is (omega arith)

  -- no position where none passes
  pub position_none : (xs : List A) → ((j : ℕ) (y : A) → slice_get xs j ≡ Some y → p y ≡ false)
      → position p xs ≡ None
  position_none xs none = by (nat_lt (position_or_len p xs) (length xs)) refl
    where
      by : (b : Bool) → nat_lt (position_or_len p xs) (length xs) ≡ b
          → cond b (Some (position_or_len p xs)) None ≡ None
      by true is =
          let low = ltb-true _ _ is in
          let end = nowhere xs none in
          absurd (omega arith)
      by false is = refl
