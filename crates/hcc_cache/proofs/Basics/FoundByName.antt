-- What is found by name in a list, once a member joined it or left it.
use Rattle.std.proofs.Common.{◌≡◌, ◌≢◌, ℕ, suc, ◌+◌, ◌<◌, ◌≤◌, cond, Bool, true, false, List, [], ◌∷◌, ◌++◌, Some, None, length, sym, refl, ap, ◌∙◌, arith}
use Rattle.std.specs.List.{find}
use Rattle.std.proofs.lemmas.Bool.{eqb-true, ne_eqb}
use Rattle.hcc_core.specs.declared.client.Standalone.{Standalone}
use Rattle.hcc_core.specs.Ledgers.{is_standing}
use Rattle.hcc_core.specs.Outcomes.{dropped}
use Rattle.hcc_rule.specs.declared.view.Record.{Record}
use Rattle.hcc_rule.specs.Views.{Each}
use Rattle.hcc_rule.proofs.Basics.Lists.{each_map}

module _ {X : Type 0} (p : X → Bool) where
  -- what was found is found still, where more came behind it
  pub find_front : (xs ys : List X) (x : X) → find p xs ≡ Some x → find p (xs ++ ys) ≡ Some x
  find_front [] ys x h = cc
  find_front (z ∷ zs) ys x h = by (p z) (find_front zs ys x) h
    where
      by : (b : Bool) → (find p zs ≡ Some x → find p (zs ++ ys) ≡ Some x)
          → cond b (Some z) (find p zs) ≡ Some x → cond b (Some z) (find p (zs ++ ys)) ≡ Some x
      by true later h = h
      by false later h = later h

  -- the last member is found where no other passes
  pub find_last : (xs : List X) (x : X) → find p xs ≡ None → p x ≡ true
      → find p (xs ++ x ∷ []) ≡ Some x
  find_last [] x h passes = rw passes refl
  find_last (z ∷ zs) x h passes = by (p z) (λ e. find_last zs x e passes) h
    where
      by : (b : Bool) → (find p zs ≡ None → find p (zs ++ x ∷ []) ≡ Some x)
          → cond b (Some z) (find p zs) ≡ None → cond b (Some z) (find p (zs ++ x ∷ [])) ≡ Some x
      by true later h = cc
      by false later h = later h

  -- and dropped
  pub dropped_last : (xs : List X) (x : X) → find p xs ≡ None → p x ≡ true
      → dropped p (xs ++ x ∷ []) ≡ xs
  dropped_last [] x h passes = rw passes refl
  dropped_last (z ∷ zs) x h passes = by (p z) (λ e. dropped_last zs x e passes) h
    where
      by : (b : Bool) → (find p zs ≡ None → dropped p (zs ++ x ∷ []) ≡ zs)
          → cond b (Some z) (find p zs) ≡ None
          → cond b (zs ++ x ∷ []) (z ∷ dropped p (zs ++ x ∷ [])) ≡ z ∷ zs
      by true later h = cc
      by false later h = ap (λ l. z ∷ l) (later h)

  -- one member is gone
  pub dropped_one : (xs : List X) (x : X) → find p xs ≡ Some x
      → length (dropped p xs) + 1 ≡ length xs
  dropped_one [] x h = cc
  dropped_one (z ∷ zs) x h = by (p z) (dropped_one zs x) h
    where
      by : (b : Bool) → (find p zs ≡ Some x → length (dropped p zs) + 1 ≡ length zs)
          → cond b (Some z) (find p zs) ≡ Some x
          → length (cond b zs (z ∷ dropped p zs)) + 1 ≡ suc (length zs)
      by true later h = omega arith
      by false later h = let rest = later h in omega arith

  -- What another test finds it finds still, where no member passes both.
  pub find_left : (q : X → Bool) → ((x : X) → p x ≡ true → q x ≡ false)
      → (xs : List X) → find q (dropped p xs) ≡ find q xs
  find_left q apart [] = refl
  find_left q apart (z ∷ zs) = by (p z) refl (find_left q apart zs)
    where
      by : (b : Bool) → p z ≡ b → find q (dropped p zs) ≡ find q zs
          → find q (cond b zs (z ∷ dropped p zs)) ≡ cond (q z) (Some z) (find q zs)
      by true is rest = rw (apart z is) refl
      by false is rest = ap (λ o. cond (q z) (Some z) o) rest

-- a standalone entry of another name is found still, once one was dropped
pub standing_left : (n m : ℕ) (ss : List Standalone) → m ≢ n
    → find (is_standing m) (dropped (is_standing n) ss) ≡ find (is_standing m) ss
standing_left n m ss ne = find_left (is_standing n) (is_standing m) apart ss
  where
    apart : (s : Standalone) → is_standing n s ≡ true → is_standing m s ≡ false
    apart s is =
        let same : s.name ≡ n = eqb-true s.name n is in
        ne_eqb s.name m (λ e. ne (sym e ∙ same))

-- no standalone entry has a name that is past all of them
pub unused_standing : (n : ℕ) (ss : List Standalone)
    → Each (λ (s : Standalone). s.name < n) ss → find (is_standing n) ss ≡ None
unused_standing n [] all = refl
unused_standing n (s ∷ ss) all =
    let below = all.0 in
    let other : is_standing n s ≡ false = ne_eqb s.name n (λ e. absurd (omega arith)) in
    rw other (unused_standing n ss all.1)

-- names below a serial are below a later one
pub names_later : (used more : ℕ) (rs : List Record) → used ≤ more
    → Each (λ (r : Record). r.name < used) rs → Each (λ (r : Record). r.name < more) rs
names_later used more rs le all =
    each_map (λ (r : Record). r.name < used) (λ (r : Record). r.name < more)
    (λ r h. omega arith) rs all

pub standings_later : (used more : ℕ) (ss : List Standalone) → used ≤ more
    → Each (λ (s : Standalone). s.name < used) ss → Each (λ (s : Standalone). s.name < more) ss
standings_later used more ss le all =
    each_map (λ (s : Standalone). s.name < used) (λ (s : Standalone). s.name < more)
    (λ s h. omega arith) ss all
