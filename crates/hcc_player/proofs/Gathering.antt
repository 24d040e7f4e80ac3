-- Lists that are gathered from slots and from shards, in which nothing stands twice.
use Rattle.std.proofs.Common.{◌≡◌, ◌⊎◌, ℕ, zero, suc, ◌+◌, ◌<◌, ◌≤◌, inl, inr, Bool, true, false}
use Rattle.std.proofs.Common.{List, [], ◌∷◌, ◌++◌, Some, length, refl, sym, ap, ◌∙◌}
use Rattle.std.proofs.Common.{subst, arith}
use Rattle.std.specs.Prelude.{slice_get}
use Rattle.std.specs.List.{range_with_len}
use Rattle.hcc_core.specs.Sums.{total, when}
use Rattle.hcc_core.proofs.SumLemmas.{total-append}

-- nothing stands twice
abbrev pub AllApart : List ℕ → Type 0
AllApart [] = Unit {0}
AllApart (x ∷ xs) = ((k : ℕ) → slice_get xs k ≡ Some x → ⊥) × AllApart xs

pub apart_at : (xs : List ℕ) → AllApart xs → (j k x : ℕ) → slice_get xs j ≡ Some x
    → slice_get xs k ≡ Some x → j ≡ k
apart_at [] all j k x at on = cc
apart_at (y ∷ xs) all zero zero x at on = refl
apart_at (y ∷ xs) all zero (suc k) x at on =
    let same : y ≡ x = cc in absurd (all.0 k (on ∙ ap Some (sym same)))
apart_at (y ∷ xs) all (suc j) zero x at on =
    let same : y ≡ x = cc in absurd (all.0 j (at ∙ ap Some (sym same)))
apart_at (y ∷ xs) all (suc j) (suc k) x at on = ap suc (apart_at xs all.1 j k x at on)

-- a member of two lists, one behind the other, is a member of one of them
abbrev IsIn : List ℕ → ℕ → Type 0
IsIn xs x = (k : ℕ) × (slice_get xs k ≡ Some x)

in_append : (xs ys : List ℕ) (k x : ℕ) → slice_get (xs ++ ys) k ≡ Some x → IsIn xs x ⊎ IsIn ys x
in_append [] ys k x at = inr (k, at)
in_append (z ∷ xs) ys zero x at = inl (0, at)
in_append (z ∷ xs) ys (suc k) x at = elim (in_append xs ys k x at) [
  | inl here ↦ inl (suc here.0, here.1)
  | inr there ↦ inr there
]

apart_append : (xs ys : List ℕ) → AllApart xs → AllApart ys
    → ((x : ℕ) → IsIn xs x → IsIn ys x → ⊥) → AllApart (xs ++ ys)
apart_append [] ys first then other = then
apart_append (x ∷ xs) ys first then other = (
  λ k at. elim (in_append xs ys k x at) [
    | inl here ↦ first.0 here.0 here.1
    | inr there ↦ other x (0, refl) there
  ],
  apart_append xs ys first.1 then (λ z here there. other z (suc here.0, here.1) there),
)

-- Of slots from one on: one member for each that has an entry.
module _ (has : ℕ → Bool) (gives weighs : ℕ → ℕ) (P : ℕ → ℕ → Type 0)
    (apart : (s t p : ℕ) → P s p → P t p → s ≡ t) where
  pub record Gathers (from n : ℕ) : Type 0 where
    pub members : List ℕ
    pub count : total (λ s. when (has s) 1) (range_with_len from n) ≡ length members
    pub sum : total (λ s. when (has s) (gives s)) (range_with_len from n) ≡ total weighs members
    pub of : (k p : ℕ) → slice_get members k ≡ Some p → (s : ℕ) × (from ≤ s) × P s p
    pub all_apart : AllApart members

  gathers_one : (from n : ℕ) (b : Bool) → has from ≡ b
      → (b ≡ true → (p : ℕ) × P from p × (weighs p ≡ gives from)) → Gathers (from + 1) n
      → Gathers from (suc n)
  gathers_one from n false is some rest = record {
    members = rest.members;
    count = rw is (let count = rest.count in omega arith);
    sum = rw is (let sum = rest.sum in omega arith);
    of = λ k p at. let o = rest.of k p at in let low = o.1 in (o.0, omega arith, o.2);
    all_apart = rest.all_apart;
  }
  gathers_one from n true is some rest =
      let one = some refl in record {
        members = one.0 ∷ rest.members;
        count = rw is (let count = rest.count in omega arith);
        sum = rw is (let sum = rest.sum in let same = one.2 in omega arith);
        of = of;
        all_apart = (
          λ k at.
              let o = rest.of k one.0 at in
              let low = o.1 in
              let same = apart from o.0 one.0 one.1 o.2 in
              absurd (omega arith),
          rest.all_apart,
        );
      }
    where
      of : (k p : ℕ) → slice_get ((some refl).0 ∷ rest.members) k ≡ Some p
          → (s : ℕ) × (from ≤ s) × P s p
      of zero p at =
          (from, omega arith, subst (P from) (let e : (some refl).0 ≡ p = cc in e) (some refl).1)
      of (suc k) p at = let o = rest.of k p at in let low = o.1 in (o.0, omega arith, o.2)

  pub gathers : (from n : ℕ)
      → ((s : ℕ) → from ≤ s → s < from + n → has s ≡ true
      → (p : ℕ) × P s p × (weighs p ≡ gives s)) → Gathers from n
  gathers from zero some = record {
    members = [];
    count = refl;
    sum = refl;
    of = λ k p at. cc;
    all_apart = tt;
  }
  gathers from (suc n) some =
      gathers_one from n (has from) refl (λ on. some from (omega arith) (omega arith) on)
      (gathers (from + 1) n (λ s low high on. some s (omega arith) (omega arith) on))

-- Of shards from one on: the members of each.
module _ (slots charges : ℕ → ℕ) (weighs : ℕ → ℕ) (Q : ℕ → ℕ → Type 0)
    (apart : (s t p : ℕ) → Q s p → Q t p → s ≡ t) where
  -- the members of one
  pub record Part (s : ℕ) : Type 0 where
    pub members : List ℕ
    pub count : slots s ≡ length members
    pub sum : charges s ≡ total weighs members
    pub of : (k p : ℕ) → slice_get members k ≡ Some p → Q s p
    pub all_apart : AllApart members

  pub record Joins (from n : ℕ) : Type 0 where
    pub members : List ℕ
    pub count : total slots (range_with_len from n) ≡ length members
    pub sum : total charges (range_with_len from n) ≡ total weighs members
    pub of : (k p : ℕ) → slice_get members k ≡ Some p → (s : ℕ) × (from ≤ s) × Q s p
    pub all_apart : AllApart members

  length_both : (xs ys : List ℕ) → length (xs ++ ys) ≡ length xs + length ys
  length_both [] ys = omega arith
  length_both (x ∷ xs) ys = let rest = length_both xs ys in omega arith

  joins_one : (from n : ℕ) → Part from → Joins (from + 1) n → Joins from (suc n)
  joins_one from n part rest = record {
    members = part.members ++ rest.members;
    count =
        let many = length_both part.members rest.members in
        let count = part.count in
        let counts = rest.count in
        omega arith;
    sum =
        let many = total-append weighs part.members rest.members in
        let sum = part.sum in
        let sums = rest.sum in
        omega arith;
    of = λ k p at. elim (in_append part.members rest.members k p at) [
      | inl here ↦ (from, omega arith, part.of here.0 p here.1)
      | inr there ↦
          let o = rest.of there.0 p there.1 in let low = o.1 in (o.0, omega arith, o.2)
    ];
    all_apart = apart_append part.members rest.members part.all_apart rest.all_apart
        (λ p here there.
        let o = rest.of there.0 p there.1 in
        let low = o.1 in
        let same = apart from o.0 p (part.of here.0 p here.1) o.2 in
        absurd (omega arith));
  }

  pub joins : (from n : ℕ) → ((s : ℕ) → from ≤ s → s < from + n → Part s) → Joins from n
  joins from zero part = record {
    members = [];
    count = refl;
    sum = refl;
    of = λ k p at. cc;
    all_apart = tt;
  }
  joins from (suc n) part =
      joins_one from n (part from (omega arith) (omega arith))
      (joins (from + 1) n (λ s low high. part s (omega arith) (omega arith)))
