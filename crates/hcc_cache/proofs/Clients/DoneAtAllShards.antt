-- What a client does at all shards, one after the other.
use Rattle.std.proofs.Common.{mul-suc, ◌≡◌, inl, inr, ℕ, zero, suc, ◌+◌, ◌-◌, ◌*◌, ◌^◌, ◌<◌, ◌≤◌, min, nat_lt, Bool, true, false, List, [], ◌∷◌, length, subst, refl, ap, ◌∙◌, arith}
use Rattle.std.proofs.lemmas.Bool.{cases_eq, ltb-false, ltb-true}
use Rattle.hcc_core.specs.Sums.{total}
use Rattle.hcc_rule.specs.declared.view.View.{View}
use Rattle.hcc_table.specs.Searched.{Sought}
use Rattle.hcc_table.proofs.Searches.{searched_refl}
use Rattle.hcc_shard.specs.declared.seat.ShardSeat.{ShardSeat}
use Rattle.hcc_shard.specs.Callers.{view_of}
use Rattle.hcc_cache.specs.declared.cache.Cache.{Cache}
use Rattle.hcc_cache.specs.declared.client.Client.{Client}
use Rattle.hcc_cache.specs.declared.seeded.Seeded.{Seeded}
use Rattle.hcc_cache.specs.Calls.{IsSelf, KeepsAll, TakesAtMost, Works, steps_by}
use Rattle.hcc_cache.specs.Clients.{view_at, view_in}
use Rattle.hcc_cache.specs.Known.{Knows}

-- the sum of what the first so many numbers give
abbrev pub sum_to : ℕ → (ℕ → ℕ) → ℕ
sum_to zero f = 0
sum_to (suc k) f = sum_to k f + f k

-- with the next number
pub sum_next : (k : ℕ) (f : ℕ → ℕ) → sum_to (k + 1) f ≡ sum_to k f + f k
sum_next k f =
    let next : suc k ≡ k + 1 = omega arith in
    subst (λ n. sum_to n f ≡ sum_to k f + f k) next refl

-- the first of them apart
sum_first : (k : ℕ) (f : ℕ → ℕ) → sum_to (suc k) f ≡ f 0 + sum_to k (λ s. f (suc s))
sum_first zero f = omega arith
sum_first (suc k) f = let rest = sum_first k f in omega arith

-- A sum over seats is one over the numbers of their shards.
pub sum_all : {T : Type 0} (f : View T → ℕ) (seats : List (ShardSeat T))
    → total (λ (s : ShardSeat T). f (view_of s)) seats
    ≡ sum_to (length seats) (λ s. f (view_in seats s))
sum_all f [] = refl
sum_all f (seat ∷ seats) =
    let rest = sum_all f seats in
    let first = sum_first (length seats) (λ s. f (view_in (seat ∷ seats) s)) in
    omega arith

module _ {T : Type 0} (cache : Cache T) (R : View (Seeded T) → View (Seeded T) → Type 0) where
  -- A client went through the first so many shards, from the first client on: at each of them its
  -- view was changed so, and at no other.
  pub record GoesThrough (most : ℕ) (old now : Client T) (k : ℕ) : Type 0 where
    pub knows : Knows cache now
    pub keeps : KeepsAll cache old now
    pub self : IsSelf old now
    pub done : (s : ℕ) → s < k → R (view_at s old) (view_at s now)
    pub left : (s : ℕ) → k ≤ s → view_at s now ≡ view_at s old
    pub steps : steps_by now ≤ steps_by old + most * k

  pub goes_first : (most : ℕ) (old : Client T) → Knows cache old → GoesThrough most old old 0
  goes_first most old knows = record {
    knows = knows;
    keeps = record { all = λ h. refl; count = refl; serials = (refl, refl) };
    self = (refl, refl, refl);
    done = λ s low. absurd (omega arith);
    left = λ s low. refl;
    steps = omega arith;
  }

  pub goes_on : (most : ℕ) (old now next : Client T) (k : ℕ) (w : View (Seeded T))
      → GoesThrough most old now k → Knows cache next → KeepsAll cache now next
      → Works k now next (view_at k now) w → R (view_at k old) w → TakesAtMost most now next
      → GoesThrough most old next (k + 1)
  goes_on most old now next k w g knows keeps works does takes = record {
    knows = knows;
    keeps = record {
      all = λ h. keeps.all h ∙ g.keeps.all h;
      count = keeps.count ∙ g.keeps.count;
      serials = (
        keeps.serials.0 ∙ g.keeps.serials.0,
        keeps.serials.1 ∙ g.keeps.serials.1,
      );
    };
    self = (
      works.self.0 ∙ g.self.0,
      works.self.1 ∙ g.self.1,
      works.self.2 ∙ g.self.2,
    );
    done = λ s low. elim (cases_eq s k) [
      | inl same ↦ rw (ap (λ j. view_at j old) same, ap (λ j. view_at j next) same, works.after)
          does
      | inr ne ↦ rw (works.others s ne) (g.done s (omega arith))
    ];
    left = λ s low.
        let ne : ¬ (s ≡ k) = λ e. absurd (omega arith) in
        works.others s ne ∙ g.left s (omega arith);
    steps = let before = g.steps in let one = mul-suc most k in omega arith;
  }

-- Through all of them it searched each, or none.
pub sought_all : {T : Type 0} (cache : Cache T) (most : ℕ) (old now : Client T) (k : ℕ)
    → GoesThrough cache Sought most old now k → (s : ℕ) → Sought (view_at s old) (view_at s now)
sought_all cache most old now k g s = by (nat_lt s k) refl
  where
    by : (b : Bool) → nat_lt s k ≡ b → Sought (view_at s old) (view_at s now)
    by true low = g.done s (ltb-true s k low)
    by false past = rw (g.left s (ltb-false s k past)) (searched_refl (view_at s old))

-- what was summed so far, or the greatest count
pub most_counted : (a b sum more : ℕ) → min a (2 ^ 64 - 1) ≤ sum → b ≤ more
    → min (a + b) (2 ^ 64 - 1) ≤ min (sum + more) (2 ^ 64 - 1)
most_counted a b sum more low least = omega arith

pub same_counted : (a b sum more : ℕ) → sum ≡ min a (2 ^ 64 - 1) → more ≡ b
    → min (sum + more) (2 ^ 64 - 1) ≡ min (a + b) (2 ^ 64 - 1)
same_counted a b sum more is same = omega arith
