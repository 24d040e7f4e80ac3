-- States in which registers from some number on are empty: a sum, and a count, covers what the
-- others hold.
use Rattle.std.proofs.Common.{◌≡◌, ◌≢◌, ℕ, zero, suc, ◌+◌, ◌<◌, ◌≤◌, ◌==◌, inl, inr, true, false}
use Rattle.std.proofs.Common.{Bool, List, [], ◌∷◌, None, length, refl, sym, ap, ◌∙◌, subst, arith}
use Rattle.std.proofs.Common.{rules, tests}
use Rattle.std.specs.Prelude.{Some, slice_get}
use Rattle.std.proofs.lemmas.Bool.{cases_eq, cases_lt}
use Rattle.hcc_core.specs.Sums.{total}
use Rattle.hcc_rule.specs.declared.key.Key.{Key}
use Rattle.hcc_cache.specs.declared.cache.Cache.{Cache}
use Rattle.hcc_cache.specs.declared.client.Client.{Client}
use Rattle.hcc_cache.specs.declared.config.Config.{Config}
use Rattle.hcc_cache.specs.Clients.{Insertion}
use Rattle.hcc_player.specs.declared.run.registers.Filled.{Filled}
use Rattle.hcc_player.specs.Registers.{at, AreFilled, IsFilled}
use Rattle.hcc_player.specs.RunStates.{CoversEntries, CoversHeld, State, States, charge_of}
use Rattle.hcc_player.specs.RunStates.{new_state, with_emptied, with_filled, with_state}
use Rattle.hcc_player.proofs.RegisterLemmas.{behind_at}
use Rattle.hcc_player.proofs.SumsWithin.{IsIn, Member, count_within, sum_within}

abbrev pub IsBounded : State → Type 0
IsBounded s = (n : ℕ) × ((r : ℕ) → n ≤ r → s.registers r ≡ None)

pub new_bounded : IsBounded new_state
new_bounded = (0, λ r high. refl)

pub bounded_filled : (s : State) (r : ℕ) (held : Insertion) (alone : Bool) → IsBounded s
    → IsBounded (with_filled s r held alone)
bounded_filled s r held alone b = (b.0 + r + 1, empty)
  where
    empty : (q : ℕ) → b.0 + r + 1 ≤ q → (with_filled s r held alone).registers q ≡ None
    empty q high =
        let other : q ≢ r = λ e. absurd (omega (arith, e)) in
        let no : (q == r) ≡ false = search (rules, tests) in
        rw no (b.1 q (omega arith))

pub bounded_emptied : (s : State) (r : ℕ) → IsBounded s → IsBounded (with_emptied s r)
bounded_emptied s r b = (b.0, empty)
  where
    empty : (q : ℕ) → b.0 ≤ q → (with_emptied s r).registers q ≡ None
    empty q high =
        elim (cases_eq q r) [
          | inl same ↦ let yes : (q == r) ≡ true = search (rules, tests) in rw yes refl
          | inr other ↦ let no : (q == r) ≡ false = search (rules, tests) in rw no (b.1 q high)
        ]

-- one client's state changed
pub bounded_with : (states : States) (client : ℕ) (s : State) → ((c : ℕ) → IsBounded (states c))
    → IsBounded s → (c : ℕ) → IsBounded (with_state states client s c)
bounded_with states client s bounds bounded c =
    elim (cases_eq c client) [
      | inl same ↦ let yes : (c == client) ≡ true = search (rules, tests) in rw yes bounded
      | inr other ↦
          let no : (c == client) ≡ false = search (rules, tests) in rw no (bounds c)
    ]

-- Of a client's registers.

abbrev past : List Filled → ℕ
past [] = 0
past (f ∷ fs) = f.register + 1 + past fs

at_past : (fs : List Filled) (r : ℕ) → past fs ≤ r → at fs r ≡ None
at_past [] r high = refl
at_past (f ∷ fs) r high =
    let other : f.register ≢ r = λ e. absurd (omega (arith, e)) in
    behind_at f fs r other ∙ at_past fs r (omega arith)

pub filled_bounded : {T : Type 0} (fits : T → Key → List ℕ → Type 0) (cache : Cache T)
    (config : Config) (s : State) (client : Client T) (handles : List Filled)
    → AreFilled fits cache config s client handles → IsBounded s
filled_bounded fits cache config s client handles filled = (
  past handles,
  λ r high. subst (IsFilled fits cache client (s.registers r)) (at_past handles r high)
      (filled.each r),
)

-- A sum that covers what is held.

abbrev below : ℕ → List ℕ
below zero = []
below (suc n) = n ∷ below n

below_length : (n : ℕ) → length (below n) ≡ n
below_length zero = refl
below_length (suc n) = ap suc (below_length n)

below_in : (n r : ℕ) → r < n → Member r (below n)
below_in zero r low = absurd (omega arith)
below_in (suc n) r low =
    elim (cases_eq r n) [
      | inl same ↦ inl same
      | inr other ↦ inr (below_in n r (omega (arith, other)))
    ]

abbrev pub charge_bound : State → ℕ → ℕ
charge_bound s n = total (λ r. charge_of (s.registers r)) (below n)

module _ (s : State) (b : IsBounded s) where
  abbrev Same : ℕ → ℕ → Type 0
  Same r q = s.registers r ≡ s.registers q

  one : (r q i : ℕ) → r ≡ i → q ≡ i → Same r q
  one r q i on off = ap s.registers (on ∙ sym off)

  pub covers_bounded : CoversHeld s (charge_bound s b.0)
  covers_bounded registers apart =
      sum_within charge charge (λ r i. r ≡ i) Same one registers (below b.0)
      (λ k r here. held r) apart
    where
      charge : ℕ → ℕ
      charge r = charge_of (s.registers r)

      held : (r : ℕ) → IsIn charge charge (λ r i. r ≡ i) Same one (below b.0) r
      held r =
          elim (cases_lt r b.0) [
            | inl low ↦ inr (r, refl, below_in b.0 r low, omega arith)
            | inr high ↦ inl (ap charge_of (b.1 r high))
          ]

  -- a number that is at least how many entries of the table are held
  pub entries_bounded : CoversEntries s b.0
  entries_bounded registers apart full =
      let few = count_within (λ r i. r ≡ i) Same one registers (below b.0) held apart in
      let all = below_length b.0 in
      omega arith
    where
      held : (k r : ℕ) → slice_get registers k ≡ Some r
          → (i : ℕ) × (r ≡ i) × Member i (below b.0)
      held k r here =
          elim (cases_lt r b.0) [
            | inl low ↦ (r, refl, below_in b.0 r low)
            | inr high ↦ let no : false ≡ true = rw (b.1 r high) at (full k r here).0 in cc
          ]
