-- How many entries clients made, at all shards, as the lines of a trace are played.
use Rattle.std.proofs.Common.{◌≡◌, ◌≢◌, inl, inr, ℕ, zero, suc, ◌+◌, ◌<◌, ◌≤◌, List, [], ◌∷◌, ◌++◌}
use Rattle.std.proofs.Common.{Option, Some, None, is_some, length, refl, ap, ◌∙◌, arith}
use Rattle.std.specs.Prelude.{slice_get, slice_set}
use Rattle.std.specs.List.{range_with_len}
use Rattle.std.proofs.lemmas.Bool.{cases_eq}
use Rattle.hcc_core.specs.Sums.{total, when}
use Rattle.hcc_core.proofs.SumLemmas.{total-set}
use Rattle.hcc_rule.specs.declared.view.Made.{Made}
use Rattle.hcc_cache.specs.declared.cache.Cache.{Cache}
use Rattle.hcc_cache.specs.declared.client.Client.{Client}
use Rattle.hcc_cache.specs.Clients.{Insertion}
use Rattle.hcc_player.proofs.MadeLemmas.{Adds, made_in}

-- Sums over shards.

-- each shard gives the same
pub range_same : (f g : ℕ → ℕ) (from n : ℕ) → ((s : ℕ) → from ≤ s → s < from + n → f s ≡ g s)
    → total f (range_with_len from n) ≡ total g (range_with_len from n)
range_same f g from zero h = refl
range_same f g from (suc n) h =
    let first = h from (omega arith) (omega arith) in
    let rest = range_same f g (from + 1) n (λ s low high. h s (omega arith) (omega arith)) in
    omega arith

-- one of them gives one more
range_one : (f g : ℕ → ℕ) (here from n : ℕ) → from ≤ here → here < from + n
    → f here ≡ g here + 1 → ((s : ℕ) → s ≢ here → f s ≡ g s)
    → total f (range_with_len from n) ≡ total g (range_with_len from n) + 1
range_one f g here from zero low high more others = absurd (omega arith)
range_one f g here from (suc n) low high more others =
    elim (cases_eq from here) [
      | inl same ↦
          let first : f from ≡ g from + 1 = rw same more in
          let rest = range_same f g (from + 1) n
          (λ s above within. others s (λ e. absurd (omega (arith, e)))) in
          omega arith
      | inr other ↦
          let first = others from other in
          let rest = range_one f g here (from + 1) n (omega arith) (omega arith) more others in
          omega arith
    ]

module _ {T : Type 0} where
  -- how many entries clients made at a shard, and at so many shards
  abbrev pub made_at : ℕ → List (Client T) → ℕ
  made_at s clients = total (λ c. length (made_in s c)) clients

  abbrev pub made_over : ℕ → List (Client T) → ℕ
  made_over count clients = total (λ s. made_at s clients) (range_with_len 0 count)

  -- one client made nothing, or one entry
  at_none : (s n : ℕ) (clients : List (Client T)) (old new : Client T)
      → slice_get clients n ≡ Some old → made_in s new ≡ made_in s old
      → made_at s (slice_set clients n new) ≡ made_at s clients
  at_none s n clients old new at same =
      let set = total-set (λ (c : Client T). length (made_in s c)) clients n old new at in
      let e : length (made_in s new) ≡ length (made_in s old) = ap length same in
      omega arith

  at_one : (s n : ℕ) (clients : List (Client T)) (old new : Client T) (made : Made)
      → slice_get clients n ≡ Some old → made_in s new ≡ made_in s old ++ made ∷ []
      → made_at s (slice_set clients n new) ≡ made_at s clients + 1
  at_one s n clients old new made at more =
      let set = total-set (λ (c : Client T). length (made_in s c)) clients n old new at in
      let e : length (made_in s new) ≡ length (made_in s old) + 1 =
      ap length more ∙ longer (made_in s old) made in
      omega arith
    where
      longer : (xs : List Made) (x : Made) → length (xs ++ x ∷ []) ≡ length xs + 1
      longer [] x = refl
      longer (y ∷ ys) x = let rest = longer ys x in omega arith

module _ {T : Type 0} (cache : Cache T) where
  -- a line adds what was placed
  pub over_adds : (n : ℕ) (clients : List (Client T)) (old new : Client T) (alone : ℕ)
      (placed : Option Insertion)
      → slice_get clients n ≡ Some old → Adds cache alone placed old new
      → made_over (length cache.shards.items) (slice_set clients n new)
      ≡ made_over (length cache.shards.items) clients + when (is_some placed) 1
  over_adds n clients old new alone None at adds =
      let same = range_same (λ s. made_at s (slice_set clients n new)) (λ s. made_at s clients) 0
      (length cache.shards.items) (λ s low high. at_none s n clients old new at (adds.same s)) in
      omega arith
  over_adds n clients old new alone (Some placed) at adds =
      range_one (λ s. made_at s (slice_set clients n new)) (λ s. made_at s clients) _ 0
      (length cache.shards.items) (omega arith) (let w = adds.within in omega arith)
      (at_one _ n clients old new adds.made at adds.more)
      (λ s other. at_none s n clients old new at (adds.others s other))
