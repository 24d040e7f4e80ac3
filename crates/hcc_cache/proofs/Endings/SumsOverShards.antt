-- Sums over the shards of a closed cache.
use Rattle.std.proofs.Common.{◌≡◌, ℕ, zero, suc, ◌+◌, ◌*◌, ◌^◌, ◌<◌, ◌≤◌, Bool, true, false, List, [], ◌∷◌, ◌++◌, Option, Some, take, slice_get, refl, ap, add-one, arith}
use Rattle.std.specs.List.{range_with_len}
use Rattle.std.specs.declared.alloc.Global.{Global}
use Rattle.hcc_core.specs.declared.limits.TheConstants.{MOST_SLOTS}
use Rattle.hcc_core.specs.Sums.{when, total}
use Rattle.hcc_core.proofs.SumLemmas.{total-append}
use Rattle.hcc_rule.specs.Closing.{has_entry, words_of}
use Rattle.hcc_rule.proofs.Basics.Lists.{within}
use Rattle.hcc_shard.specs.declared.entries.ClosedShard.{ClosedShard}
use Rattle.hcc_shard.specs.Left.{charges_left, over_slots, slots_left}
use Rattle.hcc_cache.specs.Left.{AreWhole, given, over_shards}
use Rattle.hcc_cache.proofs.Basics.Lists.{take_snoc}

module _ (slots room : ℕ) (words : List ℕ) (f : ℕ → ℕ) where
  -- a slot gives at most this
  few_of : (most s : ℕ) (b : Bool) → (b ≡ true → f s ≤ most) → when b (f s) ≤ most
  few_of most s false low = omega arith
  few_of most s true low = low refl

  few_from : (most from : ℕ) (n : ℕ) → from + n ≤ slots
      → ((s : ℕ) → s < slots → has_entry room words s ≡ true → f s ≤ most)
      → total (λ s. when (has_entry room words s) (f s)) (range_with_len from n) ≤ n * most
  few_from most from zero inside low = omega arith
  few_from most from (suc n) inside low =
      let first = few_of most from (has_entry room words from) (low from (omega arith)) in
      let rest = few_from most (from + 1) n (omega arith) low in
      omega arith

-- What the entries of a shard give in sum is at most 2^48, where each gives at most 2^32.
few_over : (left : ClosedShard Global) (f : ℕ → ℕ)
    → left.table.geometry.slots ≤ MOST_SLOTS → ((s : ℕ) → s < left.table.geometry.slots
    → has_entry left.table.geometry.room (words_of left.table) s ≡ true → f s ≤ 2 ^ 32)
    → over_slots left.table f ≤ 2 ^ 48
few_over left f few low =
    let all = few_from left.table.geometry.slots left.table.geometry.room (words_of left.table) f
    (2 ^ 32) 0 left.table.geometry.slots (omega arith) low in
    omega arith

-- so are the charges of its entries, and their number
pub few_charges : (left : ClosedShard Global) → left.table.geometry.slots ≤ MOST_SLOTS
    → charges_left left.table ≤ 2 ^ 48
few_charges left few =
    few_over left _ few (λ s low entry. let small = left.left.small s low entry in omega arith)

pub few_slots : (left : ClosedShard Global) → left.table.geometry.slots ≤ MOST_SLOTS
    → slots_left left.table ≤ 2 ^ 48
few_slots left few = few_over left (λ s. 1) few (λ s low entry. omega arith)

-- the sum over the first shards, each with at most 2^48
pub record IsSumOf (read : ClosedShard Global → ℕ) (shards : List (Option (ClosedShard Global)))
    (k sum : ℕ) : Type 0 where
  pub is : sum ≡ over_shards (take k shards) read
  pub low : sum ≤ k * 2 ^ 48

-- no shard yet
pub sum_none : (read : ClosedShard Global → ℕ) (shards : List (Option (ClosedShard Global)))
    → IsSumOf read shards 0 0
sum_none read [] = record { is = refl; low = omega arith }
sum_none read (s ∷ shards) = record { is = refl; low = omega arith }

-- one shard more
pub sum_more : (read : ClosedShard Global → ℕ) (shards : List (Option (ClosedShard Global)))
    (k sum n : ℕ) (left : ClosedShard Global) → IsSumOf read shards k sum
    → slice_get shards k ≡ Some (Some left) → n ≡ read left → n ≤ 2 ^ 48
    → IsSumOf read shards (k + 1) (sum + n)
sum_more read shards k sum n left so here is few = record {
  is =
      let step : take (k + 1) shards ≡ take k shards ++ Some left ∷ [] =
      rw add-one (take_snoc shards k (Some left) here) in
      let parts = total-append (given read) (take k shards) (Some left ∷ []) in
      let all = ap (total (given read)) step in
      let before = so.is in
      omega arith;
  low = let low = so.low in omega arith;
}

-- The sum has room for what one shard more gives.
pub sum_fits : (read : ClosedShard Global → ℕ) (shards : List (Option (ClosedShard Global)))
    (k sum n : ℕ) (left : ClosedShard Global) → AreWhole shards → IsSumOf read shards k sum
    → slice_get shards k ≡ Some (Some left) → n ≤ 2 ^ 48 → sum + n < 2 ^ 64
sum_fits read shards k sum n left whole so here few =
    let inside = within shards k (Some left) here in
    let short = whole.short in
    let low = so.low in
    omega arith
