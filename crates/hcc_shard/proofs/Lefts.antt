-- Sums over the slots of a closed shard, slot by slot.
use Rattle.std.proofs.Common.{◌≡◌, ℕ, ◌+◌, ◌*◌, ◌≤◌, List, [], ◌∷◌, length, map, sym, refl, ap, ◌∙◌, arith}
use Rattle.std.specs.List.{range_with_len}
use Rattle.std.proofs.lemmas.List.FromFn.{sum_by-map-range_with_len_more}
use Rattle.hcc_core.specs.Sums.{when, total}
use Rattle.hcc_core.proofs.SumLemmas.{sum_by_total}
use Rattle.hcc_rule.specs.declared.geometry.Geometry.{Geometry}
use Rattle.hcc_rule.specs.declared.key.Key.{Key}
use Rattle.hcc_rule.specs.declared.layout.TheConstants.{CHARGE, LENGTH}
use Rattle.hcc_rule.specs.declared.view.View.{View}
use Rattle.hcc_rule.specs.Closing.{Closes, data_at, has_entry, over_entries}
use Rattle.hcc_shard.specs.Left.{AreLeft}

total_map : (f : ℕ → ℕ) (xs : List ℕ) → total (λ n. n) (map f xs) ≡ total f xs
total_map f [] = refl
total_map f (x ∷ xs) = ap (λ n. f x + n) (total_map f xs)

-- one number more
pub total_more : (f : ℕ → ℕ) (n : ℕ)
    → total f (range_with_len 0 (n + 1)) ≡ total f (range_with_len 0 n) + f n
total_more f n =
    sym (total_map f (range_with_len 0 (n + 1)))
    ∙ (sym (sum_by_total (λ n. n) (map f (range_with_len 0 (n + 1))))
    ∙ (sum_by-map-range_with_len_more (λ n. n) f 0 n n (omega arith)
    ∙ ap (λ z. z + f n) (sum_by_total (λ n. n) (map f (range_with_len 0 n))
    ∙ total_map f (range_with_len 0 n))))

module _ (room : ℕ) (words : List ℕ) (f : ℕ → ℕ) where
  -- the slots before this one were summed up, each with less than this
  pub record IsSumming (most k sum : ℕ) : Type 0 where
    pub is : sum ≡ over_entries room words k f
    pub low : sum ≤ k * most

  pub sums_none : (most : ℕ) → IsSumming most 0 0
  sums_none most = record { is = refl; low = omega arith }

  -- one slot more
  pub sums_on : (most k sum n : ℕ) → IsSumming most k sum
      → n ≡ when (has_entry room words k) (f k) → n ≤ most → IsSumming most (k + 1) (sum + n)
  sums_on most k sum n s here few = record {
    is =
        let more = total_more (λ s. when (has_entry room words s) (f s)) k in
        let before = s.is in
        omega arith;
    low = let low = s.low in omega arith;
  }

-- What is told of the words of a closed shard holds of what is left of it.
pub left_of : {T : Type 0} (fits : T → Key → List ℕ → Type 0) (tag : T) (geometry : Geometry)
    (words : List ℕ) (v : View T) → Closes fits tag geometry words v
    → AreLeft geometry.slots geometry.room words
left_of fits tag geometry words v c = record {
  settled = c.settled;
  paid = λ s low entry.
      (let kept = c.kept s low entry in
      let charge : data_at geometry.room words s CHARGE ≡ kept.made.charge =
      kept.says CHARGE (omega arith) in
      let paid = kept.right.paid in
      omega arith);
  small = λ s low entry.
      (let kept = c.kept s low entry in
      let charge : data_at geometry.room words s CHARGE ≡ kept.made.charge =
      kept.says CHARGE (omega arith) in
      let small = kept.right.small in
      omega arith);
  short = λ s low entry.
      (let kept = c.kept s low entry in
      let bytes : data_at geometry.room words s LENGTH ≡ length kept.made.value =
      kept.says LENGTH (omega arith) in
      let short = kept.right.short in
      omega arith);
  uses = c.uses;
  places = c.places;
}
