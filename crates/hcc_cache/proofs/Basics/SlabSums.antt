-- Sums over the slots of a slab, by what its keys read.
use Rattle.std.proofs.Common.{◌≡◌, ◌≢◌, ℕ, zero, suc, ◌+◌, ◌≤◌, Bool, true, false, cond}
use Rattle.std.proofs.Common.{List, [], ◌∷◌, Option, Some, None, is_some, get_or, slice_set}
use Rattle.std.proofs.Common.{refl, sym, ap, ◌∙◌, arith}
use Rattle.slab.specs.Slab.{Slab, get, slab_len, Updates}
use Rattle.hcc_core.specs.Sums.{total, when}
use Rattle.hcc_core.proofs.SumLemmas.{sum_by_total}
use Rattle.hcc_cache.specs.Known.{count_of}

-- Of lists of slots, where a slot behind the end reads as an empty one, which adds nothing.

module _ {X : Type 0} (f : Option X → ℕ) (none : f None ≡ 0) where
  -- lists that read the same have the same sum
  total_same : (xs ys : List (Option X)) → ((k : ℕ) → get_or xs k None ≡ get_or ys k None)
      → total f xs ≡ total f ys
  total_same [] [] same = refl
  total_same (x ∷ xs) [] same =
      let first : x ≡ None = same 0 in
      let rest = total_same xs [] (λ k. same (suc k)) in
      rw first (omega arith)
  total_same [] (y ∷ ys) same =
      let first : y ≡ None = sym (same 0) in
      let rest = total_same [] ys (λ k. same (suc k)) in
      rw first (omega arith)
  total_same (x ∷ xs) (y ∷ ys) same =
      let first : f x ≡ f y = ap f (same 0) in
      let rest = total_same xs ys (λ k. same (suc k)) in
      omega arith

  -- The sums of lists that read the same but for one slot differ by that slot.
  total_but : (xs ys : List (Option X)) (i : ℕ)
      → ((k : ℕ) → k ≢ i → get_or ys k None ≡ get_or xs k None)
      → total f ys + f (get_or xs i None) ≡ total f xs + f (get_or ys i None)
  total_but [] [] i same = refl
  total_but (x ∷ xs) [] zero same =
      let rest = total_same xs [] (λ k. sym (same (suc k) (omega arith))) in
      omega arith
  total_but (x ∷ xs) [] (suc i) same =
      let first : x ≡ None = sym (same 0 (omega arith)) in
      let rest = total_but xs [] i (λ k ne. same (suc k) (omega arith)) in
      rw first (omega arith)
  total_but [] (y ∷ ys) zero same =
      let rest = total_same [] ys (λ k. sym (same (suc k) (omega arith))) in
      omega arith
  total_but [] (y ∷ ys) (suc i) same =
      let first : y ≡ None = same 0 (omega arith) in
      let rest = total_but [] ys i (λ k ne. same (suc k) (omega arith)) in
      rw first (omega arith)
  total_but (x ∷ xs) (y ∷ ys) zero same =
      let rest = total_same xs ys (λ k. sym (same (suc k) (omega arith))) in
      omega arith
  total_but (x ∷ xs) (y ∷ ys) (suc i) same =
      let first : f y ≡ f x = ap f (same 0 (omega arith)) in
      let rest = total_but xs ys i (λ k ne. same (suc k) (omega arith)) in
      omega arith

  -- a slot is within the sum
  total_slot : (xs : List (Option X)) (i : ℕ) → f (get_or xs i None) ≤ total f xs
  total_slot [] i = omega arith
  total_slot (x ∷ xs) zero = omega arith
  total_slot (x ∷ xs) (suc i) = let rest = total_slot xs i in omega arith

-- a sum is within another where each slot is
total_below : {X : Type 0} (f g : Option X → ℕ) (xs : List (Option X))
    → ((k : ℕ) → f (get_or xs k None) ≤ g (get_or xs k None)) → total f xs ≤ total g xs
total_below f g [] below = omega arith
total_below f g (x ∷ xs) below =
    let first = below 0 in
    let rest = total_below f g xs (λ k. below (suc k)) in
    omega arith

-- Of slabs.

-- one for a value, none for an empty slot
abbrev pub one_of : {X : Type 0} → Option X → ℕ
one_of slot = cond (is_some slot) 1 0

module _ {X : Type 0} where
  -- A change of one key changes a sum by that key's slot.
  pub total_updated : (f : Option X → ℕ) → f None ≡ 0 → (old new : Slab X) (key : ℕ)
      (slot : Option X) → Updates old new key slot
      → total f new.slots + f (get old key) ≡ total f old.slots + f slot
  total_updated f none old new key slot updates =
      total_but f none old.slots new.slots key updates.others
      ∙ ap (λ o. total f old.slots + f o) updates.changed

  -- It changes a count by whether that slot passes.
  pub count_updated : (test : Option X → Bool) → test None ≡ false → (old new : Slab X) (key : ℕ)
      (slot : Option X) → Updates old new key slot
      → count_of test new + when (test (get old key)) 1 ≡ count_of test old + when (test slot) 1
  count_updated test none old new key slot updates =
      total_updated (λ o. when (test o) 1) (ap (λ b. when b 1) none) old new key slot updates

  -- Such a change is what a write to a value leaves.
  pub updates_set : (s : Slab X) (key : ℕ) (value : X) (slot : Option X) → get s key ≡ Some value
      → Updates s (record s { slots = slice_set s.slots key slot }) key slot
  updates_set s key value slot there = record {
    changed = set_here s.slots key there;
    others = set_other s.slots key;
  }
    where
      set_here : (xs : List (Option X)) (i : ℕ) → get_or xs i None ≡ Some value
          → get_or (slice_set xs i slot) i None ≡ slot
      set_here [] i h = cc
      set_here (x ∷ xs) zero h = refl
      set_here (x ∷ xs) (suc i) h = set_here xs i h

      set_other : (xs : List (Option X)) (i k : ℕ) → k ≢ i
          → get_or (slice_set xs i slot) k None ≡ get_or xs k None
      set_other [] i k ne = refl
      set_other (x ∷ xs) zero zero ne = absurd (ne refl)
      set_other (x ∷ xs) zero (suc k) ne = refl
      set_other (x ∷ xs) (suc i) zero ne = refl
      set_other (x ∷ xs) (suc i) (suc k) ne = set_other xs i k (λ e. ne (ap suc e))

  -- the length as a sum
  pub len_total : (s : Slab X) → slab_len s ≡ total one_of s.slots
  len_total s = sum_by_total one_of s.slots

  -- a slot's value is within a sum
  pub total_there : (f : Option X → ℕ) → f None ≡ 0 → (s : Slab X) (key : ℕ) (value : X)
      → get s key ≡ Some value → f (Some value) ≤ total f s.slots
  total_there f none s key value there =
      let within = total_slot f none s.slots key in
      let is : f (get s key) ≡ f (Some value) = ap f there in
      omega arith

  -- a value that passes is counted
  pub count_there : (test : Option X → Bool) → test None ≡ false → (s : Slab X) (key : ℕ)
      (value : X) → get s key ≡ Some value → test (Some value) ≡ true → 1 ≤ count_of test s
  count_there test none s key value there passes =
      let within = total_there (λ o. when (test o) 1) (ap (λ b. when b 1) none) s key value there in
      let one : when (test (Some value)) 1 ≡ 1 = ap (λ b. when b 1) passes in
      omega arith

  -- where none is counted, no value passes
  pub count_nothing : (test : Option X → Bool) → test None ≡ false → (s : Slab X) (key : ℕ)
      (value : X) → count_of test s ≡ 0 → get s key ≡ Some value → test (Some value) ≡ false
  count_nothing test none s key value empty there = by (test (Some value)) refl
    where
      by : (b : Bool) → test (Some value) ≡ b → b ≡ false
      by true passes =
          let some = count_there test none s key value there passes in
          absurd (omega arith)
      by false passes = refl

  -- a value makes the length at least 1
  pub len_there : (s : Slab X) (key : ℕ) (value : X) → get s key ≡ Some value → 1 ≤ slab_len s
  len_there s key value there =
      let within = total_there one_of refl s key value there in
      let len = len_total s in
      omega arith

  -- a slab of no length has no value
  pub len_nothing : (s : Slab X) (key : ℕ) → slab_len s ≡ 0 → get s key ≡ None
  len_nothing s key empty = by (get s key) refl
    where
      by : (o : Option X) → get s key ≡ o → o ≡ None
      by None there = refl
      by (Some value) there =
          let some = len_there s key value there in
          absurd (omega arith)

  -- what is counted is within the length
  pub count_within : (test : Option X → Bool) → test None ≡ false → (s : Slab X)
      → count_of test s ≤ slab_len s
  count_within test none s =
      let below = total_below (λ o. when (test o) 1) one_of s.slots (λ k. by (get s k)) in
      let len = len_total s in
      omega arith
    where
      at_most : (b : Bool) → when b 1 ≤ 1
      at_most true = omega arith
      at_most false = omega arith

      by : (o : Option X) → when (test o) 1 ≤ one_of o
      by None = rw none (omega arith)
      by (Some value) = at_most (test (Some value))

  -- The length is within a sum to which each value gives something.
  pub len_within : (f : Option X → ℕ) → (s : Slab X)
      → ((key : ℕ) (value : X) → get s key ≡ Some value → 1 ≤ f (Some value))
      → slab_len s ≤ total f s.slots
  len_within f s some =
      let below = total_below one_of f s.slots (λ k. by k (get s k) refl) in
      let len = len_total s in
      omega arith
    where
      by : (k : ℕ) (o : Option X) → get s k ≡ o → one_of o ≤ f o
      by k None there = omega arith
      by k (Some value) there = some k value there

  -- The length changes by whether there was a value, and whether there is one.
  pub len_updated : (old new : Slab X) (key : ℕ) (slot : Option X) → Updates old new key slot
      → slab_len new + one_of (get old key) ≡ slab_len old + one_of slot
  len_updated old new key slot updates =
      let change = total_updated one_of refl old new key slot updates in
      let was = len_total old in
      let is = len_total new in
      omega arith

  -- A count once a value was removed, and the length.
  pub count_removed : (test : Option X → Bool) → test None ≡ false → (old new : Slab X) (key : ℕ)
      (value : X) → get old key ≡ Some value → Updates old new key None
      → count_of test new + when (test (Some value)) 1 ≡ count_of test old
  count_removed test none old new key value there updates =
      let change = count_updated test none old new key None updates in
      let nothing : when (test None) 1 ≡ 0 = ap (λ b. when b 1) none in
      let was : when (test (get old key)) 1 ≡ when (test (Some value)) 1 =
      ap (λ o. when (test o) 1) there in
      omega arith
