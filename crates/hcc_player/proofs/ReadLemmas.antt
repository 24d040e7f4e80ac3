-- What a client's reads did on the cache, one after another.
use Rattle.std.proofs.Common.{◌≡◌, ℕ, zero, suc, ◌+◌, ◌<◌, ◌≤◌, ◌^◌, inl, inr, List, [], ◌∷◌}
use Rattle.std.proofs.Common.{Some}
use Rattle.std.proofs.Common.{None, Result, Ok, Err, map, get_or, drop, length, refl, sym, ap, ◌∙◌}
use Rattle.std.proofs.Common.{subst, arith}
use Rattle.std.specs.Prelude.{slice_get}
use Rattle.std.proofs.Math.Nat.{min-eq_left}
use Rattle.std.proofs.lemmas.List.{drop_more, drop_all}
use Rattle.hcc_rule.specs.declared.key.Key.{Key}
use Rattle.hcc_cache.specs.declared.cache.Cache.{Cache}
use Rattle.hcc_cache.specs.declared.client.Client.{Client}
use Rattle.hcc_block.specs.declared.reader.BlockReader.{BlockReader}
use Rattle.hcc_block.specs.declared.reader.ReadError.{ReadError}
use Rattle.hcc_block.specs.declared.reader.ReadError.TheVariants.{NoSuchBlock, SourceFault}
use Rattle.hcc_block.specs.Blocks.{block_of, key_of}
use Rattle.hcc_block.specs.Reads.{CountsHit, CountsMiss, CountsRead, GoesThrough, one_more}
use Rattle.hcc_player.specs.declared.blocks.line.BlockRead.{BlockRead}
use Rattle.hcc_player.specs.declared.blocks.tally.BlockTally.{BlockTally}
use Rattle.hcc_player.specs.Reading.{HitCounts, ReadsLine, ReadsLines, counts_in}

-- a count that isn't the greatest
more_is : (n : ℕ) → n < 2 ^ 63 → one_more n ≡ n + 1
more_is n small = min-eq_left (omega arith)

module _ {S : Type 0} (old new : BlockReader S) (was is : BlockTally) where
  hit_counts : old.hits < 2 ^ 63 → CountsHit old new → is.faults ≡ was.faults
      → counts_in new is ≡ record (counts_in old was) { hits = old.hits + 1 }
  hit_counts small counts same = rw (counts, same, more_is old.hits small) refl

  miss_counts : old.misses < 2 ^ 63 → CountsMiss old new → is.faults ≡ was.faults
      → counts_in new is ≡ record (counts_in old was) { misses = old.misses + 1 }
  miss_counts small counts same =
      let hits : new.hits ≡ old.hits = ap (λ (r : BlockReader S). r.hits) counts in
      let misses : new.misses ≡ old.misses + 1 =
      ap (λ (r : BlockReader S). r.misses) counts ∙ more_is old.misses small in
      rw (hits, misses, same) refl

  fault_counts : old.misses < 2 ^ 63 → CountsMiss old new → is.faults ≡ was.faults + 1
      → counts_in new is
      ≡ record (counts_in old was) { misses = old.misses + 1; faults = was.faults + 1 }
  fault_counts small counts more =
      let hits : new.hits ≡ old.hits = ap (λ (r : BlockReader S). r.hits) counts in
      let misses : new.misses ≡ old.misses + 1 =
      ap (λ (r : BlockReader S). r.misses) counts ∙ more_is old.misses small in
      rw (hits, misses, more) refl

-- what a read adds to the count of faults, by its answer
abbrev pub FaultsAs : Result ℕ ReadError → (old new : BlockTally) → Type 0
FaultsAs (Ok count) old new = new.faults ≡ old.faults
FaultsAs (Err NoSuchBlock) old new = new.faults ≡ old.faults
FaultsAs (Err SourceFault) old new = new.faults ≡ old.faults + 1

module _ {T S : Type 0} (fits : T → Key → List ℕ → Type 0) (cache : Cache T)
    (files : List (List ℕ)) (size : ℕ) where
  -- a read that was answered so
  pub reads_line : (line : BlockRead) (answer : Result ℕ ReadError) (old new : BlockReader S)
      (was is : BlockTally) (client after : Client T) → old.hits < 2 ^ 63 → old.misses < 2 ^ 63
      → CountsRead answer old new
      → (answer ≡ Err NoSuchBlock → block_of files size line.file line.index ≡ None)
      → FaultsAs answer was is
      → GoesThrough fits cache (key_of line.file line.index)
      (block_of files size line.file line.index) answer old new client after
      → ReadsLine fits cache files size line (counts_in old was) (counts_in new is) client after
  unfolding GoesThrough
  reads_line line (Ok count) old new was is client after few less counts none faults goes =
      elim goes [
        | inl hit ↦ inl (hit.1, hit_counts old new was is few hit.0 faults)
        | inr miss ↦ inr (inl (miss.1, miss_counts old new was is less miss.0 faults))
      ]
  reads_line line (Err NoSuchBlock) old new was is client after few less counts none faults goes =
      inr (inr (inr (none refl, goes, rw (counts, faults) refl)))
  reads_line line (Err SourceFault) old new was is client after few less counts none faults goes =
      inr (inr (inl (goes, fault_counts old new was is less counts faults)))

module _ {T : Type 0} (fits : T → Key → List ℕ → Type 0) (cache : Cache T)
    (files : List (List ℕ)) (size : ℕ) where
  -- what the lines from a place on add to what those before it did
  abbrev pub ReadsOn : (lines : List BlockRead) → (place : ℕ) → (first now : HitCounts)
      → (client here : Client T) → Type 0
  ReadsOn lines place first now client here =
      (last : HitCounts) (after : Client T)
      → ReadsLines fits cache files size (drop place lines) now last here after
      → ReadsLines fits cache files size lines first last client after

  -- one line more
  pub reads_on : (lines : List BlockRead) (place : ℕ) (d : BlockRead) (first now next : HitCounts)
      (client here there : Client T) → place < length lines
      → ReadsOn lines place first now client here
      → ReadsLine fits cache files size (get_or lines place d) now next here there
      → ReadsOn lines (place + 1) first next client there
  reads_on lines place d first now next client here there within so_far one last after rest =
      so_far last after
      (subst (λ left. ReadsLines fits cache files size left now last here after)
      (sym (drop_more lines place d within)) (next, there, one, rest))

  -- no line is left
  pub reads_all : (lines : List BlockRead) (place : ℕ) (first now : HitCounts)
      (client here : Client T) → length lines ≤ place
      → ReadsOn lines place first now client here
      → ReadsLines fits cache files size lines first now client here
  reads_all lines place first now client here past so_far =
      so_far now here
      (subst (λ left. ReadsLines fits cache files size left now now here here)
      (sym (drop_all place lines past)) (refl, refl))

-- a member of a list that a function makes of another
pub at_map : {A B : Type 0} (f : A → B) (xs : List A) (k : ℕ) (y : B)
    → slice_get (map f xs) k ≡ Some y → (x : A) × (slice_get xs k ≡ Some x) × (f x ≡ y)
at_map f [] k y here = cc
at_map f (x ∷ xs) zero y here = (x, refl, cc)
at_map f (x ∷ xs) (suc k) y here = at_map f xs k y here
