-- Blocks, and where they lie in their files.
use Rattle.std.proofs.Common.{◌≡◌, ◌≢◌, ℕ, ◌+◌, ◌-◌, ◌*◌, ◌<◌, ◌≤◌, min, List, [], Option, Some, None, length, take, drop, refl, subst, sym, arith, inl, inr, nat_lt, length-drop}
use Rattle.std.specs.Prelude.{slice_get, IfSome}
use Rattle.std.proofs.lemmas.Bool.{cases_Bool}
use Rattle.std.proofs.lemmas.List.{length-take}
use Rattle.std.proofs.lemmas.Option.{slice_get-get_or}
use Rattle.hcc_block.specs.Blocks.{block_in, block_of}
use Rattle.hcc_block.specs.Reads.{IsAt}

-- where the next block begins
next : (index size : ℕ) → (index + 1) * size ≡ index * size + size
next index size = omega arith

module _ (files : List (List ℕ)) (size file index : ℕ) where
  there_in : (from count : ℕ) (found : Option (List ℕ)) → slice_get files file ≡ found
      → IsAt files size file index from count → file < length files
      → block_of files size file index ≢ None
  there_in from count (Some bytes) here lies within none = let e = rw here at lies.bytes in cc
  there_in from count None here lies within none =
      let there = slice_get-get_or files file [] within in cc

  -- Where a block lies there is one.
  pub block_there : (from count : ℕ) → IsAt files size file index from count
      → file < length files → block_of files size file index ≢ None
  block_there from count lies within =
      there_in from count (slice_get files file) refl lies within

module _ (files : List (List ℕ)) (size file index from count : ℕ) where
  long_in : (bytes : List ℕ) (found : Option (List ℕ)) → slice_get files file ≡ found
      → IsAt files size file index from count → block_of files size file index ≡ Some bytes
      → length bytes ≡ count
  long_in bytes (Some all) here lies is =
      let e = rw here at lies.bytes in
      let within : from + count ≤ length all = rw here at lies.within in
      let same : take count (drop from all) ≡ bytes = cc in
      rw (← same)
      (rw (length-take count (drop from all)) (omega (arith, length-drop from all)))
  long_in bytes None here lies is = let e = rw here at lies.bytes in cc

  long_by : (P : ℕ → Type 0) (block : Option (List ℕ))
      → ((bytes : List ℕ) → block ≡ Some bytes → length bytes ≡ count) → P count
      → IfSome block (λ bytes. P (length bytes))
  long_by P (Some bytes) long holds = subst P (sym (long bytes refl)) holds
  long_by P None long holds = tt

  -- A block is as long as where it lies says.
  pub block_long : (P : ℕ → Type 0) → IsAt files size file index from count → P count
      → IfSome (block_of files size file index) (λ bytes. P (length bytes))
  block_long P lies holds =
      long_by P (block_of files size file index)
      (λ bytes is. long_in bytes (slice_get files file) refl lies is) holds

short_in : (size index : ℕ) (bytes value : List ℕ) → block_in size index bytes ≡ Some value
    → length value ≤ size
short_in size index bytes value is =
    elim (cases_Bool (nat_lt (index * size) (length bytes))) [
      | inl start ↦
          let e = rw start at is in
          let from : ℕ = index * size in
          let rest = drop from bytes in
          let cut = min (length bytes) ((index + 1) * size) - from in
          let same : take cut rest ≡ value = cc in
          let few : cut ≤ size = rw (next index size) (omega arith) in
          rw (← same) (rw (length-take cut rest) (omega arith))
      | inr end ↦ let no = rw end at is in cc
    ]

short_of : (files : List (List ℕ)) (size file index : ℕ) (value : List ℕ)
    (found : Option (List ℕ)) → slice_get files file ≡ found
    → block_of files size file index ≡ Some value → length value ≤ size
unfolding block_of
short_of files size file index value (Some bytes) here is =
    let e = rw here at is in short_in size index bytes value e
short_of files size file index value None here is = let e = rw here at is in cc

-- A block is no longer than the block size.
pub block_short : (files : List (List ℕ)) (size file index : ℕ) (value : List ℕ)
    → block_of files size file index ≡ Some value → length value ≤ size
block_short files size file index value is =
    short_of files size file index value (slice_get files file) refl is
