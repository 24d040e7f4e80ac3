-- What fits the key of a block.
use Rattle.std.proofs.Common.{◌≡◌, ℕ, ◌+◌, ◌*◌, ◌^◌, ◌<◌, List, Some, ap, arith, subst}
use Rattle.hcc_rule.specs.declared.key.Key.{Key}
use Rattle.hcc_block.specs.Blocks.{block_of, key_of, FitsBlocks, IsBlock}

-- The key of a block names it alone.
block_named : (files : List (List ℕ)) (size file index : ℕ) (value : List ℕ)
    → file < 2 ^ 32 → index < 2 ^ 32 → IsBlock files size (key_of file index) value
    → block_of files size file index ≡ Some value
unfolding key_of
block_named files size file index value small_file small_index is =
    let w0 : index * 2 ^ 32 + file ≡ is.index * 2 ^ 32 + is.file =
    ap (λ (k : Key). k.w0) is.named in
    let few = is.small_file in
    let same_index : is.index ≡ index = omega arith in
    let same_file : is.file ≡ file = omega arith in
    rw (← same_index, ← same_file) is.block

module _ (fits : Key → List ℕ → Type 0) (files : List (List ℕ)) (size file index : ℕ) where
  -- What fits the key of a block is that block.
  pub fits_only : (key : Key) (value : List ℕ) → FitsBlocks fits files size
      → key ≡ key_of file index → file < 2 ^ 32 → index < 2 ^ 32 → fits key value
      → block_of files size file index ≡ Some value
  fits_only key value right named small_file small_index fitting =
      block_named files size file index value small_file small_index
      (subst (λ k. IsBlock files size k value) named (right.only key value fitting))

  -- A block fits its key.
  pub fits_its : (key : Key) (value : List ℕ) → FitsBlocks fits files size
      → key ≡ key_of file index → file < 2 ^ 32 → index < 2 ^ 32
      → block_of files size file index ≡ Some value → fits key value
  fits_its key value right named small_file small_index block =
      right.all key value (record {
        file = file;
        index = index;
        small_file = small_file;
        small_index = small_index;
        named = named;
        block = block;
      })
