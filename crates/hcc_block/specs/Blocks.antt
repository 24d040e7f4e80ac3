-- Blocks of files, and their keys.
use Rattle.std.specs.Prelude.{◌≡◌, ℕ, ◌+◌, ◌-◌, ◌*◌, ◌^◌, ◌<◌, nat_lt, min, List, Option, Some, None, length, take, drop, slice_get, if◌then◌else◌, option_and_then}
use Rattle.hcc_rule.specs.declared.key.Key.{Key}

-- the bytes of a file from the first place up to the second
abbrev pub bytes_between : (from to : ℕ) → List ℕ → List ℕ
bytes_between from to bytes = take (to - from) (drop from bytes)

-- The block of this number in a file, from 0. The last one may be shorter, and there is none from
-- the file's end on.
abbrev pub block_in : (size index : ℕ) → List ℕ → Option (List ℕ)
block_in size index bytes =
    if nat_lt (index * size) (length bytes)
    then Some (bytes_between (index * size) (min (length bytes) ((index + 1) * size)) bytes)
    else None

-- the block of this number in a file of the list, if there is such a file
unfoldable pub block_of : List (List ℕ) → (size file index : ℕ) → Option (List ℕ)
block_of files size file index = option_and_then (block_in size index) (slice_get files file)

-- the key of a block
unfoldable pub key_of : (file index : ℕ) → Key
key_of file index = record { w0 = index * 2 ^ 32 + file; w1 = file * 2 ^ 32 + index }

-- The value is the block that the key names.
pub record IsBlock (files : List (List ℕ)) (size : ℕ) (key : Key) (value : List ℕ) : Type 0 where
  pub file : ℕ
  pub index : ℕ
  pub small_file : file < 2 ^ 32
  pub small_index : index < 2 ^ 32
  pub named : key ≡ key_of file index
  pub block : block_of files size file index ≡ Some value

-- What fits a key is the block of these files that it names, and nothing else.
pub record FitsBlocks (fits : Key → List ℕ → Type 0) (files : List (List ℕ)) (size : ℕ) : Type 0
  where
    pub only : (key : Key) (value : List ℕ) → fits key value → IsBlock files size key value
    pub all : (key : Key) (value : List ℕ) → IsBlock files size key value → fits key value
