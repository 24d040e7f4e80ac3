-- What the tag of a cache of blocks names.
use Rattle.std.specs.Prelude.{ℕ, List, map}
use Rattle.hcc_rule.specs.declared.key.Key.{Key}
use Rattle.hcc_block.specs.declared.tag.FilesTag.{FilesTag}
use Rattle.hcc_block.specs.Blocks.{IsBlock}

-- the bytes of the files
abbrev pub files_of : FilesTag → List (List ℕ)
files_of tag = map (λ file. file.items) tag.files.now

-- a value fits a key where it is the block that the key names
abbrev pub fits_files : FilesTag → Key → List ℕ → Type 0
fits_files tag = IsBlock (files_of tag) tag.block
