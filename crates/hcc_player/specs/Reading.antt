-- What a client does on the cache for its lines of a trace of block reads.
use Rattle.std.specs.Prelude.{◌≡◌, ◌⊎◌, ◌≤◌, ℕ, ◌+◌, List, [], ◌∷◌, Some, None, length}
use Rattle.std.specs.Prelude.{slice_get}
use Rattle.hcc_core.specs.Sums.{total}
use Rattle.hcc_rule.specs.declared.key.Key.{Key}
use Rattle.hcc_cache.specs.declared.cache.Cache.{Cache}
use Rattle.hcc_cache.specs.declared.client.Client.{Client}
use Rattle.hcc_cache.specs.declared.closed.Closed.{Closed}
use Rattle.hcc_cache.specs.Closings.{AreBack, IsClosed}
use Rattle.hcc_cache.specs.Opened.{IsOpened}
use Rattle.hcc_cache.specs.Totals.{taken_by}
use Rattle.hcc_block.specs.declared.reader.BlockReader.{BlockReader}
use Rattle.hcc_block.specs.declared.tag.FilesTag.{FilesTag}
use Rattle.hcc_block.specs.Blocks.{block_of, key_of}
use Rattle.hcc_block.specs.Reads.{Copies, Lacks, Loads}
use Rattle.hcc_block.specs.Tags.{files_of, fits_files}
use Rattle.hcc_player.specs.declared.blocks.line.BlockRead.{BlockRead}
use Rattle.hcc_player.specs.declared.blocks.tally.ClientReport.{ClientReport}
use Rattle.hcc_player.specs.declared.blocks.tally.BlockTally.{BlockTally}
use Rattle.hcc_player.specs.declared.options.Options.{Options}
use Rattle.hcc_player.specs.declared.sums.Sums.{Sums}
use Rattle.hcc_player.specs.BlocksLeft.{LeavesBlocks, reads_by}
use Rattle.hcc_player.specs.Sums.{AreSumsOf}
use Rattle.hcc_player.specs.Tally.{found_by}

-- how often a client's reads were hits, misses and faults
pub record HitCounts : Type 0 where
  pub hits : ℕ
  pub misses : ℕ
  pub faults : ℕ

abbrev pub no_counts : HitCounts
no_counts = record { hits = 0; misses = 0; faults = 0 }

abbrev pub counts_of : ClientReport → HitCounts
counts_of r = record { hits = r.hits; misses = r.misses; faults = r.tally.faults }

-- so far, as a reader and a tally count them
abbrev pub counts_in : {S : Type 0} → BlockReader S → BlockTally → HitCounts
counts_in reader tally =
    record { hits = reader.hits; misses = reader.misses; faults = tally.faults }

module _ {T : Type 0} (fits : T → Key → List ℕ → Type 0) (cache : Cache T)
    (files : List (List ℕ)) (size : ℕ) where
  -- A read of a line's block, and how it counts: a hit copied the entry that was found; a miss
  -- found none, and the block was inserted, or the source failed; where there is no such block,
  -- nothing was done.
  abbrev pub ReadsLine : BlockRead → (old new : HitCounts) → (was is : Client T) → Type 0
  ReadsLine line old new was is =
      (Copies cache (key_of line.file line.index) fits was is
      × (new ≡ record old { hits = old.hits + 1 }))
      ⊎ (Loads cache (key_of line.file line.index) fits (block_of files size line.file line.index)
      was is × (new ≡ record old { misses = old.misses + 1 }))
      ⊎ (Lacks cache (key_of line.file line.index) fits was is
      × (new ≡ record old { misses = old.misses + 1; faults = old.faults + 1 }))
      ⊎ ((block_of files size line.file line.index ≡ None) × (is ≡ was) × (new ≡ old))

  -- such reads, one after another
  abbrev pub ReadsLines : List BlockRead → (old new : HitCounts) → (was is : Client T) → Type 0
  ReadsLines [] old new was is = (new ≡ old) × (is ≡ was)
  ReadsLines (line ∷ lines) old new was is =
      (between : HitCounts) × (client : Client T) × ReadsLine line old between was client
      × ReadsLines lines between new client is

-- Clients played their reads on one new cache of these options, over these files, and report how
-- they went. Then it was closed, and these are its sums: what is left, and what they took, was
-- inserted for misses that weren't faults; and what is left are blocks that their lines name.
pub record IsReadOf (files : List (List ℕ)) (o : Options)
    (reads_of : (client : ℕ) → List BlockRead) (sums : Sums) (told : List ClientReport)
    : Type 0 where
  pub tag : FilesTag
  pub named : (files_of tag ≡ files) × (tag.block ≡ o.block)
  pub cache : Cache FilesTag
  pub first : List (Client FilesTag)
  pub last : List (Client FilesTag)
  pub opened : IsOpened o.config tag cache first
  pub count : length last ≡ length first
  pub each : (k : ℕ) (was is : Client FilesTag) (r : ClientReport) → slice_get first k ≡ Some was
      → slice_get last k ≡ Some is → slice_get told k ≡ Some r
      → ReadsLines fits_files cache files o.block (reads_of k) no_counts (counts_of r) was is
  pub closed : Closed
  pub back : AreBack cache last
  pub closes : IsClosed fits_files cache last closed
  pub sums_are : AreSumsOf closed sums
  pub few : sums.slots + total taken_by last + total (λ (r : ClientReport). r.tally.faults) told
      ≤ total (λ (r : ClientReport). r.misses) told
  pub leaves : LeavesBlocks (found_by files o.block (reads_by reads_of o.config.clients)) sums
