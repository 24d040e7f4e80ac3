-- What a client's lines of a trace come to, whatever the cache keeps.
use Rattle.std.specs.Prelude.{◌≡◌, ◌⊎◌, ℕ, ◌+◌, ◌%◌, ◌^◌, ◌≤◌, ◌==◌, List, [], ◌∷◌, Option, Some, None}
use Rattle.std.specs.Prelude.{map, if◌then◌else◌, sum}
use Rattle.hcc_block.specs.Blocks.{block_of}
use Rattle.hcc_player.specs.declared.blocks.line.BlockRead.{BlockRead}
use Rattle.hcc_player.specs.declared.blocks.tally.ClientReport.{ClientReport}
use Rattle.hcc_player.specs.declared.blocks.tally.BlockTally.{BlockTally}

-- Of a trace: no cache is named.

-- the lines of a client, in order
abbrev pub lines_for : (client : ℕ) → List BlockRead → List BlockRead
lines_for client [] = []
lines_for client (line ∷ lines) =
    if line.client == client then line ∷ lines_for client lines else lines_for client lines

-- the blocks that lines name, where there are such
abbrev pub found_by : (files : List (List ℕ)) → (size : ℕ) → List BlockRead
    → List (Option (List ℕ))
found_by files size lines = map (λ line. block_of files size line.file line.index) lines

-- how many are there
abbrev pub count_there : List (Option (List ℕ)) → ℕ
count_there [] = 0
count_there (Some bytes ∷ found) = 1 + count_there found
count_there (None ∷ found) = count_there found

-- how many are not there
abbrev pub count_missing : List (Option (List ℕ)) → ℕ
count_missing [] = 0
count_missing (Some bytes ∷ found) = count_missing found
count_missing (None ∷ found) = 1 + count_missing found

-- the sum of the bytes of all that are there
abbrev pub sum_found : List (Option (List ℕ)) → ℕ
sum_found [] = 0
sum_found (Some bytes ∷ found) = sum bytes + sum_found found
sum_found (None ∷ found) = sum_found found

-- Of reads.

-- what no reads come to
abbrev pub nothing : BlockTally
nothing = record { blocks = 0; faults = 0; missing = 0; sum = 0 }

-- how many lines were played
abbrev pub lines_of_tally : BlockTally → ℕ
lines_of_tally t = t.blocks + t.faults + t.missing

-- What a read adds where this block, or none, is there: one that is missing; or a block, with its
-- bytes; or a fault, but never where the source is steady.
abbrev pub Adds : (steady : Type 0) → (found : Option (List ℕ)) → (old new : BlockTally) → Type 0
Adds steady None old new = new ≡ record old { missing = old.missing + 1 }
Adds steady (Some bytes) old new =
    (new ≡ record old { blocks = old.blocks + 1; sum = (old.sum + sum bytes) % 2 ^ 64 })
    ⊎ ((new ≡ record old { faults = old.faults + 1 }) × (steady → ⊥))

-- what reads add, one after another
abbrev pub AddsAll : (steady : Type 0) → List (Option (List ℕ)) → (old new : BlockTally) → Type 0
AddsAll steady [] old new = new ≡ old
AddsAll steady (one ∷ found) old new =
    (between : BlockTally) × Adds steady one old between × AddsAll steady found between new

-- What a client reports of blocks that were found so. Each line is a block, a fault or missing;
-- each that is there is a hit or a miss, and a fault is a miss, so that hits are blocks. Where the
-- source is steady there is no fault, and the sum is that of all bytes.
pub record IsTally (steady : Type 0) (found : List (Option (List ℕ))) (r : ClientReport) : Type 0
  where
    pub adds : AddsAll steady found nothing r.tally
    pub there : r.tally.blocks + r.tally.faults ≡ count_there found
    pub gone : r.tally.missing ≡ count_missing found
    pub counted : r.hits + r.misses ≡ r.tally.blocks + r.tally.faults
    pub failed : r.tally.faults ≤ r.misses
    pub had : r.hits ≤ r.tally.blocks
    pub exact : steady → (r.tally.blocks ≡ count_there found) × (r.tally.faults ≡ 0)
        × (r.tally.sum ≡ sum_found found % 2 ^ 64)
