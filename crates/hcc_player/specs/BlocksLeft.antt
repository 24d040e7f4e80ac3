-- Which blocks a play of block reads leaves in its cache.
use Rattle.std.specs.Prelude.{◌≡◌, ℕ, zero, suc, List, [], ◌++◌, Option, Some, None, IsSome, length}
use Rattle.std.specs.Prelude.{slice_get}
use Rattle.hcc_core.specs.Sums.{total}
use Rattle.hcc_player.specs.declared.blocks.line.BlockRead.{BlockRead}
use Rattle.hcc_player.specs.declared.sums.Sums.{Sums}

-- the reads of so many clients, one client's after another's
abbrev pub reads_by : (reads_of : (client : ℕ) → List BlockRead) → (clients : ℕ) → List BlockRead
reads_by reads_of zero = []
reads_by reads_of (suc n) = reads_by reads_of n ++ reads_of n

abbrev pub in_found : Option (Option (List ℕ)) → Option (List ℕ)
in_found None = None
in_found (Some block) = block

-- the block that was found for the line at this place, where there is such
abbrev pub block_at : (found : List (Option (List ℕ))) → (place : ℕ) → Option (List ℕ)
block_at found place = in_found (slice_get found place)

abbrev pub length_of : Option (List ℕ) → ℕ
length_of None = 0
length_of (Some block) = length block

-- What is left are blocks that lines of these places name, no line twice: so many slots, and their
-- lengths in sum are the charges.
pub record LeavesBlocks (found : List (Option (List ℕ))) (sums : Sums) : Type 0 where
  pub places : List ℕ
  pub named : (k place : ℕ) → slice_get places k ≡ Some place → IsSome (block_at found place)
  pub apart : (j k place : ℕ) → slice_get places j ≡ Some place → slice_get places k ≡ Some place
      → j ≡ k
  pub slots : sums.slots ≡ length places
  pub charges : sums.charges ≡ total (λ place. length_of (block_at found place)) places
