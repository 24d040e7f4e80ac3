-- Values of objects.
use Rattle.std.specs.Prelude.{◌≡◌, ℕ, ◌≤◌, List, length}
use Rattle.std.proofs.Common.{arith}

-- a word has bytes
pub word_whole : (value : List ℕ) → length value ≡ 8 → 1 ≤ length value
word_whole value long = omega (arith, long)
