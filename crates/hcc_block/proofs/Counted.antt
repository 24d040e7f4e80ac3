-- Readers that differ in their counts.
use Rattle.std.proofs.Common.{◌≡◌, ◌≤◌, ℕ, ap}
use Rattle.std.proofs.Math.Bridge.{le_prop}
use Rattle.hcc_block.specs.declared.reader.BlockReader.{BlockReader}

module _ {S : Type 0} (source : S) (block : ℕ) where
  abbrev reader : (hits misses : ℕ) → 1 ≤ block → BlockReader S
  reader hits misses some = record {
    source = source;
    block = block;
    hits = hits;
    misses = misses;
    some = some;
  }

  -- Readers of the same source, block size and counts are one.
  pub same_reader : (hits all_hits misses all_misses : ℕ) (some other : 1 ≤ block)
      → hits ≡ all_hits → misses ≡ all_misses
      → reader hits misses some ≡ reader all_hits all_misses other
  same_reader hits all_hits misses all_misses some other as_hits as_misses =
      rw (as_hits, as_misses) (ap (reader all_hits all_misses) (le_prop some other))
