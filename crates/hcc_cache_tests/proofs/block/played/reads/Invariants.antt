use Rattle.std.proofs.Common.{◌*◌, ◌≤◌}
use Rattle.hcc_cache_tests.specs.Staged.{AllKnown}
use Rattle.hcc_block.specs.Blocks.{FitsBlocks}
use Rattle.hcc_cache_tests.proofs.block.played.reads.Given as goal

abbrev pub invariant-loop-number : goal.invariant-loop-number
invariant-loop-number g l = record {
  known : AllKnown l.initial.cache l.clients.items;
  tag : FitsBlocks (g.T.Tag.fits l.initial.cache.tag) (g.S.BlockSource.content l.reader.source)
      l.reader.block;
  block : l.reader.block ≤ 16;
  room : l.reader.block ≤ 8 * l.initial.cache.geometry.room;
}
