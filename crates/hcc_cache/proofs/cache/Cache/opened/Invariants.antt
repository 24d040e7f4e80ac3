use Rattle.std.proofs.Common.{◌≡◌, ℕ, [], Some, length, slice_get}
use Rattle.hcc_shard.specs.declared.shard.Shard.{Shard}
use Rattle.hcc_shard.specs.Stays.{BeganWithinLimits}
use Rattle.hcc_cache.specs.declared.seeded.Seeded.{Seeded}
use Rattle.hcc_cache.specs.Ended.{KnowNothing}
use Rattle.hcc_cache.specs.Keys.{fits_seeded}
use Rattle.hcc_cache.specs.Opened.{AreDealt, IsConfigured}
use Rattle.hcc_cache.specs.Reopened.{image_of}
use Rattle.hcc_cache.proofs.cache.Cache.opened.Given as goal

abbrev pub invariant-loop-number : goal.invariant-loop-number
invariant-loop-number g l = record {
  count : length l.shards.items ≡ l.number;
  dealt : AreDealt l.config l.shards.items l.clients.items;
  configured : (s : ℕ) (shard : Shard (Seeded g.row.T.Denot) _)
      → slice_get l.shards.items s ≡ Some shard → IsConfigured l.config l.tag s shard;
  images : (s : ℕ) (shard : Shard (Seeded g.row.T.Denot) _)
      → slice_get l.shards.items s ≡ Some shard → image_of shard ≡ [];
  began : (s : ℕ) (shard : Shard (Seeded g.row.T.Denot) _)
      → slice_get l.shards.items s ≡ Some shard
      → BeganWithinLimits shard (fits_seeded g.T.Tag.fits);
  past : KnowNothing l.clients.items;
}
