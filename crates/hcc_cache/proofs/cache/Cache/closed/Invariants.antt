use Rattle.std.proofs.Common.{vec_len}
use Rattle.hcc_cache.proofs.Endings.ClosedShards.{IsClosing}
use Rattle.hcc_cache.proofs.cache.Cache.closed.Given as goal

abbrev pub invariant-loop-shard : goal.invariant-loop-shard
invariant-loop-shard g l = record {
  closes : IsClosing g.T.Tag.fits l.fn.self l.fn.clients.items l.shards.items l.closed.items
      l.clients.items;
}

abbrev pub decreases-loop-shard : goal.decreases-loop-shard
decreases-loop-shard g l = vec_len l.shards
