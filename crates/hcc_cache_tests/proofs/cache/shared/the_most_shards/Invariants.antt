use Rattle.hcc_cache_tests.specs.Staged.{AllKnown}
use Rattle.hcc_cache_tests.proofs.cache.shared.the_most_shards.Given as goal

abbrev pub invariant-loop-shard : goal.invariant-loop-shard
invariant-loop-shard g l = record {
  known : AllKnown l.stage.cache l.stage.clients.items;
}
