use Rattle.hcc_cache.specs.Known.{Knows}
use Rattle.hcc_cache_tests.proofs.cache.threads.blocks.Given as goal

abbrev pub invariant-loop-time : goal.invariant-loop-time
invariant-loop-time g l = record {
  known : Knows l.cache l.client;
}
