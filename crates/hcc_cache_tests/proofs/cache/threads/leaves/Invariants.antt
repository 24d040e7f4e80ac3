use Rattle.hcc_cache.specs.Known.{Knows}
use Rattle.hcc_cache_tests.proofs.cache.threads.leaves.Given as goal

abbrev pub invariant-loop-w0 : goal.invariant-loop-w0
invariant-loop-w0 g l = record {
  known : Knows l.cache l.client;
}
