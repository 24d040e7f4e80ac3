use Rattle.hcc_cache.specs.Known.{Knows}
use Rattle.hcc_cache_tests.proofs.cache.threads.fills.Given as goal

abbrev pub invariant-loop-w1 : goal.invariant-loop-w1
invariant-loop-w1 g l = record {
  known : Knows l.cache l.client;
}
