use Rattle.hcc_cache.specs.Known.{Knows}
use Rattle.hcc_cache_tests.proofs.cache.copies.fills.Given as goal

abbrev pub invariant-loop-number : goal.invariant-loop-number
invariant-loop-number g l = record {
  known : Knows l.cache l.client;
}
