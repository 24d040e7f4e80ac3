use Rattle.hcc_cache.specs.Known.{Knows}
use Rattle.hcc_cache_tests.specs.Staged.{IsSized}
use Rattle.hcc_cache_tests.proofs.cache.calls.makes.Given as goal

abbrev pub invariant-loop-step : goal.invariant-loop-step
invariant-loop-step g l = record {
  sized : IsSized l.cache l.config;
  known : Knows l.cache l.client;
}
