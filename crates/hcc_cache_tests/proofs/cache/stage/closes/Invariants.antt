use Rattle.hcc_cache_tests.specs.Staged.{AllKnown}
use Rattle.hcc_cache_tests.proofs.cache.stage.closes.Given as goal

abbrev pub invariant-loop-number : goal.invariant-loop-number
invariant-loop-number g l = record {
  known : AllKnown l.cache l.clients.items;
}
