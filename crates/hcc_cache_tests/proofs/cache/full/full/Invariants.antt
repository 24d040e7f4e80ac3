use Rattle.hcc_cache_tests.specs.Staged.{AllKnown}
use Rattle.hcc_cache_tests.proofs.cache.full.full.Given as goal

abbrev pub invariant-loop-slot : goal.invariant-loop-slot
invariant-loop-slot g l = record {
  known : AllKnown l.stage.cache l.stage.clients.items;
}
