use Rattle.hcc_cache_tests.specs.Staged.{AllKnown}
use Rattle.hcc_cache_tests.proofs.cache.shared.the_most_clients.Given as goal

abbrev pub invariant-loop-number : goal.invariant-loop-number
invariant-loop-number g l = record {
  known : AllKnown l.stage.cache l.stage.clients.items;
}

abbrev pub invariant-loop-number-2 : goal.invariant-loop-number-2
invariant-loop-number-2 g l = record {
  known : AllKnown l.stage.cache l.stage.clients.items;
}
