use Rattle.std.specs.Prelude.{IfOk}
use Rattle.hcc_rule.specs.Views.{Each}
use Rattle.hcc_cache.specs.Known.{Knows}
use Rattle.hcc_cache_tests.specs.Staged.{AllKnown}
use Rattle.hcc_cache_tests.proofs.cache.threads.at_once.Given as goal

abbrev pub invariant-loop-done : goal.invariant-loop-done
invariant-loop-done g l = record {
  each : Each (λ r. IfOk r (λ d. Knows l.cache d.client)) l.done-iterator.rest.items;
  back : AllKnown l.cache l.back.items;
}
