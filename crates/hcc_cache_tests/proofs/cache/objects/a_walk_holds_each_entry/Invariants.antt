use Rattle.hcc_cache.specs.Objects.{KnowsObjects}
use Rattle.hcc_cache_tests.proofs.cache.objects.a_walk_holds_each_entry.Given as goal

abbrev pub invariant-loop-number : goal.invariant-loop-number
invariant-loop-number g l = KnowsObjects l.cache l.me

abbrev pub invariant-loop-number-2 : goal.invariant-loop-number-2
invariant-loop-number-2 g l = KnowsObjects l.cache l.me
