use Rattle.hcc_cache.specs.Objects.{KnowsObjects}
use Rattle.hcc_cache_tests.proofs.cache.objects.an_object_that_stands_alone_comes_back.Given as goal

abbrev pub invariant-loop-number : goal.invariant-loop-number
invariant-loop-number g l = KnowsObjects l.cache l.me

abbrev pub invariant-loop-number-2 : goal.invariant-loop-number-2
invariant-loop-number-2 g l = KnowsObjects l.cache l.me

abbrev pub invariant-loop-number-3 : goal.invariant-loop-number-3
invariant-loop-number-3 g l = KnowsObjects l.cache l.me
