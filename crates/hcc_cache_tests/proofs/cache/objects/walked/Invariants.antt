use Rattle.hcc_cache.specs.Objects.{KnowsObjects}
use Rattle.hcc_cache_tests.proofs.cache.objects.walked.Given as goal

abbrev pub invariant-loop-slot : goal.invariant-loop-slot
invariant-loop-slot g l = record {
  known : KnowsObjects l.cache l.client;
}
