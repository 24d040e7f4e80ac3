use Rattle.hcc_cache.specs.Known.{Knows}
use Rattle.hcc_cache_tests.proofs.cache.example.works.Given as goal

abbrev pub invariant-loop-round : goal.invariant-loop-round
invariant-loop-round g l = Knows l.cache l.client
