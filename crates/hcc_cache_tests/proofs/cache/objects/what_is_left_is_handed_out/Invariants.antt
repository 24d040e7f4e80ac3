use Rattle.std.proofs.Common.{length}
use Rattle.hcc_cache.specs.Objects.{KnowsObjects}
use Rattle.hcc_cache.specs.ObjectsLeft.{left_at}
use Rattle.hcc_cache_tests.proofs.cache.objects.what_is_left_is_handed_out.Given as goal

abbrev pub invariant-loop-number : goal.invariant-loop-number
invariant-loop-number g l = KnowsObjects l.cache l.me

abbrev pub decreases-loop-gone : goal.decreases-loop-gone
decreases-loop-gone g l = length (left_at l.left.closed l.left.shard l.left.slot)
