use Rattle.std.proofs.Common.{length}
use Rattle.hcc_cache.specs.ObjectsLeft.{left_at}
use Rattle.hcc_c.proofs.kept_objects.let_go.Given as goal

abbrev pub decreases-loop-gone : goal.decreases-loop-gone
decreases-loop-gone l = length (left_at l.left.closed l.left.shard l.left.slot)
