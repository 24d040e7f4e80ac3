use Rattle.hcc_shard.proofs.Imagings.{IsImaging}
use Rattle.hcc_shard.proofs.entries.ClosedShard.image.Given as goal

abbrev pub invariant-loop-slot : goal.invariant-loop-slot
invariant-loop-slot g l = IsImaging l.self.table l.slot l.image.items
