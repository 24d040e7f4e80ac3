use Rattle.hcc_shard.specs.Left.{slots_left}
use Rattle.hcc_cache.proofs.Endings.SumsOverShards.{IsSumOf}
use Rattle.hcc_cache.proofs.closed.Closed.slot_count.Given as goal

abbrev pub invariant-loop-shard : goal.invariant-loop-shard
invariant-loop-shard l = record {
  sum : IsSumOf (λ left. slots_left left.table) l.self.shards.items l.shard l.sum;
}
