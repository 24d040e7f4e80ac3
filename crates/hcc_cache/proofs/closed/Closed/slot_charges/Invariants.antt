use Rattle.hcc_shard.specs.Left.{charges_left}
use Rattle.hcc_cache.proofs.Endings.SumsOverShards.{IsSumOf}
use Rattle.hcc_cache.proofs.closed.Closed.slot_charges.Given as goal

abbrev pub invariant-loop-shard : goal.invariant-loop-shard
invariant-loop-shard l = record {
  sum : IsSumOf (λ left. charges_left left.table) l.self.shards.items l.shard l.sum;
}
