use Rattle.hcc_rule.specs.declared.layout.TheConstants.{USAGE}
use Rattle.hcc_shard.specs.Left.{charges_left}
use Rattle.hcc_cache.specs.Left.{ledger_of}
use Rattle.hcc_cache.proofs.Endings.SumsOverShards.{IsSumOf}
use Rattle.hcc_cache.proofs.closed.Closed.usage.Given as goal

abbrev pub invariant-loop-shard : goal.invariant-loop-shard
invariant-loop-shard l = record {
  sum : IsSumOf (λ left. charges_left left.table) l.self.shards.items l.shard l.sum;
  words : IsSumOf (ledger_of USAGE) l.self.shards.items l.shard l.sum;
}
