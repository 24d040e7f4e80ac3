use Rattle.std.proofs.Common.{◌≤◌, ◌^◌, arith}
use Rattle.hcc_rule.specs.declared.layout.TheConstants.{OCCUPANCY}
use Rattle.hcc_shard.specs.Left.{slots_left}
use Rattle.hcc_cache.specs.Left.{ledger_of}
use Rattle.hcc_cache.proofs.Endings.SumsOverShards.{few_slots, sum_fits, sum_more}
use Rattle.hcc_cache.proofs.closed.Closed.occupied.Goals as goal

pub overflow_add-sum : goal.overflow_add-sum
overflow_add-sum c =
    let items = c.args.self.now.shards.items in
    let whole = c.args.self.now.whole in
    let left = c.shard.result.now in
    let here = c.shard.ensures in
    let told = c.occupied-sum.ensures in
    let few = few_slots left (whole.few c.loop-shard.shard left here) in
    let low : c.occupied-sum.result ≤ 2 ^ 48 = let same = told.sum in omega arith in
    let fits = sum_fits (λ left. slots_left left.table) items c.loop-shard.shard
    c.loop-shard.sum c.occupied-sum.result left whole c.loop-shard.invariant.sum here low in
    omega arith

pub loop-shard-preserved : goal.loop-shard-preserved
loop-shard-preserved c =
    let items = c.args.self.now.shards.items in
    let whole = c.args.self.now.whole in
    let left = c.shard.result.now in
    let here = c.shard.ensures in
    let told = c.occupied-sum.ensures in
    let few = few_slots left (whole.few c.loop-shard.shard left here) in
    let low : c.occupied-sum.result ≤ 2 ^ 48 = let same = told.sum in omega arith in
    record {
      sum =
          sum_more (λ left. slots_left left.table) items c.loop-shard.shard c.loop-shard.sum
          c.occupied-sum.result left c.loop-shard.invariant.sum here told.sum low;
      words =
          sum_more (ledger_of OCCUPANCY) items c.loop-shard.shard c.loop-shard.sum
          c.occupied-sum.result left c.loop-shard.invariant.words here told.word low;
    }
