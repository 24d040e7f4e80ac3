use Rattle.std.proofs.Common.{◌∙◌, arith}
use Rattle.hcc_cache.proofs.HandedBack.ObjectsWalked.{left_past}
use Rattle.hcc_cache.proofs.objects_left.ObjectsLeft.next.Goals as goal

pub returns-clause-none : goal.returns-clause-none
returns-clause-none c =
    let self = c.loop-self.self in
    let past = c.loop-self-test.false in
    let count = c.shards.ensures in (
      c.loop-self.invariant.left ∙ left_past self.closed self.shard self.slot (omega arith),
      omega arith,
    )
