use Rattle.std.proofs.Common.{◌≡◌, ◌-◌}
use Rattle.hcc_cache.specs.Left.{slots_at}
use Rattle.hcc_cache.specs.ObjectsLeft.{left_at}
use Rattle.hcc_cache.proofs.objects_left.ObjectsLeft.next_of_shard.Given as goal

abbrev pub invariant-loop-self : goal.invariant-loop-self
invariant-loop-self l = record {
  closed : l.self.closed ≡ l.fn.self.closed;
  shard : l.self.shard ≡ l.fn.self.shard;
  left : left_at l.fn.self.closed l.fn.self.shard l.fn.self.slot
      ≡ left_at l.self.closed l.self.shard l.self.slot;
}

abbrev pub decreases-loop-self : goal.decreases-loop-self
decreases-loop-self l = slots_at l.self.closed.shards.items l.self.shard - l.self.slot
