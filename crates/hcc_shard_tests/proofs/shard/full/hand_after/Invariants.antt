use Rattle.std.proofs.Common.{◌≡◌}
use Rattle.hcc_shard_tests.specs.ShardGuests.{IsGuest}
use Rattle.hcc_shard_tests.proofs.shard.full.hand_after.Given as goal

abbrev pub invariant-loop-k : goal.invariant-loop-k
invariant-loop-k g l = record {
  same : l.me.shard ≡ l.initial.me.shard;
  keeps : IsGuest l.me.shard.now l.me.seat l.me.pins.items l.me.standing.items l.me.next;
}
