use Rattle.std.proofs.Common.{◌≡◌}
use Rattle.hcc_shard_tests.specs.ShardGuests.{IsGuest}
use Rattle.hcc_shard_tests.proofs.shard.visit.leaves.Given as goal

abbrev pub invariant-loop-pin : goal.invariant-loop-pin
invariant-loop-pin g l = record {
  same : l.me.shard ≡ l.initial.me.shard;
  keeps : IsGuest l.me.shard.now l.me.seat l.me.pins.items l.me.standing.items l.me.next;
}

abbrev pub invariant-loop-alone : goal.invariant-loop-alone
invariant-loop-alone g l = record {
  same : l.me.shard ≡ l.initial.me.shard;
  keeps : IsGuest l.me.shard.now l.me.seat l.me.pins.items l.me.standing.items l.me.next;
}
