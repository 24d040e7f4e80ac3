use Rattle.std.proofs.Common.{◌≡◌}
use Rattle.hcc_shard_tests.specs.ShardGuests.{IsGuest}
use Rattle.hcc_shard_tests.proofs.shard.threads.looks.Given as goal

abbrev pub invariant-loop-time : goal.invariant-loop-time
invariant-loop-time g l = record {
  same : l.me.shard ≡ l.initial.me.shard;
  keeps : IsGuest l.me.shard.now l.me.seat l.me.pins.items l.me.standing.items l.me.next;
}
