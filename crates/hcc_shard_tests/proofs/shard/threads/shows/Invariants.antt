use Rattle.std.proofs.Common.{◌≡◌}
use Rattle.hcc_shard_tests.specs.ShardGuests.{IsGuest}
use Rattle.hcc_shard_tests.proofs.shard.threads.shows.Given as goal

abbrev pub invariant-loop-round : goal.invariant-loop-round
invariant-loop-round g l = record {
  same : l.me.shard ≡ l.initial.me.shard;
  keeps : IsGuest l.me.shard.now l.me.seat l.me.pins.items l.me.standing.items l.me.next;
}
