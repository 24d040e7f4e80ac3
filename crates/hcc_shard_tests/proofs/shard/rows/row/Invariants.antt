use Rattle.std.proofs.Common.{◌≡◌}
use Rattle.hcc_shard_tests.specs.ShardGuests.{IsGuest}
use Rattle.hcc_shard_tests.proofs.shard.rows.row.Given as goal

abbrev pub invariant-loop-slot : goal.invariant-loop-slot
invariant-loop-slot g l = record {
  same : l.me.shard ≡ l.initial.me.shard;
  keeps : IsGuest l.me.shard.now l.me.seat l.me.pins.items l.me.standing.items l.me.next;
}
