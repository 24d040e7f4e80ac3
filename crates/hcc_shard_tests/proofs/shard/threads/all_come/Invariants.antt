use Rattle.std.proofs.Common.{◌≡◌}
use Rattle.hcc_rule.specs.Views.{Each}
use Rattle.hcc_shard_tests.specs.ShardGuests.{IsGuest}
use Rattle.hcc_shard.specs.Seated.{AreNew}
use Rattle.hcc_shard_tests.proofs.shard.threads.all_come.Given as goal

abbrev pub invariant-loop-number : goal.invariant-loop-number
invariant-loop-number g l = record {
  new : AreNew l.shard 0 l.seats.items;
  each : Each (λ me. (me.shard.now ≡ l.shard)
      × IsGuest me.shard.now me.seat me.pins.items me.standing.items me.next) l.all.items;
}
