use Rattle.std.proofs.Common.{◌≡◌}
use Rattle.std.specs.Prelude.{IfOk}
use Rattle.hcc_rule.specs.Views.{Each}
use Rattle.hcc_shard_tests.specs.ShardGuests.{AreHome, IsGuest}
use Rattle.hcc_shard_tests.proofs.shard.threads.at_once.Given as goal

abbrev pub invariant-loop-done : goal.invariant-loop-done
invariant-loop-done g l = record {
  each : Each (λ r. IfOk r (λ me. (me.shard.now ≡ l.shard)
      × IsGuest me.shard.now me.seat me.pins.items me.standing.items me.next))
      l.done-iterator.rest.items;
  home : AreHome l.shard l.back.items;
}
