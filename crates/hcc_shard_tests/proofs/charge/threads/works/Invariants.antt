use Rattle.std.proofs.Common.{◌≡◌}
use Rattle.hcc_core.specs.declared.client.Place.TheVariants.{Absent}
use Rattle.hcc_rule.specs.Seats.{view}
use Rattle.hcc_shard_tests.specs.ChargeGuests.{IsGuest}
use Rattle.hcc_shard_tests.proofs.charge.threads.works.Given as goal

abbrev pub invariant-loop-round : goal.invariant-loop-round
invariant-loop-round g l = record {
  table : l.me.table ≡ l.initial.me.table;
  client : l.me.client ≡ l.initial.me.client;
  idle : IsGuest Absent 0 l.me.client l.me.shown (view l.me.seat);
}
