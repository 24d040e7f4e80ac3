use Rattle.std.proofs.Common.{◌≡◌}
use Rattle.hcc_rule.specs.Callers.{slots_of}
use Rattle.hcc_rule.specs.Seats.{view}
use Rattle.hcc_shard_tests.specs.Handles.{Holds}
use Rattle.hcc_shard_tests.proofs.table.calls.plays.Given as goal

abbrev pub invariant-loop-step : goal.invariant-loop-step
invariant-loop-step g l = record {
  same : l.me.table ≡ l.initial.me.table;
  holds : Holds (slots_of l.me.table.now) l.one l.two (view l.me.seat);
}
