use Rattle.std.proofs.Common.{◌≡◌}
use Rattle.hcc_rule_tests.specs.Benches.{IsReady}
use Rattle.hcc_rule.specs.Seats.{view}
use Rattle.hcc_shard_tests.proofs.table.caller.Caller.wear.Given as goal

abbrev pub invariant-loop : goal.invariant-loop
invariant-loop g l = record {
  table : l.self.table ≡ l.initial.self.table;
  ready : IsReady (view l.self.seat);
}
