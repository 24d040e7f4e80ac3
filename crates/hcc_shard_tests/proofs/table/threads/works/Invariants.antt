use Rattle.std.proofs.Common.{◌≡◌}
use Rattle.hcc_rule_tests.specs.Benches.{IsReady}
use Rattle.hcc_rule.specs.Seats.{view}
use Rattle.hcc_shard_tests.proofs.table.threads.works.Given as goal

abbrev pub invariant-loop-number : goal.invariant-loop-number
invariant-loop-number g l = record {
  table : l.me.table.now ≡ l.table;
  ready : IsReady (view l.me.seat);
}
