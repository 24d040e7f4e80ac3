use Rattle.std.proofs.Common.{◌≡◌}
use Rattle.hcc_rule_tests.specs.Benches.{IsReady}
use Rattle.hcc_rule.specs.Seats.{view}
use Rattle.hcc_rule_tests.proofs.worker.Worker.come_and_go.Given as goal

abbrev pub invariant-loop : goal.invariant-loop
invariant-loop g l = record {
  table : l.self.table ≡ l.initial.self.table;
  client : l.self.client ≡ l.initial.self.client;
  shown : l.self.shown ≡ l.initial.self.shown;
  others : (view l.self.seat).others ≡ (view l.initial.self.seat).others;
  ready : IsReady (view l.self.seat);
}
