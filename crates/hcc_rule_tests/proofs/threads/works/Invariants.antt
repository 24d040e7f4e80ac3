use Rattle.std.proofs.Common.{◌≡◌}
use Rattle.hcc_rule_tests.specs.Benches.{IsReady}
use Rattle.hcc_rule.specs.Seats.{view}
use Rattle.hcc_rule_tests.proofs.threads.works.Given as goal

abbrev pub invariant-loop : goal.invariant-loop
invariant-loop g l = record {
  table : l.me.table ≡ l.initial.me.table;
  client : l.me.client ≡ l.initial.me.client;
  shown : l.me.shown ≡ l.initial.me.shown;
  others : (view l.me.seat).others ≡ (view l.initial.me.seat).others;
  ready : IsReady (view l.me.seat);
}
