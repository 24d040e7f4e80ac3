use Rattle.hcc_rule.specs.Seats.{view}
use Rattle.hcc_rule_tests.specs.Benches.{IsReading}
use Rattle.hcc_rule_tests.proofs.worker.Worker.loads.Given as goal

abbrev pub invariant-loop-number : goal.invariant-loop-number
invariant-loop-number l = IsReading l.number (view l.self.seat)
