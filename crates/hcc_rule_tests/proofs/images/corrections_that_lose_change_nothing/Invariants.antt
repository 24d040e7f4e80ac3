use Rattle.hcc_rule_tests.specs.Benches.{IsReady}
use Rattle.hcc_rule.specs.Seats.{view}
use Rattle.hcc_rule_tests.proofs.images.corrections_that_lose_change_nothing.Given as goal

abbrev pub invariant-loop : goal.invariant-loop
invariant-loop g l = IsReady (view l.first.seat) × IsReady (view l.second.seat)
