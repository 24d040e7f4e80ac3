use Rattle.hcc_rule.specs.Callers.{plan_of}
use Rattle.hcc_rule.specs.Rule.{setup_of}
use Rattle.hcc_rule.specs.ToldLedgers.{occupancies}
use Rattle.hcc_rule.proofs.table.RuleTable.occupancy.Given as goal

abbrev pub ghosts-load : goal.ghosts-load
ghosts-load g a = record { then = occupancies (setup_of (plan_of a.self.now)) }
