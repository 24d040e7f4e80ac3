use Rattle.hcc_rule.specs.Callers.{plan_of}
use Rattle.hcc_rule.specs.Rule.{setup_of}
use Rattle.hcc_rule.specs.ToldLedgers.{enters}
use Rattle.hcc_rule.proofs.table.RuleTable.enter.Given as goal

abbrev pub ghosts-fetch_add : goal.ghosts-fetch_add
ghosts-fetch_add g a = record { then = enters (setup_of (plan_of a.self.now)) }
