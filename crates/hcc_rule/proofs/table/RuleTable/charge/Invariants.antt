use Rattle.hcc_rule.specs.Callers.{plan_of}
use Rattle.hcc_rule.specs.Rule.{setup_of}
use Rattle.hcc_rule.specs.ToldLedgers.{charges}
use Rattle.hcc_rule.proofs.table.RuleTable.charge.Given as goal

abbrev pub ghosts-fetch_add : goal.ghosts-fetch_add
ghosts-fetch_add g a = record { then = charges (setup_of (plan_of a.self.now)) }
