use Rattle.hcc_rule.specs.Callers.{plan_of}
use Rattle.hcc_rule.specs.Rule.{setup_of}
use Rattle.hcc_rule.specs.Looked.{looks}
use Rattle.hcc_rule.proofs.table.RuleTable.look_at.Given as goal

abbrev pub ghosts-load : goal.ghosts-load
ghosts-load g a = record { then = looks (setup_of (plan_of a.self.now)) a._said }
