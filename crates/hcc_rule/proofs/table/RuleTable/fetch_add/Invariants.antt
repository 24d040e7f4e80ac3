use Rattle.hcc_rule.specs.Logs.{Logs}
use Rattle.hcc_rule.proofs.table.RuleTable.fetch_add.Given as goal

abbrev pub ghosts-fetch_add : goal.ghosts-fetch_add
ghosts-fetch_add g a = record { then = Logs a.self.now.key g.J.Does.then }
