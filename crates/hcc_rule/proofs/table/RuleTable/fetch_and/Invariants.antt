use Rattle.hcc_rule.specs.Logs.{Logs}
use Rattle.hcc_rule.proofs.table.RuleTable.fetch_and.Given as goal

abbrev pub ghosts-fetch_and : goal.ghosts-fetch_and
ghosts-fetch_and g a = record { then = Logs a.self.now.key g.J.Does.then }
