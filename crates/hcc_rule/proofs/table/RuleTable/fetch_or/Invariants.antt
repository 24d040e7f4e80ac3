use Rattle.hcc_rule.specs.Logs.{Logs}
use Rattle.hcc_rule.proofs.table.RuleTable.fetch_or.Given as goal

abbrev pub ghosts-fetch_or : goal.ghosts-fetch_or
ghosts-fetch_or g a = record { then = Logs a.self.now.key g.J.Does.then }
