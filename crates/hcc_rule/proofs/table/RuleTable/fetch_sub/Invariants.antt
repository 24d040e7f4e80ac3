use Rattle.hcc_rule.specs.Logs.{Logs}
use Rattle.hcc_rule.proofs.table.RuleTable.fetch_sub.Given as goal

abbrev pub ghosts-fetch_sub : goal.ghosts-fetch_sub
ghosts-fetch_sub g a = record { then = Logs a.self.now.key g.J.Does.then }
