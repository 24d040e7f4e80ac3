use Rattle.hcc_rule.specs.Logs.{Logs}
use Rattle.hcc_rule.proofs.table.RuleTable.store.Given as goal

abbrev pub ghosts-store : goal.ghosts-store
ghosts-store g a = record { then = Logs a.self.now.key g.J.Does.then }
