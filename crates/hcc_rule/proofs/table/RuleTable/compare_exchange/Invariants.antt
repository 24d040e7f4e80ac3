use Rattle.hcc_rule.specs.Logs.{Logs}
use Rattle.hcc_rule.proofs.table.RuleTable.compare_exchange.Given as goal

abbrev pub ghosts-compare_exchange : goal.ghosts-compare_exchange
ghosts-compare_exchange g a = record { then = Logs a.self.now.key g.J.Does.then }
