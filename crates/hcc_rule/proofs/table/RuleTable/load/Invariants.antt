use Rattle.hcc_rule.specs.Logs.{Loads}
use Rattle.hcc_rule.proofs.table.RuleTable.load.Given as goal

abbrev pub ghosts-load : goal.ghosts-load
ghosts-load g a = record { then = Loads g.T.Tag.fits a.self.now.key g.J.Does.then }
