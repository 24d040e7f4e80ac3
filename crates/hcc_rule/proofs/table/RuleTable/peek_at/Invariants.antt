use Rattle.hcc_rule.specs.ToldGlimpses.{peeks}
use Rattle.hcc_rule.proofs.table.RuleTable.peek_at.Given as goal

abbrev pub ghosts-load : goal.ghosts-load
ghosts-load g a = record { then = peeks a._said.0 a._said.1 }
