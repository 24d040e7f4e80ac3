use Rattle.hcc_rule.specs.ToldOwners.{reads}
use Rattle.hcc_rule.proofs.table.RuleTable.read_at.Given as goal

abbrev pub ghosts-load : goal.ghosts-load
ghosts-load g a = record { then = reads a._said.0 a._said.1 }
