use Rattle.hcc_rule.specs.ToldOwners.{reads_own}
use Rattle.hcc_rule.proofs.table.RuleTable.read_own_at.Given as goal

abbrev pub ghosts-load : goal.ghosts-load
ghosts-load g a = record { then = reads_own a._said }
