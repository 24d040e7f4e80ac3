use Rattle.hcc_rule.specs.ToldReferences.{corrects}
use Rattle.hcc_rule.proofs.table.RuleTable.correct.Given as goal

abbrev pub ghosts-compare_exchange : goal.ghosts-compare_exchange
ghosts-compare_exchange g a = record { then = corrects a._said.0 a._said.1 }
