use Rattle.hcc_rule.specs.ToldReferences.{clocks}
use Rattle.hcc_rule.proofs.table.RuleTable.clock_at.Given as goal

abbrev pub ghosts-compare_exchange : goal.ghosts-compare_exchange
ghosts-compare_exchange g a = record { then = clocks a._said }
