use Rattle.hcc_rule.specs.ToldReferences.{hides}
use Rattle.hcc_rule.proofs.table.RuleTable.hide.Given as goal

abbrev pub ghosts-fetch_and : goal.ghosts-fetch_and
ghosts-fetch_and g a = record { then = hides a._said }
