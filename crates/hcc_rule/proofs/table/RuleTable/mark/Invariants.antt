use Rattle.hcc_rule.specs.ToldReferences.{marks}
use Rattle.hcc_rule.proofs.table.RuleTable.mark.Given as goal

abbrev pub ghosts-fetch_or : goal.ghosts-fetch_or
ghosts-fetch_or g a = record { then = marks a._said.0 a._said.1 }
