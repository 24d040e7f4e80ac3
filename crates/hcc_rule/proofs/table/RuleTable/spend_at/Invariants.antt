use Rattle.hcc_rule.specs.ToldReferences.{spends}
use Rattle.hcc_rule.proofs.table.RuleTable.spend_at.Given as goal

abbrev pub ghosts-fetch_add : goal.ghosts-fetch_add
ghosts-fetch_add g a = record { then = spends a._said.0 a._said.1 }
