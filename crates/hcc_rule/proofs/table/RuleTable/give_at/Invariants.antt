use Rattle.hcc_rule.specs.ToldReferences.{gives}
use Rattle.hcc_rule.proofs.table.RuleTable.give_at.Given as goal

abbrev pub ghosts-fetch_sub : goal.ghosts-fetch_sub
ghosts-fetch_sub g a = record { then = gives a._said.0 a._said.1 }
