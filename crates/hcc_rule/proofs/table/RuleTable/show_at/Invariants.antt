use Rattle.hcc_rule.specs.ToldOwners.{made_of, shows}
use Rattle.hcc_rule.proofs.table.RuleTable.show_at.Given as goal

abbrev pub ghosts-store : goal.ghosts-store
ghosts-store g a = record {
  then = shows a._said.0 a._said.1.countdown a._said.1.name (made_of a._said.1 a._said.2.now);
}
