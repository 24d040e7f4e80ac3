use Rattle.hcc_rule.specs.ToldOwners.{frees}
use Rattle.hcc_rule.proofs.table.RuleTable.free_at.Given as goal

abbrev pub ghosts-compare_exchange : goal.ghosts-compare_exchange
ghosts-compare_exchange g a = record {
  then =
      frees g.T.Tag.fits a.self.now.geometry.slots a.self.now.geometry.room a._said.0 a._said.1;
}
