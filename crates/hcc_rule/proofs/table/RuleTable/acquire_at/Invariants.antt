use Rattle.hcc_rule.specs.ToldReferences.{acquires}
use Rattle.hcc_rule.proofs.table.RuleTable.acquire_at.Given as goal

abbrev pub ghosts-fetch_add : goal.ghosts-fetch_add
ghosts-fetch_add g a = record {
  then = acquires g.T.Tag.fits a.self.now.geometry.room a._said.0
      a._said.1;
}
