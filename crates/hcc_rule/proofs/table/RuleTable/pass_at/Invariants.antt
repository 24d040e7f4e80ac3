use Rattle.hcc_rule.specs.ToldTrails.{passes}
use Rattle.hcc_rule.proofs.table.RuleTable.pass_at.Given as goal

abbrev pub ghosts-fetch_add : goal.ghosts-fetch_add
ghosts-fetch_add g a = record { then = passes a._said }
