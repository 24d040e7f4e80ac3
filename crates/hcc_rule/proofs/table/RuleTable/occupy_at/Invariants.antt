use Rattle.hcc_rule.specs.ToldOwners.{occupies}
use Rattle.hcc_rule.proofs.table.RuleTable.occupy_at.Given as goal

abbrev pub ghosts-fetch_or : goal.ghosts-fetch_or
ghosts-fetch_or g a = record { then = occupies a._said }
