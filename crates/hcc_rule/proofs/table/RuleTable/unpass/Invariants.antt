use Rattle.hcc_rule.specs.ToldTrails.{unpasses}
use Rattle.hcc_rule.proofs.table.RuleTable.unpass.Given as goal

abbrev pub ghosts-fetch_sub : goal.ghosts-fetch_sub
ghosts-fetch_sub g a = record { then = unpasses a._said }
