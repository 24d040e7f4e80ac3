use Rattle.hcc_rule.specs.ToldLedgers.{stands}
use Rattle.hcc_rule.proofs.table.RuleTable.stand.Given as goal

abbrev pub ghosts-fetch_add : goal.ghosts-fetch_add
ghosts-fetch_add g a = record { then = stands a._said }
