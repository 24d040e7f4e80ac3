use Rattle.hcc_rule.specs.ToldLedgers.{falls}
use Rattle.hcc_rule.proofs.table.RuleTable.fall.Given as goal

abbrev pub ghosts-fetch_sub : goal.ghosts-fetch_sub
ghosts-fetch_sub g a = record { then = falls a._said }
