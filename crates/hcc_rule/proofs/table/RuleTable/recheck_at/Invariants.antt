use Rattle.hcc_rule.specs.ToldGlimpses.{rechecks}
use Rattle.hcc_rule.proofs.table.RuleTable.recheck_at.Given as goal

abbrev pub ghosts-load : goal.ghosts-load
ghosts-load g a = record { then = rechecks a._said }
