use Rattle.hcc_rule.specs.ToldGlimpses.{glances}
use Rattle.hcc_rule.proofs.table.RuleTable.glance_at.Given as goal

abbrev pub ghosts-load : goal.ghosts-load
ghosts-load g a = record { then = glances a._said }
