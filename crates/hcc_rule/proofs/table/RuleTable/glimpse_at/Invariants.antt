use Rattle.hcc_rule.specs.ToldGlimpses.{glimpses}
use Rattle.hcc_rule.proofs.table.RuleTable.glimpse_at.Given as goal

abbrev pub ghosts-load : goal.ghosts-load
ghosts-load g a = record { then = glimpses a._said }
