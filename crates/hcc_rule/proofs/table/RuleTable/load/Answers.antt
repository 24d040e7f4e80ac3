use Rattle.std.proofs.Common.{ap, is_some, refl}
use Rattle.hcc_rule.specs.Callers.{plan_of}
use Rattle.hcc_rule.proofs.Seats.Lifts.{loads}
use Rattle.hcc_rule.proofs.table.RuleTable.load.Goals as goal

pub load-requires : goal.load-requires
load-requires g c = (
  c.requires.0.table,
  c.requires.1,
  loads g.T.Tag.fits (plan_of c.args.self.now) refl (ap is_some c.requires.0.tagged) c.requires.2,
)
