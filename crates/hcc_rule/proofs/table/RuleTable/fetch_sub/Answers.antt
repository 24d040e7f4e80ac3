use Rattle.std.proofs.Common.{ap, is_some}
use Rattle.hcc_rule.specs.Callers.{plan_of}
use Rattle.hcc_rule.proofs.Seats.Lifts.{loaded, taken, lifted}
use Rattle.hcc_rule.proofs.table.RuleTable.fetch_sub.Goals as goal

pub fetch_sub-requires : goal.fetch_sub-requires
fetch_sub-requires g c = (
  c.requires.0.table,
  c.requires.1,
  lifted g.T.Tag.fits (plan_of c.args.self.now) (taken c.args.amount) loaded
      (ap is_some c.requires.0.tagged) c.requires.2,
)
