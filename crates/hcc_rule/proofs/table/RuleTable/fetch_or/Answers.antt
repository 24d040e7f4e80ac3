use Rattle.std.proofs.Common.{ap, is_some}
use Rattle.hcc_rule.specs.Callers.{plan_of}
use Rattle.hcc_rule.proofs.Seats.Lifts.{loaded, ored, lifted}
use Rattle.hcc_rule.proofs.table.RuleTable.fetch_or.Goals as goal

pub fetch_or-requires : goal.fetch_or-requires
fetch_or-requires g c = (
  c.requires.0.table,
  c.requires.1,
  lifted g.T.Tag.fits (plan_of c.args.self.now) (ored c.args.bits) loaded
      (ap is_some c.requires.0.tagged) c.requires.2,
)
