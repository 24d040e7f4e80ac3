use Rattle.std.proofs.Common.{ap, is_some}
use Rattle.hcc_rule.specs.Callers.{plan_of}
use Rattle.hcc_rule.proofs.Seats.Lifts.{loaded, anded, lifted}
use Rattle.hcc_rule.proofs.table.RuleTable.fetch_and.Goals as goal

pub fetch_and-requires : goal.fetch_and-requires
fetch_and-requires g c = (
  c.requires.0.table,
  c.requires.1,
  lifted g.T.Tag.fits (plan_of c.args.self.now) (anded c.args.mask) loaded
      (ap is_some c.requires.0.tagged) c.requires.2,
)
