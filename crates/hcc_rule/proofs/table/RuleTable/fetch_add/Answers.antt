use Rattle.std.proofs.Common.{ap, is_some}
use Rattle.hcc_rule.specs.Callers.{plan_of}
use Rattle.hcc_rule.proofs.Seats.Lifts.{loaded, added, lifted}
use Rattle.hcc_rule.proofs.table.RuleTable.fetch_add.Goals as goal

pub fetch_add-requires : goal.fetch_add-requires
fetch_add-requires g c = (
  c.requires.0.table,
  c.requires.1,
  lifted g.T.Tag.fits (plan_of c.args.self.now) (added c.args.amount) loaded
      (ap is_some c.requires.0.tagged) c.requires.2,
)
