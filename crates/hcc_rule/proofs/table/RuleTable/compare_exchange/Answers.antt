use Rattle.std.proofs.Common.{ap, is_some}
use Rattle.hcc_rule.specs.Callers.{plan_of}
use Rattle.hcc_rule.proofs.Seats.Lifts.{loaded, exchanged, lifted}
use Rattle.hcc_rule.proofs.table.RuleTable.compare_exchange.Goals as goal

pub compare_exchange-requires : goal.compare_exchange-requires
compare_exchange-requires g c = (
  c.requires.0.table,
  c.requires.1,
  lifted g.T.Tag.fits (plan_of c.args.self.now) (exchanged c.args.old c.args.new) loaded
      (ap is_some c.requires.0.tagged) c.requires.2,
)
