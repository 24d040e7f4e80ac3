use Rattle.std.proofs.Common.{ap, is_some}
use Rattle.hcc_rule.specs.Callers.{plan_of}
use Rattle.hcc_rule.proofs.Seats.Lifts.{stored, lifted}
use Rattle.hcc_rule.proofs.table.RuleTable.store.Goals as goal

pub store-requires : goal.store-requires
store-requires g c = (
  c.requires.0.table,
  c.requires.1,
  lifted g.T.Tag.fits (plan_of c.args.self.now) (stored c.args.word) (stored c.args.word)
      (ap is_some c.requires.0.tagged) c.requires.2,
)
