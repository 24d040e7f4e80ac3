use Rattle.std.proofs.Common.{ap, refl, is_some}
use Rattle.hcc_rule.specs.Callers.{plan_of}
use Rattle.hcc_rule.proofs.Ledgers.OccupancySteps.{occupancy_step}
use Rattle.hcc_rule.proofs.Seats.Histories.{moved}
use Rattle.hcc_rule.specs.Rule.{setup_of}
use Rattle.hcc_rule.proofs.table.RuleTable.occupancy.Goals as goal

pub load-requires : goal.load-requires
load-requires g c =
    let planned = c.args.self.now.planned in
    let seat = c.requires.seat in (
      seat,
      c.ledger.ensures.inside,
      occupancy_step g.T.Tag.fits (plan_of c.args.self.now) _ _ _ _
          (ap is_some seat.tagged) (rw planned.0 c.ledger.ensures.value)
          (setup_of (plan_of c.args.self.now)) refl,
    )

pub returns-clause-heard : goal.returns-clause-heard
returns-clause-heard g c =
    let did = c.load.ensures.does in
    c.load.ensures.hears (moved _ _ _ did.3 _ _ did.4.3 did.5)
