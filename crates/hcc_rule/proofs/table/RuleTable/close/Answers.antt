use Rattle.std.proofs.Common.{ap, is_some}
use Rattle.hcc_rule.specs.Callers.{plan_of}
use Rattle.hcc_rule.specs.Seats.{view}
use Rattle.hcc_rule.proofs.LastSeat.Closings.{shown_last, named_last, closes_last, within_last, begins_last}
use Rattle.hcc_rule.proofs.LastSeat.Endings.{allowed_last, shows_last}
use Rattle.hcc_rule.proofs.Seats.Lifts.{final_unlogged}
use Rattle.hcc_rule.proofs.table.RuleTable.close.Goals as goal

pub returns-clause-shown : goal.returns-clause-shown
returns-clause-shown g c =
    rw c.of.ensures.closed
    (shown_last g.T.Tag.fits (plan_of c.args.self) _ _ _ (view c.args.seat)
    (final_unlogged g.T.Tag.fits (plan_of c.args.self) _ _ _ c.args.seat.me.0
    c.close.ensures.last))

pub returns-clause-few : goal.returns-clause-few
returns-clause-few g c =
    named_last g.T.Tag.fits (plan_of c.args.self) c.args.self.geometry _ (view c.args.seat)
    c.args.self.planned.0
    (shown_last g.T.Tag.fits (plan_of c.args.self) _ _ _ (view c.args.seat)
    (final_unlogged g.T.Tag.fits (plan_of c.args.self) _ _ _ c.args.seat.me.0
    c.close.ensures.last))

pub returns-clause-closes : goal.returns-clause-closes
returns-clause-closes g c back =
    rw c.of.ensures.closed
    (closes_last g.T.Tag.fits (plan_of c.args.self) c.args.self.geometry _ (view c.args.seat)
    c.args.self.planned.0
    (shown_last g.T.Tag.fits (plan_of c.args.self) _ _ _ (view c.args.seat)
    (final_unlogged g.T.Tag.fits (plan_of c.args.self) _ _ _ c.args.seat.me.0
    c.close.ensures.last))
    (ap is_some c.requires.seat.tagged) back)

pub returns-clause-within : goal.returns-clause-within
returns-clause-within g c back =
    rw c.of.ensures.closed
    (within_last g.T.Tag.fits (plan_of c.args.self) c.args.self.geometry
    c.args.self.capacity c.args.self.strict _ (view c.args.seat)
    c.args.self.planned.0 c.args.self.planned.1 c.args.self.planned.2
    (shown_last g.T.Tag.fits (plan_of c.args.self) _ _ _ (view c.args.seat)
    (final_unlogged g.T.Tag.fits (plan_of c.args.self) _ _ _ c.args.seat.me.0
    c.close.ensures.last))
    (ap is_some c.requires.seat.tagged) back)

pub returns-clause-begins : goal.returns-clause-begins
returns-clause-begins g c back none =
    rw c.of.ensures.closed
    (begins_last g.T.Tag.fits (plan_of c.args.self) c.args.self.geometry _ _ _
    c.args.seat.me.0 c.args.self.planned.0 c.close.ensures.last
    (ap is_some c.requires.seat.tagged) back none)

pub returns-clause-left : goal.returns-clause-left
returns-clause-left g c back =
    rw c.of.ensures.closed
    (shows_last g.T.Tag.fits (plan_of c.args.self) c.args.self.geometry _ _ _
    c.args.seat.me.0 c.close.ensures.last c.args.self.planned.0
    (ap is_some c.requires.seat.tagged) back)

pub returns-clause-allowed : goal.returns-clause-allowed
returns-clause-allowed g c =
    allowed_last g.T.Tag.fits (plan_of c.args.self) c.args.self.geometry _ _ _
    c.args.seat.me.0 c.close.ensures.last
