use Rattle.std.proofs.Common.{sym, ◌∙◌}
use Rattle.hcc_rule.specs.Seats.{view}
use Rattle.hcc_table.proofs.Gives.{pinned_on, reaches_held, one_more}
use Rattle.hcc_table.proofs.acquire.again.Goals as goal

pub reach-found-requires-clause-reach : goal.reach-found-requires-clause-reach
reach-found-requires-clause-reach g c =
    reaches_held c.args.pin.slot c.args.pin.name (view c.args.seat.now)
    (pinned_on c.args.pin (view c.args.seat.now) c.requires.holds)

pub returns-clause-record : goal.returns-clause-record
returns-clause-record g c =
    let more = one_more c.args.pin.name
    (pinned_on c.args.pin (view c.args.seat.now) c.requires.holds) c.reach-found.ensures.view in
    (more.0, more.1, (more.2, more.4, more.5 ∙ sym c.is_counting.ensures), more.3, more.6)

pub returns-clause-by : goal.returns-clause-by
returns-clause-by g c = (c.reach-found.result, c.is_counting.ensures, c.reach-found.ensures.by)
