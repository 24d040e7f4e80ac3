use Rattle.hcc_rule.specs.Addresses.{address_of_meta}
use Rattle.hcc_rule.specs.Callers.{room_of, slots_of}
use Rattle.hcc_charge.proofs.Sweepings.{sweeps_visited}
use Rattle.hcc_charge.proofs.Visitings.{visit_few}
use Rattle.hcc_charge.proofs.evicting.visit_slot.Goals as goal

pub returns-clause-view : goal.returns-clause-view
returns-clause-view g c =
    let table = c.args.table.now in
    rw c.of.ensures
    (sweeps_visited g.T.Tag.fits (slots_of table) (room_of table)
    (address_of_meta table c.args.slot) c.args.slot c.visit.result c.args.seat.now
    c.visit.new.seat c.requires.rest c.visit.ensures.visit)

pub returns-clause-steps : goal.returns-clause-steps
returns-clause-steps g c =
    let told = c.visit.ensures in
    rw c.of.ensures
    (visit_few g.T.Tag.fits c.args.table.now g.L.FreedList.loads c.args.slot c.visit.result
    c.args.seat.now
    c.visit.new.seat told.visit told.steps)
