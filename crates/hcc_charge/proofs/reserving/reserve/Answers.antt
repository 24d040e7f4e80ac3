use Rattle.std.proofs.Common.{Ok, refl}
use Rattle.hcc_table.specs.Still.{is_still}
use Rattle.hcc_table.proofs.Seeking.{goes_none}
use Rattle.hcc_charge.specs.Evicted.{turn_room}
use Rattle.hcc_charge.proofs.Stayings.{unturned_still}
use Rattle.hcc_charge.proofs.reserving.reserve.Goals as goal

pub returns-then-not-strict-clause-still : goal.returns-then-not-strict-clause-still
returns-then-not-strict-clause-still g c =
    unturned_still g.T.Tag.fits c.args.table.now c.args.charge
    (turn_room (g.L.FreedList.shelf c.args.list.now))
    (turn_room (g.L.FreedList.shelf c.reserve_lax.new.list)) (Ok c.reserve_lax.result)
    c.args.tally.now c.reserve_lax.new.tally c.args.effort.now c.reserve_lax.new.effort
    c.args.seat.now c.reserve_lax.new.seat c.reserve_lax.ensures.evicts

pub returns-then-charge-capacity-clause-still : goal.returns-then-charge-capacity-clause-still
returns-then-charge-capacity-clause-still g c same =
    goes_none c.args.table.now is_still c.args.seat.now c.args.seat.now refl

pub returns-clause-still : goal.returns-clause-still
returns-clause-still g c =
    unturned_still g.T.Tag.fits c.args.table.now c.args.charge
    (turn_room (g.L.FreedList.shelf c.args.list.now))
    (turn_room (g.L.FreedList.shelf c.reserve_strict.new.list)) c.reserve_strict.result
    c.args.tally.now c.reserve_strict.new.tally c.args.effort.now c.reserve_strict.new.effort
    c.args.seat.now c.reserve_strict.new.seat c.reserve_strict.ensures.evicts
