use Rattle.std.proofs.Common.{refl}
use Rattle.hcc_table.specs.Still.{is_still}
use Rattle.hcc_table.proofs.Seeking.{goes_event, goes_then}
use Rattle.hcc_table.proofs.Still.{settled_still}
use Rattle.hcc_charge.proofs.standing.standalone_out.Goals as goal

pub returns-clause-still : goal.returns-clause-still
returns-clause-still g c =
    goes_then c.args.table.now is_still c.args.seat.now c.fall.new.seat c.give_charge.new.seat
    (goes_event c.args.table.now is_still _ c.args.seat.now c.fall.new.seat c.fall.ensures.event
    refl)
    (settled_still c.args.table.now c.fall.new.seat c.give_charge.new.seat
    c.give_charge.ensures.by)
