use Rattle.std.proofs.Common.{refl}
use Rattle.hcc_table.specs.Seeking.{is_settling}
use Rattle.hcc_table.proofs.Seeking.{goes_event, goes_none}
use Rattle.hcc_charge.proofs.settling.give_slots.Goals as goal

pub returns-then-slots-gt0-clause-by : goal.returns-then-slots-gt0-clause-by
returns-then-slots-gt0-clause-by g c =
    goes_event c.args.table.now is_settling _ c.args.seat.now c.return_slots.new.seat
    c.return_slots.ensures.event refl

pub returns-else-slots-gt0-clause-by : goal.returns-else-slots-gt0-clause-by
returns-else-slots-gt0-clause-by g c =
    goes_none c.args.table.now is_settling c.args.seat.now c.args.seat.now refl
