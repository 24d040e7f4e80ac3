use Rattle.std.proofs.Common.{refl}
use Rattle.hcc_table.specs.Seeking.{is_settling}
use Rattle.hcc_table.proofs.Seeking.{goes_event, goes_none}
use Rattle.hcc_charge.proofs.settling.give_charge.Goals as goal

pub returns-then-charge-gt0-clause-by : goal.returns-then-charge-gt0-clause-by
returns-then-charge-gt0-clause-by g c =
    goes_event c.args.table.now is_settling _ c.args.seat.now c.settle.new.seat
    c.settle.ensures.event refl

pub returns-else-charge-gt0-clause-by : goal.returns-else-charge-gt0-clause-by
returns-else-charge-gt0-clause-by g c =
    goes_none c.args.table.now is_settling c.args.seat.now c.args.seat.now refl
