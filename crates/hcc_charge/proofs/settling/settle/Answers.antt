use Rattle.hcc_table.specs.Seeking.{is_settling}
use Rattle.hcc_table.proofs.Seeking.{goes_then}
use Rattle.hcc_charge.proofs.settling.settle.Goals as goal

pub returns-clause-by : goal.returns-clause-by
returns-clause-by g c =
    goes_then c.args.table.now is_settling c.args.seat.now c.give_slots.new.seat
    c.give_charge.new.seat c.give_slots.ensures.by c.give_charge.ensures.by
