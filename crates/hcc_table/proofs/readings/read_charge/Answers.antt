use Rattle.hcc_table.specs.Pins.{IsOf}
use Rattle.hcc_table.proofs.Seeking.{seeks_read}
use Rattle.hcc_table.proofs.readings.read_charge.Goals as goal

pub returns-clause-seeks : goal.returns-clause-seeks
returns-clause-seeks g c =
    seeks_read c.args.table.now c.args.held.pin.name (IsOf c.args.held.pin) c.requires.holds
    c.read_at.ensures.event
