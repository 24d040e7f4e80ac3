use Rattle.std.proofs.Common.{sym, subst}
use Rattle.hcc_table.specs.Pins.{IsOf, IsPinned}
use Rattle.hcc_table.proofs.Seeking.{seeks_read, seeks_then}
use Rattle.hcc_table.proofs.readings.read_key.Goals as goal

pub returns-clause-seeks : goal.returns-clause-seeks
returns-clause-seeks g c =
    seeks_then c.args.table.now c.args.seat.now c.read_at.new.seat c.read_at-2.new.seat (seeks_read
    c.args.table.now c.args.pin.name (IsOf c.args.pin) c.requires.holds c.read_at.ensures.event)
    (seeks_read c.args.table.now c.args.pin.name (IsOf c.args.pin)
    (subst (IsPinned c.args.pin) (sym c.read_at.ensures.view) c.requires.holds)
    c.read_at-2.ensures.event)
