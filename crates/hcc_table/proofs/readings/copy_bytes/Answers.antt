use Rattle.hcc_rule.specs.Seats.{view}
use Rattle.hcc_rule.specs.Records.{record_in}
use Rattle.hcc_table.proofs.Values.{all_filled}
use Rattle.hcc_table.proofs.readings.copy_bytes.Goals as goal

pub returns-clause-bytes : goal.returns-clause-bytes
returns-clause-bytes g c =
    all_filled (record_in c.args.held.pin.name (view c.args.seat.now).records) c.args.count
    c.args.buffer.now c.copy_from.new.buffer c.requires.exact c.copy_from.ensures.bytes
