use Rattle.hcc_rule.specs.Seats.{view}
use Rattle.hcc_rule.specs.Records.{record_in}
use Rattle.hcc_table.proofs.Values.{copied}
use Rattle.hcc_table.proofs.readings.copy_word.Goals as goal

pub returns-clause-bytes : goal.returns-clause-bytes
returns-clause-bytes g c =
    copied (record_in c.args.held.pin.name (view c.args.seat.now).records) c.args.held.pin.slot
    c.args.table.now.geometry.room c.args.first c.args.index c.read_word-word.result
    c.args.buffer.now c.requires.some c.requires.few c.requires.holds c.read_word-word.ensures.word
    c.put.ensures
