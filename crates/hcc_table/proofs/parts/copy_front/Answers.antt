use Rattle.std.proofs.Common.{arith}
use Rattle.hcc_rule.specs.Callers.{room_of}
use Rattle.hcc_rule.specs.Seats.{view}
use Rattle.hcc_rule.specs.Records.{record_in}
use Rattle.hcc_table.proofs.Offsets.{put_part}
use Rattle.hcc_table.proofs.parts.copy_front.Goals as goal

pub returns-then-front-gt0-clause-bytes : goal.returns-then-front-gt0-clause-bytes
returns-then-front-gt0-clause-bytes g c =
    put_part (record_in c.args.held.pin.name (view c.args.seat.now).records)
    (room_of c.args.table.now) c.args.offset c.read_word-word.result c.args.buffer.now
    c.if-front-gt0.true (omega (arith, c.min-front.ensures)) (omega (arith, c.min-front.ensures))
    c.requires.readable c.requires.within c.read_word-word.ensures.word c.put_end.ensures
