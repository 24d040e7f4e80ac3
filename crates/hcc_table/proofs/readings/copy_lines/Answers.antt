use Rattle.std.proofs.Common.{ℕ, ◌+◌, ◌*◌, List, drop}
use Rattle.hcc_rule.specs.Seats.{view}
use Rattle.hcc_rule.specs.Records.{record_in}
use Rattle.hcc_table.specs.Readings.{put_turn}
use Rattle.hcc_table.proofs.Seeking.{seeks_four, seeks_then}
use Rattle.hcc_table.proofs.Turns.{puts_first, puts_next, some_last}
use Rattle.hcc_table.proofs.readings.copy_lines.Goals as goal

pub returns-clause-bytes : goal.returns-clause-bytes
returns-clause-bytes g c =
    let from = c.args.from in
    let turn = λ (at : ℕ) (value buffer : List ℕ).
    put_turn at (drop (8 * c.args.first) value) buffer in
    some_last (record_in c.args.held.pin.name (view c.args.seat.now).records) c.args.held.pin.slot
    c.args.table.now.geometry.room c.args.first from c.args.buffer.now c.copy_turn-8.new.buffer
    c.requires.space c.requires.holds (puts_next (turn (from + 7)) c.copy_turn-8.ensures.view
    c.copy_turn-8.ensures.bytes (puts_next (turn (from + 6)) c.copy_turn-7.ensures.view
    c.copy_turn-7.ensures.bytes (puts_next (turn (from + 5)) c.copy_turn-6.ensures.view
    c.copy_turn-6.ensures.bytes (puts_next (turn (from + 4)) c.copy_turn-5.ensures.view
    c.copy_turn-5.ensures.bytes (puts_next (turn (from + 3)) c.copy_turn-4.ensures.view
    c.copy_turn-4.ensures.bytes (puts_next (turn (from + 2)) c.copy_turn-3.ensures.view
    c.copy_turn-3.ensures.bytes (puts_next (turn (from + 1)) c.copy_turn-2.ensures.view
    c.copy_turn-2.ensures.bytes
    (puts_first c.copy_turn.ensures.view c.copy_turn.ensures.bytes)))))))).put

pub returns-clause-seeks : goal.returns-clause-seeks
returns-clause-seeks g c =
    seeks_then c.args.table.now _ _ _ (seeks_four c.args.table.now c.copy_turn.ensures.seeks
    c.copy_turn-2.ensures.seeks c.copy_turn-3.ensures.seeks c.copy_turn-4.ensures.seeks)
    (seeks_four c.args.table.now c.copy_turn-5.ensures.seeks c.copy_turn-6.ensures.seeks
    c.copy_turn-7.ensures.seeks c.copy_turn-8.ensures.seeks)
