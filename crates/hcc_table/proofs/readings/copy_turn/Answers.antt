use Rattle.std.proofs.Common.{ℕ, ◌+◌, ◌*◌, List, drop}
use Rattle.hcc_table.specs.Readings.{put_in}
use Rattle.hcc_table.proofs.Seeking.{seeks_four}
use Rattle.hcc_table.proofs.Turns.{puts_first, puts_next}
use Rattle.hcc_table.proofs.readings.copy_turn.Goals as goal

pub returns-clause-bytes : goal.returns-clause-bytes
returns-clause-bytes g c =
    let at = c.args.at in
    let next = λ (index : ℕ) (value buffer : List ℕ).
    put_in (8 * index) 8 (drop (8 * c.args.first) value) buffer in
    (puts_next (next (at + 24)) c.copy_word-4.ensures.view c.copy_word-4.ensures.bytes
    (puts_next (next (at + 16)) c.copy_word-3.ensures.view c.copy_word-3.ensures.bytes
    (puts_next (next (at + 8)) c.copy_word-2.ensures.view c.copy_word-2.ensures.bytes
    (puts_first c.copy_word.ensures.view c.copy_word.ensures.bytes)))).put

pub returns-clause-seeks : goal.returns-clause-seeks
returns-clause-seeks g c =
    seeks_four c.args.table.now c.copy_word.ensures.seeks c.copy_word-2.ensures.seeks
    c.copy_word-3.ensures.seeks c.copy_word-4.ensures.seeks
