use Rattle.std.proofs.Common.{◌≡◌, ℕ, ◌+◌, ◌*◌, ◌/◌, ◌<◌, arith}
use Rattle.hcc_table.proofs.Seeking.{seeks_then}
use Rattle.hcc_table.proofs.Values.{reads_rest, reads_words}
use Rattle.hcc_table.proofs.readings.copy_from.Goals as goal

pub loop-block-preserved : goal.loop-block-preserved
loop-block-preserved g c =
    let told = c.copy_lines.ensures in
    let low : c.loop-block.block < c.args.count / 8 / 32 = c.loop-block-test.true in
    let so_far = c.loop-block.invariant.1 in
    let all = told.steps in (
      reads_words c.args.count 32 c.requires.within (omega arith) (omega arith)
          c.loop-block.invariant.0 told.seat told.view told.bytes,
      omega arith,
      seeks_then c.args.table.now _ _ _ c.loop-block.invariant.2 told.seeks,
    )

pub loop-part-preserved : goal.loop-part-preserved
loop-part-preserved g c =
    let told = c.copy_word.ensures in
    let at : ℕ = 4 * c.loop-four.four + c.loop-part.part in
    let low : c.loop-four.four < c.args.count / 8 / 4 = c.loop-four-test.true in
    let few : c.loop-part.part < 4 = c.loop-part-test.true in
    let so_far = c.loop-part.invariant.1 in
    let one = told.steps in (
      reads_words c.args.count 1 c.requires.within (omega arith) (omega arith)
          c.loop-part.invariant.0 told.seat told.view told.bytes,
      omega arith,
      seeks_then c.args.table.now _ _ _ c.loop-part.invariant.2 told.seeks,
    )

pub loop-index-preserved : goal.loop-index-preserved
loop-index-preserved g c =
    let told = c.copy_word-in-loop-index.ensures in
    let so_far = c.loop-index.invariant.1 in
    let one = told.steps in (
      reads_words c.args.count 1 c.requires.within (omega arith) (omega arith)
          c.loop-index.invariant.0 told.seat told.view told.bytes,
      omega arith,
      seeks_then c.args.table.now _ _ _ c.loop-index.invariant.2 told.seeks,
    )

pub returns-then-rest-gt0-clause-bytes : goal.returns-then-rest-gt0-clause-bytes
returns-then-rest-gt0-clause-bytes g c =
    let ends = c.loop-index.auto.index-end (omega arith) in
    let at : c.loop-index.index ≡ c.args.count / 8 = omega (arith, c.loop-index-test.false, ends) in
    reads_rest c.args.count c.copy_word-then-rest-gt0.new.buffer at c.requires.within
    c.loop-index.invariant.0 c.copy_word-then-rest-gt0.ensures.bytes

pub returns-then-rest-gt0-clause-seeks : goal.returns-then-rest-gt0-clause-seeks
returns-then-rest-gt0-clause-seeks g c =
    seeks_then c.args.table.now _ _ _ c.loop-index.invariant.2
    c.copy_word-then-rest-gt0.ensures.seeks
