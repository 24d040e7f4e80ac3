use Rattle.std.proofs.Common.{◌≡◌, ℕ, ◌+◌, ◌*◌, ◌/◌, ◌%◌, ◌∙◌, arith}
use Rattle.hcc_rule.specs.Closing.{words_of}
use Rattle.hcc_shard.proofs.Values.{front_all, front_on}
use Rattle.hcc_shard.proofs.entries.ClosedShard.value.Goals as goal

pub loop-index-preserved : goal.loop-index-preserved
loop-index-preserved g c =
    let table = c.args.self.now.table in
    let k : ℕ = c.loop-index.index in
    let low = c.loop-index-test.true in
    let length = c.data-length.ensures in
    let next : 8 * (k + 1) ≡ 8 * k + 8 = omega arith in
    rw next (front_on table.geometry.room (words_of table) c.args.slot k 8 c.args.buffer.now
    c.loop-index.buffer c.copy_word.new.buffer (omega arith) (omega arith) (omega arith)
    c.loop-index.invariant c.copy_word.ensures)

pub returns-then-rest-gt0-clause-bytes : goal.returns-then-rest-gt0-clause-bytes
returns-then-rest-gt0-clause-bytes g c =
    let table = c.args.self.now.table in
    let n : ℕ = c.data-length.result in
    let length = c.data-length.ensures in
    let last = c.loop-index-test.false in
    let near = c.loop-index.auto.index-end in
    let end : c.loop-index.index ≡ n / 8 = omega arith in
    let some = c.if-rest-gt0.true in
    let whole : 8 * (n / 8) + n % 8 ≡ n = omega arith in
    let front = front_on table.geometry.room (words_of table) c.args.slot (n / 8) (n % 8)
    c.args.buffer.now c.loop-index.buffer c.copy_word-then-rest-gt0.new.buffer
    (omega arith) (omega arith) (omega arith) (rw (← end) c.loop-index.invariant)
    c.copy_word-then-rest-gt0.ensures in
    front_all table.geometry.room (words_of table) c.args.slot (8 * (n / 8) + n % 8) n
    c.args.buffer.now c.copy_word-then-rest-gt0.new.buffer (whole ∙ length) length front
