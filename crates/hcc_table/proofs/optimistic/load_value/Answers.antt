use Rattle.std.proofs.Common.{◌≡◌, ◌+◌, ◌*◌, ◌<◌, length, slice_set, subst, arith}
use Rattle.hcc_table.proofs.Peeks.{HasLoaded, loaded_length, loaded_more, peek_loads}
use Rattle.hcc_table.proofs.optimistic.load_value.Goals as goal

pub returns-then-count-most-clause-loads : goal.returns-then-count-most-clause-loads
returns-then-count-most-clause-loads g c =
    peek_loads c.args.table.now c.args.at.slot c.peek_at-count.new.seat
    c.peek_at-count.ensures.event

pub loop-four-init : goal.loop-four-init
loop-four-init g c =
    loaded_length c.args.table.now c.args.at.slot c.peek_at-count.ensures.seat
    c.peek_at-count.ensures.view c.peek_at-count.ensures.event c.peek_at-count.ensures.step.one
    c.peek_at-count.ensures.word

pub loop-part-preserved : goal.loop-part-preserved
loop-part-preserved g c =
    let told = c.peek_at.ensures in
    let index = 4 * c.loop-four.four + c.loop-part.part in
    let all = c.div_ceil-all.ensures in
    let inside : index < length c.loop-part.words =
    omega (arith, all, c.loop-four-test.true, c.loop-part-test.true) in
    subst (λ n. HasLoaded c.args.table.now c.args.at.slot c.peek_at-count.result n
    (slice_set c.loop-part.words index c.peek_at.result) c.args.seat.now c.peek_at.new.seat)
    (let next : index + 1 ≡ 4 * c.loop-four.four + (c.loop-part.part + 1) = omega arith in next)
    (loaded_more c.args.table.now c.args.at.slot c.peek_at.result c.loop-part.invariant inside
    told.seat told.view told.event told.step.one told.word)

pub loop-index-preserved : goal.loop-index-preserved
loop-index-preserved g c =
    let told = c.peek_at-in-loop-index.ensures in
    loaded_more c.args.table.now c.args.at.slot c.peek_at-in-loop-index.result
    c.loop-index.invariant (omega arith) told.seat told.view told.event told.step.one told.word

pub returns-clause-words : goal.returns-clause-words
returns-clause-words g c j low =
    let all = c.div_ceil-all.ensures in
    c.loop-index.invariant.each j (omega (arith, low, all, c.loop-index-test.false))
