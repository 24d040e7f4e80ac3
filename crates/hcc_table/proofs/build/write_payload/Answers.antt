use Rattle.std.proofs.Common.{◌≡◌, ◌/◌, ◌∙◌, ap, arith, length, refl}
use Rattle.hcc_rule.specs.Words.{payload_word}
use Rattle.hcc_table.proofs.Logs.{adds_none, adds_one, adds_then}
use Rattle.hcc_table.specs.Seeking.{is_write}
use Rattle.hcc_table.proofs.Seeking.{goes_event, goes_none, goes_then}
use Rattle.hcc_table.proofs.InsertsWords.{writes_none, still_seat, still_builds, next_word, writes_more, writes_all}
use Rattle.hcc_table.proofs.build.write_payload.Goals as goal

pub loop-k-init : goal.loop-k-init
loop-k-init g c = (
  writes_none,
  omega arith,
  adds_none c.args.seat.now c.args.seat.now refl,
  goes_none c.args.table.now is_write c.args.seat.now c.args.seat.now refl,
)

pub write_at-requires-clause-seat : goal.write_at-requires-clause-seat
write_at-requires-clause-seat g c = still_seat c.loop-k.invariant.0 c.requires.seat

pub write_at-requires-clause-owned : goal.write_at-requires-clause-owned
write_at-requires-clause-owned g c = still_builds c.loop-k.invariant.0 c.requires.owned

pub write_at-requires-clause-next : goal.write_at-requires-clause-next
write_at-requires-clause-next g c = (next_word c.loop-k.invariant.0 c.requires.head, omega arith)

pub loop-k-preserved : goal.loop-k-preserved
loop-k-preserved g c =
    let so_far = c.loop-k.invariant.1 in
    let one = c.write_at.ensures.step.one in (
      writes_more c.loop-k.invariant.0 c.write_at.ensures.seat c.write_at.ensures.view
          c.whole_word.ensures,
      omega arith,
      adds_then c.args.seat.now c.loop-k.seat c.write_at.new.seat c.loop-k.invariant.2
          (adds_one _ c.loop-k.seat c.write_at.new.seat c.write_at.ensures.step.step),
      goes_then c.args.table.now is_write _ _ _ c.loop-k.invariant.3 (goes_event c.args.table.now
          is_write _ c.loop-k.seat c.write_at.new.seat c.write_at.ensures.event refl),
    )

pub write_at-requires-then-value-gt0-clause-next : goal.write_at-requires-then-value-gt0-clause-next
write_at-requires-then-value-gt0-clause-next g c =
    let all = c.loop-k-test.false in
    let behind = next_word c.loop-k.invariant.0 c.requires.head in
    (omega arith, omega arith)

pub returns-then-value-gt0-clause-view : goal.returns-then-value-gt0-clause-view
returns-then-value-gt0-clause-view g c =
    let last = c.write_at-then-value-gt0 in
    let all = c.loop-k-test.false in
    let is : length c.args.value.now / 8 ≡ c.loop-k.k = omega arith in
    let more = writes_more c.loop-k.invariant.0 last.ensures.seat last.ensures.view
    (c.word_at.ensures ∙ ap (payload_word c.args.value.now) is) in
    writes_all more (omega arith)

pub returns-else-value-gt0-clause-view : goal.returns-else-value-gt0-clause-view
returns-else-value-gt0-clause-view g c =
    let all = c.loop-k-test.false in
    writes_all c.loop-k.invariant.0 (omega arith)

pub returns-then-value-gt0-clause-by : goal.returns-then-value-gt0-clause-by
returns-then-value-gt0-clause-by g c =
    let last = c.write_at-then-value-gt0 in
    goes_then c.args.table.now is_write _ _ _ c.loop-k.invariant.3
    (goes_event c.args.table.now is_write _ c.loop-k.seat last.new.seat last.ensures.event refl)
