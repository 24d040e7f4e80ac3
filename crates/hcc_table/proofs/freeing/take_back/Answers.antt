use Rattle.std.proofs.Common.{arith, refl}
use Rattle.hcc_table.proofs.Logs.{adds_none, adds_one, adds_then}
use Rattle.hcc_table.specs.Seeking.{is_unpass}
use Rattle.hcc_table.proofs.Seeking.{goes_event, goes_none, goes_then}
use Rattle.hcc_table.proofs.TakesBack.{takes_back, back, stands, goes_back, shorter}
use Rattle.hcc_table.proofs.freeing.take_back.Goals as goal

pub loop-init : goal.loop-init
loop-init g c =
    let table = c.args.table.now in
    let told = c.begin-walk.ensures in (
      takes_back table.limits.power c.requires.trail told.probe told.stride
          (rw (← c.geometry-slots.ensures) told.mask),
      omega arith,
      adds_none c.args.seat.now c.args.seat.now refl,
      goes_none table is_unpass c.args.seat.now c.args.seat.now refl,
    )

pub returns-then-passed-slot-clause-view : goal.returns-then-passed-slot-clause-view
returns-then-passed-slot-clause-view g c =
    back c.loop.invariant.0 c.slot-passed.ensures (rw (← c.geometry-slots.ensures) c.loop-test.true)
    c.if-passed-slot.true

pub unpass-requires-clause-passed : goal.unpass-requires-clause-passed
unpass-requires-clause-passed g c =
    stands c.loop.invariant.0 c.slot-passed.ensures
    (rw (← c.geometry-slots.ensures) c.loop-test.true) c.if-passed-slot.false

pub loop-preserved : goal.loop-preserved
loop-preserved g c =
    let told = c.next-walk.ensures in
    let table = c.args.table.now in
    let so_far = c.loop.invariant.1 in
    let one = c.unpass.ensures.step.1.one in
    let back = goes_back c.loop.invariant.0 c.slot-passed.ensures
    (rw (← c.geometry-slots.ensures) c.loop-test.true) c.if-passed-slot.false
    c.args.table.now.limits.power c.unpass.ensures.seat c.unpass.ensures.view told.probe told.stride
    told.mask in (
      back,
      (let less = shorter c.loop.invariant.0 c.slot-passed.ensures
          (rw (← c.geometry-slots.ensures) c.loop-test.true) c.if-passed-slot.false back in
          omega arith),
      adds_then c.args.seat.now c.loop.seat c.unpass.new.seat c.loop.invariant.2
          (adds_one _ c.loop.seat c.unpass.new.seat c.unpass.ensures.step.1.step),
      goes_then table is_unpass _ _ _ c.loop.invariant.3
          (goes_event table is_unpass _ c.loop.seat c.unpass.new.seat c.unpass.ensures.event refl),
    )
