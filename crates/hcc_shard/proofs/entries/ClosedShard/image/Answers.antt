use Rattle.std.proofs.Common.{◌≡◌, ap, arith}
use Rattle.hcc_shard.specs.Imaged.{is_shown}
use Rattle.hcc_shard.proofs.Imagings.{image_more, image_past, image_taken, rising_in_range}
use Rattle.hcc_shard.proofs.entries.ClosedShard.image.Goals as goal
use Rattle.hcc_shard.proofs.entries.ClosedShard.image.Goals.{in-Some+in_ok-push, in_default}

pub loop-slot-preserved : goal.loop-slot-preserved
loop-slot-preserved g c = elim c.match-branch-2.branch [
  | in-Some+in_ok-push w ↦
      let table = c.args.self.now.table in
      let inside = c.loop-slot-test.true in
      let size = ap (λ z. z.slots) c.geometry-slot-end.ensures in
      rw (w.image-is, w.in_ok-push.ensures.items) (image_more table c.loop-slot.slot
      c.loop-slot.image.items w.in-Some.entry c.loop-slot.invariant
      (rw w.in-Some.is at c.in_ok-entry.ensures) c.args.self.now.left (omega arith))
  | in_default w ↦
      rw w.image-is (image_past c.args.self.now.table c.loop-slot.slot c.loop-slot.image.items
      c.loop-slot.invariant (rw w.in_default.is at c.in_ok-entry.ensures))
]

pub returns-clause-rising : goal.returns-clause-rising
returns-clause-rising g c =
    let table = c.args.self.now.table in
    let last = c.loop-slot-test.false in
    let near = c.loop-slot.auto.slot-end in
    let size = ap (λ z. z.slots) c.geometry-slot-end.ensures in
    let end : c.loop-slot.slot ≡ table.geometry.slots = omega arith in
    rising_in_range (is_shown table) 0 table.geometry.slots table.geometry.slots
    c.loop-slot.image.items (omega arith) (rw end at c.loop-slot.invariant.shown.slots)

pub returns-clause-taken : goal.returns-clause-taken
returns-clause-taken g c = λ capacity strict within.
    (let table = c.args.self.now.table in
    let last = c.loop-slot-test.false in
    let near = c.loop-slot.auto.slot-end in
    let size = ap (λ z. z.slots) c.geometry-slot-end.ensures in
    let end : c.loop-slot.slot ≡ table.geometry.slots = omega arith in
    image_taken table c.loop-slot.image.items capacity strict (rw end at c.loop-slot.invariant)
    (returns-clause-rising g c) c.args.self.now.left within)
