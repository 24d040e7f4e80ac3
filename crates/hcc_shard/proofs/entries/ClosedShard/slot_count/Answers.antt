use Rattle.std.proofs.Common.{◌≡◌, ap, arith}
use Rattle.hcc_rule.specs.Closing.{words_of}
use Rattle.hcc_shard.proofs.Lefts.{sums_none, sums_on}
use Rattle.hcc_shard.proofs.entries.ClosedShard.slot_count.Goals as goal

pub loop-slot-init : goal.loop-slot-init
loop-slot-init g c =
    sums_none c.args.self.now.table.geometry.room (words_of c.args.self.now.table)
    (λ s. 1) 1

pub loop-slot-preserved : goal.loop-slot-preserved
loop-slot-preserved g c =
    let told = c.entries_at-count.ensures in
    sums_on c.args.self.now.table.geometry.room (words_of c.args.self.now.table)
    (λ s. 1) 1 c.loop-slot.slot
    c.loop-slot.count c.entries_at-count.result c.loop-slot.invariant told.value told.low

pub returns : goal.returns
returns g c =
    let last = c.loop-slot-test.false in
    let near = c.loop-slot.auto.slot-end in
    let size = ap (λ z. z.slots) c.geometry-slot-end.ensures in
    let end : c.loop-slot.slot ≡ c.args.self.now.table.geometry.slots = omega arith in
    (rw end at c.loop-slot.invariant).is
