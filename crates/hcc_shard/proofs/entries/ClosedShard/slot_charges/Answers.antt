use Rattle.std.proofs.Common.{◌≡◌, ◌^◌, ap, arith}
use Rattle.hcc_rule.specs.declared.layout.TheConstants.{CHARGE}
use Rattle.hcc_rule.specs.Closing.{data_at, words_of}
use Rattle.hcc_shard.proofs.Lefts.{sums_none, sums_on}
use Rattle.hcc_shard.proofs.entries.ClosedShard.slot_charges.Goals as goal

pub loop-slot-init : goal.loop-slot-init
loop-slot-init g c =
    sums_none c.args.self.now.table.geometry.room (words_of c.args.self.now.table)
    (λ s. data_at c.args.self.now.table.geometry.room (words_of c.args.self.now.table) s
    CHARGE) (2 ^ 32)

pub loop-slot-preserved : goal.loop-slot-preserved
loop-slot-preserved g c =
    let told = c.charge_at-sum.ensures in
    sums_on c.args.self.now.table.geometry.room (words_of c.args.self.now.table)
    (λ s. data_at c.args.self.now.table.geometry.room (words_of c.args.self.now.table) s
    CHARGE) (2 ^ 32) c.loop-slot.slot
    c.loop-slot.sum c.charge_at-sum.result c.loop-slot.invariant told.value told.low

pub returns : goal.returns
returns g c =
    let last = c.loop-slot-test.false in
    let near = c.loop-slot.auto.slot-end in
    let size = ap (λ z. z.slots) c.geometry-slot-end.ensures in
    let end : c.loop-slot.slot ≡ c.args.self.now.table.geometry.slots = omega arith in
    (rw end at c.loop-slot.invariant).is
