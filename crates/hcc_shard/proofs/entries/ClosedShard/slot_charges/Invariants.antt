use Rattle.std.proofs.Common.{◌^◌}
use Rattle.hcc_rule.specs.declared.layout.TheConstants.{CHARGE}
use Rattle.hcc_rule.specs.Closing.{data_at, words_of}
use Rattle.hcc_shard.proofs.Lefts.{IsSumming}
use Rattle.hcc_shard.proofs.entries.ClosedShard.slot_charges.Given as goal

abbrev pub invariant-loop-slot : goal.invariant-loop-slot
invariant-loop-slot g l =
    IsSumming l.self.table.geometry.room (words_of l.self.table)
    (λ s. data_at l.self.table.geometry.room (words_of l.self.table) s CHARGE) (2 ^ 32) l.slot l.sum
