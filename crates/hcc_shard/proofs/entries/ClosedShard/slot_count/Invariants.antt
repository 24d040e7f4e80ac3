use Rattle.hcc_rule.specs.Closing.{words_of}
use Rattle.hcc_shard.proofs.Lefts.{IsSumming}
use Rattle.hcc_shard.proofs.entries.ClosedShard.slot_count.Given as goal

abbrev pub invariant-loop-slot : goal.invariant-loop-slot
invariant-loop-slot g l =
    IsSumming l.self.table.geometry.room (words_of l.self.table)
    (λ s. 1) 1 l.slot l.count
