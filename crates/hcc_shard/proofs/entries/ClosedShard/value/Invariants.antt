use Rattle.std.proofs.Common.{◌*◌}
use Rattle.hcc_rule.specs.Closing.{words_of}
use Rattle.hcc_shard.proofs.Values.{IsFront}
use Rattle.hcc_shard.proofs.entries.ClosedShard.value.Given as goal

abbrev pub invariant-loop-index : goal.invariant-loop-index
invariant-loop-index g l =
    IsFront l.self.table.geometry.room (words_of l.self.table) l.slot (8 * l.index) l.fn.buffer
    l.buffer
