use Rattle.std.proofs.Common.{◌≡◌, drop}
use Rattle.hcc_shard.specs.Reopened.{is_rising}
use Rattle.hcc_shard.proofs.reopening.are_rising.Given as goal

abbrev pub invariant-loop-entry : goal.invariant-loop-entry
invariant-loop-entry l =
    is_rising 0 l.slots l.image ≡ is_rising l.low l.slots (drop l.entry-index l.image)
