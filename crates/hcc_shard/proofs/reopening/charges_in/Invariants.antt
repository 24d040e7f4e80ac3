use Rattle.std.proofs.Common.{◌≡◌, ◌+◌, ◌*◌, ◌^◌, ◌≤◌, drop}
use Rattle.hcc_rule.specs.ImageLimits.{charges_of}
use Rattle.hcc_shard.proofs.reopening.charges_in.Given as goal

abbrev pub invariant-loop-entry : goal.invariant-loop-entry
invariant-loop-entry l = record {
  so_far : l.sum + charges_of (drop l.entry-index l.image) ≡ charges_of l.image;
  low : l.sum ≤ l.entry-index * 2 ^ 32;
}
