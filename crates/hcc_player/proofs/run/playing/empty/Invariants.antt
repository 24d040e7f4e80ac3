use Rattle.std.proofs.Common.{◌≤◌, ◌-◌, length}
use Rattle.hcc_player.specs.Runs.{AreEmpty}
use Rattle.hcc_player.proofs.run.playing.empty.Given as goal

abbrev pub invariant-loop-alloc : goal.invariant-loop-alloc
invariant-loop-alloc l = record {
  few : length l.all.items ≤ l.count;
  empty : AreEmpty l.all.items;
}

abbrev pub decreases-loop-alloc : goal.decreases-loop-alloc
decreases-loop-alloc l = l.count - length l.all.items
