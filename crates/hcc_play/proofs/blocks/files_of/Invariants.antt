use Rattle.std.proofs.Common.{◌≡◌, ◌≤◌, length}
use Rattle.hcc_play.proofs.blocks.files_of.Given as goal

abbrev pub invariant-loop-number : goal.invariant-loop-number
invariant-loop-number g l = record {
  count : length l.files.items ≡ l.number;
  within : l.number ≤ length l.paths;
}
