use Rattle.std.proofs.Common.{◌≡◌, false, take}
use Rattle.std.specs.List.{list_any}
use Rattle.hcc_rule.specs.Views.{Each}
use Rattle.hcc_shard.specs.Reopened.{HasBytes, is_long}
use Rattle.hcc_shard.proofs.reopening.are_short.Given as goal

abbrev pub invariant-loop-entry : goal.invariant-loop-entry
invariant-loop-entry l = record {
  exact : list_any (is_long l.room) (take l.entry-index l.image) ≡ false;
  types : Each HasBytes (take l.entry-index l.image);
}
