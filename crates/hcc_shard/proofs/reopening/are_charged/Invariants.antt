use Rattle.std.proofs.Common.{◌≡◌, false, take}
use Rattle.std.specs.List.{list_any}
use Rattle.hcc_rule.specs.Views.{Each}
use Rattle.hcc_shard.specs.Reopened.{IsSmall, is_free}
use Rattle.hcc_shard.proofs.reopening.are_charged.Given as goal

abbrev pub invariant-loop-entry : goal.invariant-loop-entry
invariant-loop-entry l = record {
  exact : list_any is_free (take l.entry-index l.image) ≡ false;
  types : Each IsSmall (take l.entry-index l.image);
}
