use Rattle.std.proofs.Common.{◌≡◌, ℕ, Some, length, slice_get}
use Rattle.hcc_cache.specs.declared.drafting.Draft.{Draft}
use Rattle.hcc_cache.specs.Drafts.{IsBlank}
use Rattle.hcc_cache.proofs.drafting.blank.Given as goal

abbrev pub invariant-loop : goal.invariant-loop
invariant-loop l = record {
  count : length l.drafts.items ≡ l.counter;
  each : (shard : ℕ) (d : Draft) → slice_get l.drafts.items shard ≡ Some d
      → IsBlank l.config.slots d;
}
