use Rattle.hcc_cache.proofs.Images.ShardByShard.{IsSaving}
use Rattle.hcc_cache.proofs.image.save.Given as goal

abbrev pub invariant-loop-entry : goal.invariant-loop-entry
invariant-loop-entry l =
    IsSaving l.seed l.fn.image.items l.fn.entries.items l.image.items l.entry-iterator.rest.items
