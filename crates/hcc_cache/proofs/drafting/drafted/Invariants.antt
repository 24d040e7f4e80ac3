use Rattle.std.proofs.Common.{map}
use Rattle.hcc_cache.specs.Images.{visible_of}
use Rattle.hcc_cache.proofs.Beginnings.DraftsFilled.{IsDrafting}
use Rattle.hcc_cache.proofs.drafting.drafted.Given as goal

abbrev pub invariant-loop-saved : goal.invariant-loop-saved
invariant-loop-saved l =
    IsDrafting l.config (map visible_of l.fn.image.items) l.drafts.items
    (map visible_of l.left.items) (map visible_of l.saved-iterator.rest.items)
