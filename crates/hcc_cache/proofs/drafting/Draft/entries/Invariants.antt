use Rattle.hcc_cache.proofs.Beginnings.DraftSlots.{IsGathering}
use Rattle.hcc_cache.proofs.drafting.Draft.entries.Given as goal

abbrev pub invariant-loop-place : goal.invariant-loop-place
invariant-loop-place l =
    IsGathering l.fn.self.places.items l.entries.items l.place-iterator.rest.items
