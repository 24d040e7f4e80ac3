use Rattle.hcc_cache.proofs.Beginnings.DraftSlots.{IsSeeking}
use Rattle.hcc_cache.proofs.drafting.free_slot.Given as goal

abbrev pub invariant-loop : goal.invariant-loop
invariant-loop l = IsSeeking l.places l.seeded.in_shard l.counter l.probe
