use Rattle.std.proofs.Common.{◌≡◌, None, replicate}
use Rattle.hcc_cache.proofs.drafting.Draft.new.Given as goal

abbrev pub invariant-loop : goal.invariant-loop
invariant-loop l = l.places.items ≡ replicate l.counter None
