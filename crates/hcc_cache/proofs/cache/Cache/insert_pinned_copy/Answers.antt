use Rattle.std.proofs.Common.{Err, ap}
use Rattle.hcc_cache.proofs.cache.Cache.insert_pinned_copy.Goals as goal

-- nothing but memory is refused late without these bounds
pub returns-in-Err-clause-frees : goal.returns-in-Err-clause-frees
returns-in-Err-clause-frees g c =
    λ free some small enough. c.in-Err.ensures.frees (λ lacks. enough (ap Err lacks))
