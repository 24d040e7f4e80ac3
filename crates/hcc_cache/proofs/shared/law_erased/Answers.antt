use Rattle.hcc_shard.specs.declared.erasing.TheConstants.{IN_FLIGHT}
use Rattle.hcc_cache.specs.Sharding.{key_to}
use Rattle.hcc_cache.proofs.Within.Begun.{on_by}
use Rattle.hcc_cache.proofs.Within.Hidden.{erased_lacked}
use Rattle.hcc_cache.proofs.Within.Taken.{lacking_taken}
use Rattle.hcc_cache.proofs.shared.law_erased.Goals as goal

pub returns-clause-lacks : goal.returns-clause-lacks
returns-clause-lacks g c = λ cache key room hidden old new h slot near.
    erased_lacked h.shard.table _ (key_to cache.seed key) IN_FLIGHT room h.did.all h.was.effort
    h.is.effort h.was.seat h.did.mid h.is.seat h.did.hides (on_by h.shard.table h.did.settles) slot
    near

pub returns-clause-taken : goal.returns-clause-taken
returns-clause-taken g c = λ cache began key room hidden old new knows h k.
    lacking_taken g.T.Tag.fits cache began key old new k knows h.shard h.was h.is h.shard_is
    h.seat_was h.seat_is (returns-clause-lacks g c cache key room hidden old new h)
