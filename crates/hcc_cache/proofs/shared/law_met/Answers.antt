use Rattle.std.proofs.Common.{None, Some}
use Rattle.hcc_cache.specs.Inserts.{draft_of}
use Rattle.hcc_cache.proofs.Within.Answered.{met_as, met_pinned}
use Rattle.hcc_cache.proofs.shared.law_met.Goals as goal

pub returns-clause-stores : goal.returns-clause-stores
returns-clause-stores g c = λ cache key charge priority had has answer old new h.
    met_as g.T.Tag.fits h.shard (draft_of cache key charge priority (λ c. None) old) had has answer
    h.was h.is h.did

pub returns-clause-pins : goal.returns-clause-pins
returns-clause-pins g c = λ cache key charge priority had has answer old new h.
    met_pinned g.T.Tag.fits h.shard (draft_of cache key charge priority (λ c. Some c.used) old) had
    has answer h.was h.is h.did
