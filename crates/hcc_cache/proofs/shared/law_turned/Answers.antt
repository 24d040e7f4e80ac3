use Rattle.std.proofs.Common.{None, Some}
use Rattle.hcc_cache.specs.Inserts.{draft_of}
use Rattle.hcc_cache.proofs.Within.Short.{short_as, short_pinned}
use Rattle.hcc_cache.proofs.shared.law_turned.Goals as goal

pub returns-clause-stores : goal.returns-clause-stores
returns-clause-stores g c = λ cache key charge priority had has answer old new h.
    short_as g.T.Tag.fits h.shard (draft_of cache key charge priority (λ c. None) old) had has h.was
    h.is answer h.did

pub returns-clause-pins : goal.returns-clause-pins
returns-clause-pins g c = λ cache key charge priority had has answer old new h.
    short_pinned g.T.Tag.fits h.shard (draft_of cache key charge priority (λ c. Some c.used) old)
    had has h.was h.is answer h.did
