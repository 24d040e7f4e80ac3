use Rattle.std.proofs.Common.{None, Some}
use Rattle.hcc_cache.specs.Calls.{shard_in}
use Rattle.hcc_cache.specs.Inserts.{draft_of}
use Rattle.hcc_cache.proofs.Insertions.WithoutEviction.{keeps_as, keeps_keys, keeps_pinned_as, keeps_pinned_keys, knows_over}
use Rattle.hcc_cache.proofs.Calm.Stretches.{calm_of}
use Rattle.hcc_cache.proofs.Calm.Finds.{seat_named}
use Rattle.hcc_cache.proofs.Calm.Inserts.{leaves_quiet, shows_quiet_as, shows_quiet_pinned}
use Rattle.hcc_cache.proofs.undisturbed.law_undisturbed_insertions.Goals as goal

pub returns-clause-stores : goal.returns-clause-stores
returns-clause-stores g c = λ cache began key charge priority answer old new knows h quiet same.
    let draft = draft_of cache key charge priority (λ c. None) old in
    keeps_as g.T.Tag.fits h.shard draft h.was h.is
    (leaves_quiet g.T.Tag.fits h.shard draft h.was h.is (began _ h.shard h.shard_is) old.number
    (seat_named cache old knows _ h.shard h.was h.shard_is h.seat_was) (calm_of old.number quiet))
    same answer h.did

pub returns-clause-pins : goal.returns-clause-pins
returns-clause-pins g c = λ cache began key charge priority answer old new knows h quiet same.
    let draft = draft_of cache key charge priority (λ c. Some c.used) old in
    keeps_pinned_as g.T.Tag.fits h.shard draft h.was h.is
    (leaves_quiet g.T.Tag.fits h.shard draft h.was h.is (began _ h.shard h.shard_is) old.number
    (seat_named cache old knows _ h.shard h.was h.shard_is h.seat_was) (calm_of old.number quiet))
    same answer h.did

pub returns-clause-kept : goal.returns-clause-kept
returns-clause-kept g c = λ cache began key charge priority answer old new knows h quiet same only
    other.
    knows_over cache (shard_in cache key) other old new h.shard h.was h.is h.shard_is h.seat_was
    h.seat_is only
    (keeps_keys g.T.Tag.fits h.shard (draft_of cache key charge priority (λ c. None) old) h.was
    h.is answer h.did
    (returns-clause-stores g c cache began key charge priority answer old new knows h quiet same))

pub returns-clause-kept_pinned : goal.returns-clause-kept_pinned
returns-clause-kept_pinned g c = λ cache began key charge priority answer old new knows h quiet same
    only other.
    knows_over cache (shard_in cache key) other old new h.shard h.was h.is h.shard_is h.seat_was
    h.seat_is only
    (keeps_pinned_keys g.T.Tag.fits h.shard
    (draft_of cache key charge priority (λ c. Some c.used) old) h.was h.is answer h.did
    (returns-clause-pins g c cache began key charge priority answer old new knows h quiet same))

pub returns-clause-tries : goal.returns-clause-tries
returns-clause-tries g c = λ cache began key charge priority answer old new knows h quiet.
    shows_quiet_as g.T.Tag.fits h.shard (draft_of cache key charge priority (λ c. None) old) h.was
    h.is (began _ h.shard h.shard_is) new.number
    (seat_named cache new knows _ h.shard h.is h.shard_is h.seat_is) answer h.did quiet

pub returns-clause-tries_pinned : goal.returns-clause-tries_pinned
returns-clause-tries_pinned g c = λ cache began key charge priority answer old new knows h quiet.
    shows_quiet_pinned g.T.Tag.fits h.shard
    (draft_of cache key charge priority (λ c. Some c.used) old) h.was h.is
    (began _ h.shard h.shard_is) new.number
    (seat_named cache new knows _ h.shard h.is h.shard_is h.seat_is) answer h.did quiet
