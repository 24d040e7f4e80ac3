use Rattle.hcc_cache.specs.Inserts.{draft_of}
use Rattle.std.proofs.Common.{None, Some, refl}
use Rattle.hcc_cache.proofs.Beginnings.BegunShown.{taken_shown}
use Rattle.hcc_cache.proofs.Clients.ShownSince.{shown_since, shown_still}
use Rattle.hcc_cache.proofs.Insertions.PlacedShown.{put_shown}
use Rattle.hcc_cache.proofs.Within.Taken.{gone_since, held_hidden}
use Rattle.hcc_cache.proofs.laws.law_shown_since.Goals as goal

pub returns-clause-since : goal.returns-clause-since
returns-clause-since g c = λ cache began key old new goes k.
    shown_since g.T.Tag.fits cache began key old k new goes

pub returns-clause-gone : goal.returns-clause-gone
returns-clause-gone g c = λ cache began key old new goes k t.
    gone_since g.T.Tag.fits cache began key old new k goes t

pub returns-clause-held : goal.returns-clause-held
returns-clause-held g c = λ cache began key old k more t held.
    held_hidden g.T.Tag.fits cache began key old old k more t held

pub returns-clause-stays : goal.returns-clause-stays
returns-clause-stays g c = λ cache began key old new knows stays k.
    shown_still g.T.Tag.fits cache began key old k new knows stays

pub returns-clause-placed : goal.returns-clause-placed
returns-clause-placed g c = λ cache began key charge priority had has old new knows h.
    put_shown g.T.Tag.fits cache began key old new knows
    (draft_of cache key charge priority (λ c. None) old) refl had has h

pub returns-clause-placed_pinned : goal.returns-clause-placed_pinned
returns-clause-placed_pinned g c = λ cache began key charge priority had has old new knows h.
    put_shown g.T.Tag.fits cache began key old new knows
    (draft_of cache key charge priority (λ c. Some c.used) old) refl had has (record {
      shard = h.1.shard;
      was = h.1.was;
      is = h.1.is;
      shard_is = h.1.shard_is;
      seat_was = h.1.seat_was;
      seat_is = h.1.seat_is;
      did = (h.0.slot, h.1.did);
    })

pub returns-clause-reopened : goal.returns-clause-reopened
returns-clause-reopened g c = λ config tag image cache clients is_of index e taken number client at.
    taken_shown g.T.Tag.fits config tag image cache clients is_of index e taken number client at
