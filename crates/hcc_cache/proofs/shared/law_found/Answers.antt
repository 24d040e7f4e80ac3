use Rattle.std.proofs.Common.{refl}
use Rattle.hcc_table.proofs.Seeking.{seeks_none}
use Rattle.hcc_cache.specs.Sharding.{key_to}
use Rattle.hcc_cache.proofs.Clients.ShownFound.{found_held}
use Rattle.hcc_cache.proofs.shared.law_found.Goals as goal

pub returns-clause-held : goal.returns-clause-held
returns-clause-held g c = λ cache began key handle old new knows h.
    found_held g.T.Tag.fits cache began key old new knows h.shard h.was h.is h.shard_is h.seat_was
    h.seat_is old.used h.did.0 h.is h.did.1 h.shard.marks h.was.effort h.is.effort h.did.2
    (c.law_lasting.ensures h.shard.table (key_to cache.seed key) old.used h.shard.marks h.did.0
    h.was.effort h.is.effort h.was.seat h.is.seat h.did.2)
    (seeks_none h.shard.table h.is.seat) refl

pub returns-clause-held_read : goal.returns-clause-held_read
returns-clause-held_read g c = λ cache began key handle old new knows h.
    let looked = h.did.1 in
    found_held g.T.Tag.fits cache began key old new knows h.shard h.was h.is h.shard_is h.seat_was
    h.seat_is old.used h.did.0 looked h.did.2 h.shard.marks h.was.effort looked.effort h.did.3
    (c.law_lasting.ensures h.shard.table (key_to cache.seed key) old.used h.shard.marks h.did.0
    h.was.effort looked.effort h.was.seat looked.seat h.did.3)
    h.did.4 h.did.5
