use Rattle.std.proofs.Common.{refl}
use Rattle.hcc_table.proofs.KeepsLasting.{pins_last}
use Rattle.hcc_cache.specs.Keys.{fits_seeded}
use Rattle.hcc_cache.proofs.Searches.WalkedSlots.{walk_held, walk_none}
use Rattle.hcc_cache.proofs.laws.law_walks.Goals as goal

pub returns-clause-passed : goal.returns-clause-passed
returns-clause-passed g c = λ cache shard slot old new h.
    walk_none (fits_seeded g.T.Tag.fits) h.walks.shard old.used slot h.walks.did refl

pub returns-clause-held : goal.returns-clause-held
returns-clause-held g c = λ cache shard slot held old new h.
    walk_held (fits_seeded g.T.Tag.fits) h.walks.shard old.used slot h.walks.did.walks
    h.walks.did.pin refl

pub returns-clause-listed : goal.returns-clause-listed
returns-clause-listed g c = λ cache shard slot takes old new h.
    pins_last (fits_seeded g.T.Tag.fits) h.walks.shard.table old.used slot h.walks.did.done
    h.walks.did.pins
