use Rattle.hcc_shard.specs.Callers.{plan_of}
use Rattle.hcc_cache.specs.Keys.{fits_seeded}
use Rattle.hcc_cache.specs.Opened.{tag_in}
use Rattle.hcc_cache.proofs.laws.law_insertions.Goals as goal

pub returns-clause-homes : goal.returns-clause-homes
returns-clause-homes g c config tag s m slot stamp made =
    let one = m.cache_is.shards m.number m.shard m.there in
    let fitting : fits_seeded g.T.Tag.fits (tag_in config tag m.number) made.kept.made.key
    made.kept.made.value = rw one.tag_is at made.kept.right.fitting in
    fitting.home

pub returns-clause-records : goal.returns-clause-records
returns-clause-records g c config tag s m number v seen =
    c.law_made.ensures.records (plan_of m.shard) s m.holds number v seen

pub returns-clause-taken : goal.returns-clause-taken
returns-clause-taken g c config tag s m number v seen =
    c.law_made.ensures.taken (plan_of m.shard) s m.holds number v seen

pub returns-clause-held : goal.returns-clause-held
returns-clause-held g c config tag s m number v seen =
    c.law_made.ensures.held (plan_of m.shard) s m.holds number v seen
