use Rattle.std.proofs.Common.{Err, Ok, true}
use Rattle.hcc_charge.specs.declared.reserving.Refused.TheVariants as refused
use Rattle.hcc_shard.specs.declared.inserting.Inserted.TheVariants as stored
use Rattle.hcc_cache.specs.declared.priority.Priority.TheVariants.{Low}
use Rattle.hcc_cache_tests.proofs.Storable.{fits_there, short_there}
use Rattle.hcc_cache_tests.proofs.chains.meets_what_stands.Goals as goal

pub insert-stored-requires-clause-fits : goal.insert-stored-requires-clause-fits
insert-stored-requires-clause-fits g c =
    fits_there g.T.Tag.fits c.args.config c.args.tag c.args.key c.args.value.now c.args.charge
    c.requires c.in_ok-cache.cache c.in_ok-cache.ensures.tag

pub insert-stored-requires-clause-short : goal.insert-stored-requires-clause-short
insert-stored-requires-clause-short g c =
    short_there g.T.Tag.fits c.args.config c.args.tag c.args.key c.args.value.now c.args.charge
    c.requires c.in_ok-cache.cache c.in_ok-cache.ensures.room

pub returns-clause-dropped : goal.returns-clause-dropped
returns-clause-dropped g c = λ is.
    let old = c.in_ok-cache.client in
    let did = rw is at c.insert-stored.ensures.evicts in
    record {
      before = old;
      did = did;
      met =
          c.law_met.ensures.stores c.in_ok-cache.cache c.args.key c.args.charge Low true true
          (Ok stored.Dropped) old c.insert-stored.new.client did;
    }

pub returns-clause-tight : goal.returns-clause-tight
returns-clause-tight g c = λ is.
    let old = c.in_ok-cache.client in
    let did = rw is at c.insert-stored.ensures.evicts in
    record {
      before = old;
      did = did;
      met =
          c.law_met.ensures.stores c.in_ok-cache.cache c.args.key c.args.charge Low true true
          (Err refused.CapacityFull) old c.insert-stored.new.client did;
    }
