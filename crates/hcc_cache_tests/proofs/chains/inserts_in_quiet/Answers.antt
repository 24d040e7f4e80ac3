use Rattle.std.proofs.Common.{Ok, subst, sym}
use Rattle.hcc_shard.specs.declared.inserting.Inserted.TheVariants as stored
use Rattle.hcc_cache.specs.declared.priority.Priority.TheVariants.{Low}
use Rattle.hcc_cache_tests.proofs.Storable.{short_there}
use Rattle.hcc_cache_tests.proofs.chains.inserts_in_quiet.Goals as goal

pub insert-more-requires-clause-fits : goal.insert-more-requires-clause-fits
insert-more-requires-clause-fits g c =
    subst (λ tag. g.T.Tag.fits tag c.args.other c.args.value.now) (sym c.in_ok-cache.ensures.tag)
    c.requires.right

pub insert-more-requires-clause-short : goal.insert-more-requires-clause-short
insert-more-requires-clause-short g c =
    short_there g.T.Tag.fits c.args.config c.args.tag c.args.key c.args.value.now c.args.charge
    c.requires.storable c.in_ok-cache.cache c.in_ok-cache.ensures.room

pub returns : goal.returns
returns g c = λ placed more.
    let began = c.in_ok-cache in
    let inserted = rw more at c.insert-more.ensures.inserted in
    let did = rw more at c.insert-more.ensures.evicts in
    record {
      before = began.client;
      same = inserted.works.self.0;
      did = did;
      keeps = λ quiet turns.
          c.law_undisturbed_insertions.ensures.stores began.cache began.ensures.began c.args.other
          c.args.charge Low (Ok stored.Placed) began.client c.insert-more.new.client
          began.ensures.first did quiet turns;
      kept = λ quiet turns.
          c.law_undisturbed_insertions.ensures.kept began.cache began.ensures.began c.args.other
          c.args.charge Low (Ok stored.Placed) began.client c.insert-more.new.client
          began.ensures.first did quiet turns c.insert-more.ensures.others c.args.key
          (began.ensures.shown placed);
    }
