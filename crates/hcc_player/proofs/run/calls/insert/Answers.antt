use Rattle.std.proofs.Common.{Ok, Err, refl, arith}
use Rattle.hcc_player.specs.RunCalls.{Does}
use Rattle.hcc_player.proofs.CallLemmas.{insert_goes}
use Rattle.hcc_player.proofs.run.calls.insert.Goals as goal

pub returns-in-Ok-clause-goes : goal.returns-in-Ok-clause-goes
returns-in-Ok-clause-goes g c handles config s filled =
    let told = c.in-Ok.ensures in
    rw c.placed.ensures
    (insert_goes g.T.Tag.fits c.args.cache.now config s c.args.client.now c.insert.new.client
    handles c.args.key c.args.charge c.args.priority c.args.value.now (Ok c.in-Ok.inserted)
    told.known told.spent told.large told.inserted filled)

pub returns-in-Ok-clause-did : goal.returns-in-Ok-clause-did
unfolding Does
returns-in-Ok-clause-did g c handles = record {
  told = Ok c.in-Ok.inserted;
  answer_is = c.placed.ensures;
  inserts = c.in-Ok.ensures.inserted;
  evicts = c.in-Ok.ensures.evicts;
  words = (omega arith, omega arith);
  shown = c.in-Ok.ensures.shown;
  others = c.in-Ok.ensures.others;
}

pub returns-in-Err-clause-goes : goal.returns-in-Err-clause-goes
returns-in-Err-clause-goes g c handles config s filled =
    let told = c.in-Err.ensures in
    insert_goes g.T.Tag.fits c.args.cache.now config s c.args.client.now c.insert.new.client
    handles c.args.key c.args.charge c.args.priority c.args.value.now (Err c.in-Err.error)
    told.known told.spent told.large told.inserted filled

pub returns-in-Err-clause-did : goal.returns-in-Err-clause-did
unfolding Does
returns-in-Err-clause-did g c handles = record {
  told = Err c.in-Err.error;
  answer_is = refl;
  inserts = c.in-Err.ensures.inserted;
  evicts = c.in-Err.ensures.evicts;
  words = (omega arith, omega arith);
  shown = c.in-Err.ensures.shown;
  others = c.in-Err.ensures.others;
}
