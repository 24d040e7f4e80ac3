use Rattle.std.proofs.Common.{refl, arith}
use Rattle.hcc_player.specs.RunAnswers.{IsRight}
use Rattle.hcc_player.specs.RunCalls.{Does}
use Rattle.hcc_player.proofs.RegisterLemmas.{same_filled}
use Rattle.hcc_player.proofs.run.calls.answer.Goals as goal

pub returns-in-Insert-clause-goes : goal.returns-in-Insert-clause-goes
returns-in-Insert-clause-goes g c =
    rw c.in-Insert.is
    (rw c.as_slice.ensures at (c.insert.ensures.goes c.args.registers.now.filled.items))

pub returns-in-Insert-clause-did : goal.returns-in-Insert-clause-did
returns-in-Insert-clause-did g c =
    rw c.in-Insert.is
    (rw c.as_slice.ensures at (c.insert.ensures.did c.args.registers.now.filled.items))

pub returns-in-Pin-clause-goes : goal.returns-in-Pin-clause-goes
returns-in-Pin-clause-goes g c = rw c.in-Pin.is c.pin.ensures.goes

pub returns-in-Pin-clause-did : goal.returns-in-Pin-clause-did
returns-in-Pin-clause-did g c = rw c.in-Pin.is c.pin.ensures.did

pub returns-in-Lookup-clause-goes : goal.returns-in-Lookup-clause-goes
returns-in-Lookup-clause-goes g c = rw c.in-Lookup.is c.lookup.ensures.goes

pub returns-in-Lookup-clause-did : goal.returns-in-Lookup-clause-did
returns-in-Lookup-clause-did g c = rw c.in-Lookup.is c.lookup.ensures.did

pub returns-in-Reref-clause-goes : goal.returns-in-Reref-clause-goes
returns-in-Reref-clause-goes g c = rw c.in-Reref.is c.reref.ensures.goes

pub returns-in-Reref-clause-did : goal.returns-in-Reref-clause-did
returns-in-Reref-clause-did g c = rw c.in-Reref.is c.reref.ensures.did

pub returns-in-Release-clause-goes : goal.returns-in-Release-clause-goes
returns-in-Release-clause-goes g c = rw c.in-Release.is c.release.ensures.goes

pub returns-in-Release-clause-did : goal.returns-in-Release-clause-did
returns-in-Release-clause-did g c = rw c.in-Release.is c.release.ensures.did

pub returns-in-Value-clause-goes : goal.returns-in-Value-clause-goes
returns-in-Value-clause-goes g c = rw c.in-Value.is c.value-in-Value.ensures.goes

pub returns-in-Value-clause-did : goal.returns-in-Value-clause-did
returns-in-Value-clause-did g c = rw c.in-Value.is c.value-in-Value.ensures.did

pub returns-in-Erase-clause-goes : goal.returns-in-Erase-clause-goes
unfolding IsRight
returns-in-Erase-clause-goes g c =
    let erased = c.erase.ensures.erased in
    rw c.in-Erase.is (λ config s filled. (
      s,
      refl,
      same_filled g.T.Tag.fits c.args.cache.now config s c.args.client.now c.erase.new.client
          c.args.registers.now.filled.items c.erase.ensures.known erased.works.self
          erased.keeps filled,
    ))

pub returns-in-Erase-clause-did : goal.returns-in-Erase-clause-did
unfolding Does
returns-in-Erase-clause-did g c =
    rw c.in-Erase.is
    (record {
      erases = c.erase.ensures.erased;
      searched = c.erase.ensures.searched;
      words = (omega arith, omega arith);
      others = c.erase.ensures.counts.others;
    })

pub returns-in-Totals-clause-goes : goal.returns-in-Totals-clause-goes
returns-in-Totals-clause-goes g c =
    rw c.in-Totals.is (c.totals.ensures.goes c.args.registers.now.filled.items)

pub returns-in-Totals-clause-did : goal.returns-in-Totals-clause-did
returns-in-Totals-clause-did g c =
    rw c.in-Totals.is (c.totals.ensures.did c.args.registers.now.filled.items)

pub returns-in-Word-clause-goes : goal.returns-in-Word-clause-goes
returns-in-Word-clause-goes g c =
    rw c.in-Word.is (c.word.ensures.goes c.args.registers.now.filled.items)

pub returns-in-Word-clause-did : goal.returns-in-Word-clause-did
returns-in-Word-clause-did g c =
    rw c.in-Word.is (c.word.ensures.did c.args.registers.now.filled.items)

pub returns-in-Stats-clause-goes : goal.returns-in-Stats-clause-goes
unfolding IsRight
returns-in-Stats-clause-goes g c = rw c.in-Stats.is (λ config s filled. (s, refl, filled))

pub returns-in-Stats-clause-did : goal.returns-in-Stats-clause-did
unfolding Does
returns-in-Stats-clause-did g c =
    rw c.in-Stats.is (c.stats.ensures, record { client = refl; registers = λ r. refl })
