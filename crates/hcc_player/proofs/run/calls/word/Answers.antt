use Rattle.std.proofs.Common.{refl}
use Rattle.hcc_player.specs.RunAnswers.{IsRight}
use Rattle.hcc_player.specs.RunCalls.{Does}
use Rattle.hcc_player.proofs.RegisterLemmas.{same_filled}
use Rattle.hcc_player.proofs.run.calls.word.Goals as goal

pub returns-clause-goes : goal.returns-clause-goes
unfolding IsRight
returns-clause-goes g c handles config s filled =
    let fits = g.T.Tag.fits in
    let cache = c.args.cache.now in
    let word = c.word-word.ensures in
    let displaced = c.displacement-displaced.ensures in
    let first = same_filled fits cache config s c.args.client.now c.word-word.new.client handles
    word.known word.view.self word.keeps filled in (
      s,
      refl,
      same_filled fits cache config s c.word-word.new.client
          c.displacement-displaced.new.client handles displaced.known
          displaced.reads.rests.self displaced.reads.keeps first,
    )

pub returns-clause-did : goal.returns-clause-did
unfolding Does
returns-clause-did g c handles = record {
  between = c.word-word.new.client;
  loads = c.word-word.ensures.loads;
  sees = c.word-word.ensures.view;
  looks = c.word-word.ensures.stays;
  counts = c.displacement-displaced.ensures.loads;
  reads = c.displacement-displaced.ensures.reads;
  stays = c.displacement-displaced.ensures.stays;
}
