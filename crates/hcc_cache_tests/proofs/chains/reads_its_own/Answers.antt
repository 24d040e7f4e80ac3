use Rattle.std.proofs.Common.{true}
use Rattle.hcc_cache_tests.proofs.chains.reads_its_own.Goals as goal

pub returns-clause-lost : goal.returns-clause-lost
returns-clause-lost g c = λ placed missed.
    let began = c.in_ok-cache in
    let new = c.get-got.new.client in
    let knew = began.ensures.shown placed in
    let gets = rw missed at c.get-got.ensures.gets in
    let taken =
    c.law_lookups.ensures.untold began.cache began.ensures.began c.args.key true
    c.args.buffer.now c.get-got.new.buffer began.client new began.ensures.first gets knew in
    record {
      before = began.client;
      same = c.get-got.ensures.seeks.works.self.0;
      knew = knew;
      taken = taken;
      gone =
          c.law_shown_since.ensures.gone began.cache began.ensures.began c.args.key began.client
          new taken.goes knew taken.since;
    }

pub returns-clause-read : goal.returns-clause-read
returns-clause-read g c =
    let began = c.in_ok-cache in
    record {
      before = began.client;
      did = c.get-got.ensures.gets;
      read =
          c.law_lookups.ensures.gets began.cache c.args.key true c.get-got.result
          c.args.buffer.now c.get-got.new.buffer began.client c.get-got.new.client
          c.get-got.ensures.gets;
    }
