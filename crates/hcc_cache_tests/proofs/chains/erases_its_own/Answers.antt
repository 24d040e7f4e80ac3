use Rattle.std.proofs.Common.{true}
use Rattle.hcc_cache_tests.proofs.chains.erases_its_own.Goals as goal

pub returns : goal.returns
returns g c = λ placed.
    let began = c.in_ok-cache in
    let knew = began.ensures.shown placed in
    record {
      before = began.client;
      same = c.erase.ensures.erased.works.self.0;
      knew = knew;
      taken =
          c.law_erased.ensures.taken began.cache began.ensures.began c.args.key true c.erase.result
          began.client c.erase.new.client began.ensures.first c.erase.ensures.searched knew;
    }
