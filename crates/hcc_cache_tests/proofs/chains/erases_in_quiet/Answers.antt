use Rattle.std.proofs.Common.{true}
use Rattle.hcc_cache_tests.proofs.chains.erases_in_quiet.Goals as goal

pub returns : goal.returns
returns g c =
    let began = c.in_ok-cache in
    record {
      before = began.client;
      same = c.erase-hidden.ensures.erased.works.self.0;
      did = c.erase-hidden.ensures.searched;
      exact = λ quiet.
          c.law_undisturbed_erasures.ensures began.cache began.ensures.began c.args.key true
          c.erase-hidden.result began.client c.erase-hidden.new.client began.ensures.first
          c.erase-hidden.ensures.searched quiet;
    }
