use Rattle.std.proofs.Common.{true}
use Rattle.hcc_cache_tests.proofs.chains.erases_what_stands.Goals as goal

pub returns : goal.returns
returns g c =
    let old = c.in_ok-cache.client in
    record {
      before = old;
      did = c.erase-hidden.ensures.searched;
      lacked = λ slot near.
          c.law_erased.ensures.lacks c.in_ok-cache.cache c.args.key true c.erase-hidden.result old
          c.erase-hidden.new.client c.erase-hidden.ensures.searched slot near;
    }
