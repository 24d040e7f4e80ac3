use Rattle.hcc_cache_tests.proofs.Staged.{known_push}
use Rattle.hcc_cache_tests.proofs.cache.threads.ends.Goals as goal

pub returns : goal.returns
returns g c = record {
  back = rw c.in_ok-push.ensures.items (known_push c.args.cache.now c.args.back.now.items
      c.leaves.new.client c.requires.back c.leaves.ensures);
}
