use Rattle.hcc_cache_tests.proofs.Staged.{known_set}
use Rattle.hcc_cache_tests.proofs.cache.warm.closes.Goals as goal

pub close-requires : goal.close-requires
close-requires g c =
    known_set c.args.cache c.args.clients.items 0 c.reads_all.new.client c.requires
    c.reads_all.ensures
