use Rattle.hcc_cache_tests.proofs.Staged.{known_set}
use Rattle.hcc_cache_tests.proofs.cache.calls.plays.Goals as goal

pub returns-clause-known : goal.returns-clause-known
returns-clause-known g c =
    let stage = c.args.stage.now in
    known_set stage.cache stage.clients.items c.args.number c.makes.new.client c.requires
    c.makes.ensures
