use Rattle.std.proofs.Common.{◌-◌, vec_len}
use Rattle.hcc_cache.proofs.Basics.Lists.{get_take}
use Rattle.hcc_cache_tests.proofs.cache.shared.without_last.Goals as goal

pub refused-stage-requires : goal.refused-stage-requires
refused-stage-requires g c k client at =
    let clients = c.args.stage.clients in
    c.requires k client (get_take clients.items (vec_len clients - 1) k client
    (rw c.pop.ensures.rest at at))
