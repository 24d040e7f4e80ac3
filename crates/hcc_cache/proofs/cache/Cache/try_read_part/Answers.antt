use Rattle.std.proofs.Common.{refl}
use Rattle.hcc_cache.proofs.Clients.ShownAfterwards.{stays_same}
use Rattle.hcc_cache.proofs.cache.Cache.try_read_part.Goals as goal

pub returns-in_err-hold-clause-stays : goal.returns-in_err-hold-clause-stays
returns-in_err-hold-clause-stays g c =
    stays_same c.args.self.now c.args.client.now c.args.client.now refl
