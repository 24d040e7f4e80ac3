use Rattle.std.proofs.Common.{refl}
use Rattle.hcc_cache.proofs.Clients.ShownAfterwards.{stays_same}
use Rattle.hcc_cache.proofs.cache.Cache.pin_at.Goals as goal

pub returns-in_err-may_hold-clause-stays : goal.returns-in_err-may_hold-clause-stays
returns-in_err-may_hold-clause-stays g c =
    stays_same c.args.self.now c.args.client.now c.args.client.now refl

pub returns-then-shard-len-clause-stays : goal.returns-then-shard-len-clause-stays
returns-then-shard-len-clause-stays g c =
    stays_same c.args.self.now c.args.client.now c.args.client.now refl
