use Rattle.std.proofs.Common.{refl}
use Rattle.hcc_cache.specs.declared.object_cache.ObjectClient.{ObjectClient}
use Rattle.hcc_cache.proofs.Clients.ShownAfterwards.{stays_same}
use Rattle.hcc_cache.proofs.HandedBack.ListsKept.{keeps_list}
use Rattle.hcc_cache.proofs.object_cache.ObjectCache.reref.Goals as goal

pub returns-in_err-may_hold-clause-stays : goal.returns-in_err-may_hold-clause-stays
returns-in_err-may_hold-clause-stays c =
    let client = c.args.client.now.client in
    stays_same c.args.self.now.cache client client refl

pub returns-clause-known : goal.returns-clause-known
returns-clause-known c =
    let old = c.args.client.now in
    let new : ObjectClient = record { client = c.again.new.client; gone = old.gone } in
    keeps_list c.args.self.now old new c.requires.known c.again.ensures.known
    c.again.ensures.alone refl
