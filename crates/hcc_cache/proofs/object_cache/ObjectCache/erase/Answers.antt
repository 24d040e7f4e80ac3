use Rattle.std.proofs.Common.{ap, map}
use Rattle.hcc_table.specs.Lists.{as_freed}
use Rattle.hcc_cache.specs.declared.client.Client.{Client}
use Rattle.hcc_cache.specs.declared.object_cache.ObjectClient.{ObjectClient}
use Rattle.hcc_cache.proofs.HandedBack.AloneAfterwards.{alone_same}
use Rattle.hcc_cache.proofs.HandedBack.ListsKept.{grows_list}
use Rattle.hcc_cache.proofs.object_cache.ObjectCache.erase.Goals as goal

pub returns-clause-known : goal.returns-clause-known
returns-clause-known c =
    let old = c.args.client.now in
    let new : ObjectClient =
    record { client = c.erase_listed.new.client; gone = c.erase_listed.new.list } in
    let rest = c.erase_listed.ensures.rest in
    let hands = c.erase_listed.ensures.list in
    grows_list c.args.self.now old new c.requires c.erase_listed.ensures.known
    (map as_freed hands.did.these) hands.did.puts
    (alone_same old.client new.client (ap (λ (x : Client _). x.most) rest)
    (ap (λ (x : Client _). x.alone) rest))
