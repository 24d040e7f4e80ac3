use Rattle.std.proofs.Common.{map}
use Rattle.hcc_table.specs.Lists.{as_freed}
use Rattle.hcc_cache.specs.declared.object_cache.ObjectClient.{ObjectClient}
use Rattle.hcc_cache.proofs.HandedBack.ListsKept.{grows_list}
use Rattle.hcc_cache.proofs.object_cache.ObjectCache.pin_at.Goals as goal

pub returns-clause-known : goal.returns-clause-known
returns-clause-known c =
    let old = c.args.client.now in
    let new : ObjectClient = record { client = c.hold_at.new.client; gone = c.hold_at.new.list } in
    let hands = c.hold_at.ensures.list in
    grows_list c.args.self.now old new c.requires c.hold_at.ensures.known
    (map as_freed hands.did.these) hands.did.puts c.hold_at.ensures.alone
