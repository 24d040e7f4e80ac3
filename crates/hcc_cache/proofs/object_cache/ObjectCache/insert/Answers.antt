use Rattle.std.proofs.Common.{map}
use Rattle.hcc_table.specs.Lists.{as_freed}
use Rattle.hcc_cache.specs.declared.object_cache.ObjectClient.{ObjectClient}
use Rattle.hcc_cache.proofs.HandedBack.ListsKept.{grows_list}
use Rattle.hcc_cache.proofs.object_cache.ObjectCache.insert.Goals as goal

pub returns-clause-known : goal.returns-clause-known
returns-clause-known c =
    let old = c.args.client.now in
    let new : ObjectClient =
    record { client = c.stored-told.new.client; gone = c.stored-told.new.list } in
    let hands = c.stored-told.ensures.list in
    grows_list c.args.self.now old new c.requires.known c.stored-told.ensures.known
    (map as_freed hands.did.these) hands.did.puts c.stored-told.ensures.alone

pub returns-clause-early : goal.returns-clause-early
returns-clause-early c = λ not. absurd (not c.in_ok-may_insert.ensures.may)
