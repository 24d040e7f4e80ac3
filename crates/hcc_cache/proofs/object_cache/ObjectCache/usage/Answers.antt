use Rattle.std.proofs.Common.{refl}
use Rattle.hcc_cache.specs.declared.object_cache.ObjectClient.{ObjectClient}
use Rattle.hcc_cache.proofs.HandedBack.ListsKept.{keeps_list}
use Rattle.hcc_cache.proofs.object_cache.ObjectCache.usage.Goals as goal

pub returns-clause-known : goal.returns-clause-known
returns-clause-known c =
    let old = c.args.client.now in
    let new : ObjectClient = record { client = c.usage.new.client; gone = old.gone } in
    keeps_list c.args.self.now old new c.requires
    c.usage.ensures.known c.usage.ensures.standing refl
