use Rattle.std.proofs.Common.{refl}
use Rattle.hcc_cache.specs.declared.object_cache.ObjectClient.{ObjectClient}
use Rattle.hcc_cache.proofs.HandedBack.ListsKept.{keeps_list}
use Rattle.hcc_cache.proofs.object_cache.ObjectCache.follow.Goals as goal

pub returns-clause-known : goal.returns-clause-known
returns-clause-known c =
    let old = c.args.client.now in
    let new : ObjectClient = record { client = c.follow.new.client; gone = old.gone } in
    keeps_list c.args.self.now old new c.requires.known
    c.follow.ensures.known c.follow.ensures.standing refl
