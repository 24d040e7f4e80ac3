use Rattle.std.proofs.Common.{◌≡◌, map, refl}
use Rattle.hcc_table.specs.Lists.{as_freed}
use Rattle.hcc_cache.specs.declared.holding.Value.TheVariants.{Word}
use Rattle.hcc_cache.specs.declared.object_cache.ObjectClient.{ObjectClient}
use Rattle.hcc_cache.proofs.HandedBack.ListsKept.{grows_by, grows_list}
use Rattle.hcc_cache.proofs.object_cache.ObjectCache.insert_pinned.Goals as goal

pub returns-in-Ok-clause-known : goal.returns-in-Ok-clause-known
returns-in-Ok-clause-known c =
    let old = c.args.client.now in
    let told = c.stored_pinned-told in
    let new : ObjectClient = record { client = told.new.client; gone = told.new.list } in
    let hands = c.in-Ok.ensures.list in
    grows_by c.args.self.now old new c.requires.known c.in-Ok.ensures.known
    (map as_freed hands.did.these) hands.did.puts (λ v. v ≡ Word c.to_le_bytes-value.result)
    c.in-Ok.made (λ v is. (c.to_le_bytes-value.result, is)) c.in-Ok.ensures.alone
    c.in_ok-may_pin.ensures.may.0.2

pub returns-in-Ok-clause-early : goal.returns-in-Ok-clause-early
returns-in-Ok-clause-early c = λ not. absurd (not c.in_ok-may_pin.ensures.may)

pub returns-in-Refused-clause-known : goal.returns-in-Refused-clause-known
returns-in-Refused-clause-known c =
    let old = c.args.client.now in
    let told = c.stored_pinned-told in
    let new : ObjectClient = record { client = told.new.client; gone = told.new.list } in
    let hands = c.in-Err.ensures.list in
    grows_list c.args.self.now old new c.requires.known c.in-Err.ensures.known
    (map as_freed hands.did.these) hands.did.puts c.in-Err.ensures.alone
