use Rattle.std.proofs.Common.{◌≡◌, ◌&&◌, ◌∙◌, ap, map, subst, sym}
use Rattle.std.proofs.lemmas.Option.{same_Some}
use Rattle.hcc_table.specs.Lists.{as_freed, has_room}
use Rattle.hcc_cache.specs.declared.client.Client.{Client}
use Rattle.hcc_cache.specs.declared.object_cache.ObjectClient.{ObjectClient}
use Rattle.hcc_cache.specs.declared.holding.Hold.{Hold}
use Rattle.hcc_cache.specs.Calls.{CountsOf, GivesBackIn}
use Rattle.hcc_cache.specs.Objects.{shelf_of}
use Rattle.hcc_cache.specs.Stays.{ReleasesPin}
use Rattle.hcc_cache.proofs.Handles.OfItsPin.{of_no_pin, of_pin}
use Rattle.hcc_cache.proofs.HandedBack.AloneAfterwards.{alone_same}
use Rattle.hcc_cache.proofs.HandedBack.ListsKept.{grows_list}
use Rattle.hcc_cache.proofs.object_cache.ObjectCache.release.Goals as goal

pub returns-in-Ok-clause-known : goal.returns-in-Ok-clause-known
returns-in-Ok-clause-known c =
    let old = c.args.client.now in
    let new : ObjectClient =
    record { client = c.release_pin.new.client; gone = c.release_pin.new.list } in
    let rest = c.release_pin.ensures.rest in
    let hands = c.release_pin.ensures.list in
    grows_list c.args.self.now old new c.requires.known c.release_pin.ensures.known
    (map as_freed hands.did.these) hands.did.puts
    (alone_same old.client new.client (ap (λ (x : Client _). x.most) rest)
    (ap (λ (x : Client _). x.alone) rest))

pub returns-in-Ok-clause-gives : goal.returns-in-Ok-clause-gives
returns-in-Ok-clause-gives c =
    let old = c.args.client.now in
    of_pin old.client c.args.handle c.hold-hold.result c.hold-hold.ensures.held
    (λ h slot counting. GivesBackIn c.args.self.now.cache h.shard slot
    (has_room 1 (shelf_of old)) (c.args.useful && counting) c.args.erase_if_last
    c.release_pin.result old.client c.release_pin.new.client)
    c.in-Ok.pin c.in-Ok.ensures.pinned c.release_pin.ensures.gives

pub returns-in-Ok-clause-by : goal.returns-in-Ok-clause-by
returns-in-Ok-clause-by c =
    let old = c.args.client.now in
    of_pin old.client c.args.handle c.hold-hold.result c.hold-hold.ensures.held
    (λ h slot counting. ReleasesPin c.args.self.now.cache h slot
    (has_room 1 (shelf_of old)) (c.args.useful && counting) c.args.erase_if_last
    c.release_pin.result old.client c.release_pin.new.client)
    c.in-Ok.pin c.in-Ok.ensures.pinned c.release_pin.ensures.by

pub returns-in-Err-clause-gives : goal.returns-in-Err-clause-gives
returns-in-Err-clause-gives c =
    let old = c.args.client.now in
    of_no_pin old.client c.args.handle c.hold-hold.result c.hold-hold.ensures.held
    (λ h slot counting. GivesBackIn c.args.self.now.cache h.shard slot
    (has_room 1 (shelf_of old)) (c.args.useful && counting) c.args.erase_if_last
    c.release_alone.result old.client c.release_alone.new.client.client)
    c.in-Err.index c.in-Err.ensures.standing

pub returns-in-Err-clause-by : goal.returns-in-Err-clause-by
returns-in-Err-clause-by c =
    let old = c.args.client.now in
    of_no_pin old.client c.args.handle c.hold-hold.result c.hold-hold.ensures.held
    (λ h slot counting. ReleasesPin c.args.self.now.cache h slot
    (has_room 1 (shelf_of old)) (c.args.useful && counting) c.args.erase_if_last
    c.release_alone.result old.client c.release_alone.new.client.client)
    c.in-Err.index c.in-Err.ensures.standing

pub returns-in-Ok-clause-counts : goal.returns-in-Ok-clause-counts
returns-in-Ok-clause-counts c = λ hold at.
    let old = c.args.client.now.client in
    let new = c.release_pin.new.client in
    let same : hold ≡ c.hold-hold.result = same_Some _ _ (sym at ∙ c.hold-hold.ensures.held) in
    subst (λ (h : Hold). CountsOf h.shard h.kept old new) (sym same)
    (subst (λ k. CountsOf c.hold-hold.result.shard k old new) (sym c.in-Ok.ensures.pinned.kept)
    c.release_pin.ensures.counts)
