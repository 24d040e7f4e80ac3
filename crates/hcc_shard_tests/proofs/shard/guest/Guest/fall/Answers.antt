use Rattle.std.proofs.Common.{◌≡◌, sym, ap, ◌∙◌, Some, position}
use Rattle.std.specs.List.{find}
use Rattle.std.specs.Prelude.{option_copied}
use Rattle.hcc_core.specs.Ledgers.{is_standing}
use Rattle.hcc_shard_tests.proofs.ShardGuests.{fallen_guest, guest_alone}
use Rattle.hcc_shard_tests.proofs.shard.guest.Guest.fall.Goals as goal

pub release_standalone-requires-clause-stands : goal.release_standalone-requires-clause-stands
release_standalone-requires-clause-stands g c =
    let me = c.args.self.now in
    let found : find (is_standing c.args.name) c.deref.result.now
    ≡ Some c.expect-alone.result.now =
    sym c.alone_of.ensures ∙ ap option_copied c.expect-alone.ensures in
    guest_alone me.shard.now me.seat me.pins.items me.standing.items me.next c.requires.keeps
    c.args.name c.expect-alone.result.now (rw c.deref.ensures.value at found)

pub returns-clause-keeps : goal.returns-clause-keeps
returns-clause-keeps g c =
    let me = c.args.self.now in
    let at : position (is_standing c.args.name) c.deref-2.result.now
    ≡ Some c.expect-place.result =
    sym c.place_alone.ensures.first ∙ c.expect-place.ensures in
    fallen_guest me.shard.now me.seat me.pins.items me.standing.items me.next c.requires.keeps
    c.release_standalone.new.seat c.release_standalone.ensures.seat c.args.name
    c.expect-place.result c.remove.new.self.items c.remove.ensures.items
    (rw c.deref-2.ensures.value at at) c.release_standalone.ensures.view
