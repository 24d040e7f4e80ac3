use Rattle.std.proofs.Common.{◌≡◌, sym, ◌∙◌, Some, position}
use Rattle.hcc_table.specs.Pins.{erases}
use Rattle.hcc_shard_tests.specs.ShardGuests.{is_pin}
use Rattle.hcc_shard_tests.proofs.ShardGuests.{released_guest}
use Rattle.hcc_shard_tests.proofs.shard.guest.Guest.release.Goals as goal

pub returns-clause-keeps : goal.returns-clause-keeps
returns-clause-keeps g c =
    let me = c.args.self.now in
    let at : position (is_pin c.args.name) c.deref.result.now ≡ Some c.expect-place.result =
    sym c.place_of.ensures.first ∙ c.expect-place.ensures in
    released_guest me.shard.now me.seat me.pins.items me.standing.items me.next c.requires.keeps
    c.release.new.seat c.release.ensures.seat c.args.name c.expect-place.result c.pin-pin.result
    c.remove.new.self.items (erases c.args.last) c.release.result c.remove.ensures.items
    (rw c.deref.ensures.value at at) c.pin-pin.ensures.1 c.release.ensures.view
