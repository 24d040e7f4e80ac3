use Rattle.std.proofs.Common.{◌≡◌, ap, sym, ◌∙◌}
use Rattle.std.specs.Prelude.{Some, option_copied, find}
use Rattle.hcc_shard_tests.specs.ShardGuests.{is_pin}
use Rattle.hcc_shard_tests.proofs.ShardGuests.{guest_pin}
use Rattle.hcc_shard_tests.proofs.shard.guest.Guest.pin.Goals as goal

pub returns : goal.returns
returns g c =
    let me = c.args.self.now in
    let found : find (is_pin c.args.name) c.deref.result.now ≡ Some c.expect.result.now =
    sym c.pin_of.ensures ∙ ap option_copied c.expect.ensures in
    guest_pin me.shard.now me.seat me.pins.items me.standing.items me.next c.requires.keeps
    c.args.name c.expect.result.now (rw c.deref.ensures.value at found)
