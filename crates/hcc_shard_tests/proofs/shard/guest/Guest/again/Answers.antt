use Rattle.hcc_shard_tests.proofs.ShardGuests.{again_guest}
use Rattle.hcc_shard_tests.proofs.shard.guest.Guest.again.Goals as goal

pub returns-clause-keeps : goal.returns-clause-keeps
returns-clause-keeps g c =
    let me = c.args.self.now in
    let told = c.reref-new.ensures in
    rw (c.in-Ok.ensures.items, c.in_ok-reserve.ensures.items) (again_guest me.shard.now me.seat
    me.pins.items me.standing.items me.next c.requires.keeps c.reref-new.new.seat told.seat
    told.record.0 c.reref-new.result told.view told.record.1 told.record.2 told.record.3
    told.pin.1)
