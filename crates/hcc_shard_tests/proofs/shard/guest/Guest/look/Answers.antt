use Rattle.hcc_shard_tests.proofs.ShardGuests.{found_guest, missed_guest}
use Rattle.hcc_shard_tests.proofs.shard.guest.Guest.look.Goals as goal

pub returns-in-Ok-clause-keeps : goal.returns-in-Ok-clause-keeps
returns-in-Ok-clause-keeps g c =
    let me = c.args.self.now in
    let told = c.in-Some.ensures in
    rw (c.in-Ok.ensures.items, c.in_ok-reserve.ensures.items) (found_guest me.shard.now me.seat
    me.pins.items me.standing.items me.next c.requires.keeps c.lookup-found.new.seat
    c.lookup-found.ensures.seat told.found.0 c.in-Some.pin told.found.1 told.found.2 told.pin.1)

pub returns-in-None-clause-keeps : goal.returns-in-None-clause-keeps
returns-in-None-clause-keeps g c =
    let me = c.args.self.now in
    rw c.in_ok-reserve.ensures.items (missed_guest me.shard.now me.seat me.pins.items
    me.standing.items me.next c.requires.keeps c.lookup-found.new.seat c.lookup-found.ensures.seat
    c.in-None.ensures.missed)
