use Rattle.std.proofs.Common.{◌≡◌, ◌<◌, length, rules}
use Rattle.hcc_shard_tests.proofs.ShardGuests.{guest_maker}
use Rattle.hcc_shard_tests.proofs.shard.visit.comes_back.Goals as goal

pub returns-clause-keeps : goal.returns-clause-keeps
returns-clause-keeps g c =
    let all : c.len.result ≡ length c.args.image.now.items = search rules in
    let some : 0 < length c.args.seats.now.items = search rules in
    rw (c.new-pins.ensures.items, c.new-standing.ensures.items, all)
    (guest_maker c.args.shard.now c.args.image.now.items c.args.seats.now.items
    c.remove-seat.result c.requires.begun some c.remove-seat.ensures.value)
