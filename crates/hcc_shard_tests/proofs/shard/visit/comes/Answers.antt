use Rattle.std.proofs.Common.{◌≡◌, ◌++◌, ◌∷◌, [], ap, ◌∙◌, option_to_list}
use Rattle.hcc_shard_tests.proofs.ShardGuests.{guest_new, last_new}
use Rattle.hcc_shard_tests.proofs.shard.visit.comes.Goals as goal

pub returns-clause-new : goal.returns-clause-new
returns-clause-new g c =
    let whole : c.args.seats.now.items ≡ c.pop.new.self.items ++ c.expect-seat.result ∷ [] =
    c.pop.ensures.items
    ∙ ap (λ o. c.pop.new.self.items ++ option_to_list o) c.expect-seat.ensures in
    (last_new c.args.shard.now 0 c.pop.new.self.items c.expect-seat.result
    (rw whole at c.requires.new)).0

pub returns-clause-keeps : goal.returns-clause-keeps
returns-clause-keeps g c =
    let whole : c.args.seats.now.items ≡ c.pop.new.self.items ++ c.expect-seat.result ∷ [] =
    c.pop.ensures.items
    ∙ ap (λ o. c.pop.new.self.items ++ option_to_list o) c.expect-seat.ensures in
    rw (c.new-pins.ensures.items, c.new-standing.ensures.items) (guest_new c.args.shard.now _
    c.expect-seat.result (last_new c.args.shard.now 0 c.pop.new.self.items c.expect-seat.result
    (rw whole at c.requires.new)).1)
