use Rattle.std.proofs.Common.{◌∙◌, arith}
use Rattle.hcc_shard.proofs.Seatings.{are_new, numbered_length}
use Rattle.hcc_shard.proofs.Stayings.{began_new, know_none}
use Rattle.hcc_shard.proofs.shard.Shard.new.Goals as goal

pub returns-clause-count : goal.returns-clause-count
returns-clause-count g c =
    numbered_length 0 c.in_ok-table.seats.items c.in_ok-seats.seats.items c.in_ok-seats.ensures
    ∙ c.in_ok-table.ensures.count

pub returns-clause-seats : goal.returns-clause-seats
returns-clause-seats g c =
    let count = c.in_ok-table.ensures.count in
    let few = c.requires.clients in
    are_new _ 0 c.in_ok-table.seats.items c.in_ok-seats.seats.items c.in_ok-table.ensures.seats
    c.in_ok-seats.ensures (omega arith)

pub returns-clause-began : goal.returns-clause-began
returns-clause-began g c =
    began_new g.T.Tag.fits c.in_ok-table.table c.in_ok-table.ensures.image

pub returns-clause-past : goal.returns-clause-past
returns-clause-past g c =
    know_none c.in_ok-table.table 0 0 c.in_ok-table.seats.items c.in_ok-seats.seats.items
    c.in_ok-table.ensures.seats c.in_ok-seats.ensures
