use Rattle.std.proofs.Common.{sym, ◌∙◌, arith}
use Rattle.hcc_shard.proofs.Reopenings.{accepted}
use Rattle.hcc_shard.proofs.Seatings.{are_begun, numbered_length}
use Rattle.hcc_shard.proofs.Stayings.{began_with, know_begun}
use Rattle.hcc_shard.proofs.shard.Shard.reopen.Goals as goal

pub with_image-requires-clause-image : goal.with_image-requires-clause-image
with_image-requires-clause-image g c =
    let whole = c.as_slice.ensures.value in
    accepted g.T.Tag.fits c.args.tag c.args.geometry c.args.capacity c.args.strict
    c.args.image.now.items
    (rw (← whole) (rw c.in_default.is at (sym c.refusal.ensures.refusal)))
    (rw (← whole) (c.refusal.ensures.types c.in_default.is))
    c.requires.fitting

pub returns-clause-count : goal.returns-clause-count
returns-clause-count g c =
    numbered_length 0 c.in_ok-table.seats.items c.in_ok-seats.seats.items c.in_ok-seats.ensures
    ∙ c.in_ok-table.ensures.count

pub returns-clause-seats : goal.returns-clause-seats
returns-clause-seats g c =
    let count = c.in_ok-table.ensures.count in
    let few = c.requires.planned.clients in
    are_begun _ c.args.image.now.items c.in_ok-table.seats.items c.in_ok-seats.seats.items
    c.in_ok-table.ensures.seats c.in_ok-seats.ensures (omega arith)

pub returns-clause-began : goal.returns-clause-began
returns-clause-began g c =
    let told = c.in_ok-table.ensures in
    let whole = c.as_slice.ensures.value in
    let within =
    accepted g.T.Tag.fits c.args.tag c.args.geometry c.args.capacity c.args.strict
    c.args.image.now.items
    (rw (← whole) (rw c.in_default.is at (sym c.refusal.ensures.refusal)))
    (rw (← whole) (c.refusal.ensures.types c.in_default.is)) c.requires.fitting in
    began_with g.T.Tag.fits c.in_ok-table.table c.args.tag c.args.geometry c.args.capacity
    c.args.strict c.args.image.now.items within told.tag told.size told.capacity.0
    told.capacity.1 told.image

pub returns-clause-past : goal.returns-clause-past
returns-clause-past g c =
    know_begun c.in_ok-table.table c.args.image.now.items c.in_ok-table.seats.items
    c.in_ok-seats.seats.items c.in_ok-table.ensures.seats c.in_ok-seats.ensures
