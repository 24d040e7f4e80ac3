use Rattle.std.proofs.Common.{◌-◌, arith}
use Rattle.hcc_rule.specs.Seats.{view}
use Rattle.hcc_rule.specs.Records.{record_in}
use Rattle.hcc_table.proofs.Offsets.{across, part_joined, part_within}
use Rattle.hcc_table.proofs.Seeking.{seeks_then}
use Rattle.hcc_table.proofs.parts.copy_part.Goals as goal

pub returns-then-front-count-clause-bytes : goal.returns-then-front-count-clause-bytes
returns-then-front-count-clause-bytes g c =
    part_joined (record_in c.args.held.pin.name (view c.args.seat.now).records) c.args.offset
    c.copy_front-front.result (c.min-count.result - c.copy_front-front.result) c.args.buffer.now
    c.copy_front-front.new.buffer c.copy_from.new.buffer (omega arith)
    (omega (arith, c.copy_front-front.ensures.front)) (part_within
    (record_in c.args.held.pin.name (view c.args.seat.now).records) c.args.whole c.args.offset
    (omega (arith, c.min-count.ensures, c.saturating_sub.ensures)) c.requires.exact)
    c.copy_front-front.ensures.bytes
    (rw c.copy_front-front.ensures.view at c.copy_from.ensures.bytes)

pub returns-then-front-count-clause-seeks : goal.returns-then-front-count-clause-seeks
returns-then-front-count-clause-seeks g c =
    seeks_then c.args.table.now _ _ _ c.copy_front-front.ensures.seeks c.copy_from.ensures.seeks

pub returns-then-front-count-clause-steps : goal.returns-then-front-count-clause-steps
returns-then-front-count-clause-steps g c =
    let is = across c.args.offset c.min-count.result in
    let one = c.copy_front-front.ensures.steps in
    let few = c.copy_from.ensures.steps in
    omega (arith, c.copy_front-front.ensures.front)

pub returns-else-front-count-clause-steps : goal.returns-else-front-count-clause-steps
returns-else-front-count-clause-steps g c =
    let is = across c.args.offset c.min-count.result in
    let one = c.copy_front-front.ensures.steps in
    omega (arith, c.copy_front-front.ensures.front)
