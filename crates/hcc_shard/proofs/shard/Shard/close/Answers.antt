use Rattle.std.proofs.Common.{◌≡◌, length, arith}
use Rattle.hcc_rule.specs.Callers.{geometry_of, plan_of}
use Rattle.hcc_rule.specs.Closing.{words_of}
use Rattle.hcc_rule.specs.Seats.{view}
use Rattle.hcc_shard.specs.Closed.{together}
use Rattle.hcc_shard.proofs.Imagings.{image_fits}
use Rattle.hcc_shard.proofs.Joinings.{joins_all}
use Rattle.hcc_shard.proofs.Lefts.{left_of}
use Rattle.hcc_shard.proofs.Values.{value_kept}
use Rattle.hcc_shard.proofs.shard.Shard.close.Goals as goal

pub invariant_of-result : goal.invariant_of-result
invariant_of-result g c =
    let over = c.in-None.ensures.steps in
    let rest = c.loop-seat.seat-iterator.rest in
    let none : length rest.items ≡ 0 = omega (arith, over.0, rest.ok.0) in
    let told =
    left_of g.T.Tag.fits (plan_of c.args.self.table).tag (geometry_of c.args.self.table)
    (words_of c.close.result) (view c.loop-seat.last)
    (c.close.ensures.closes
    (joins_all c.args.self c.loop-seat.last c.args.seats.items rest.items none
    c.loop-seat.invariant)) in
    record { left = rw c.close.ensures.size told }

pub returns-clause-values : goal.returns-clause-values
returns-clause-values g c =
    value_kept g.T.Tag.fits (plan_of c.args.self.table).tag (geometry_of c.args.self.table).room
    (words_of c.close.result) (together c.args.seats.items)

pub returns-clause-within : goal.returns-clause-within
returns-clause-within g c =
    let over = c.in-None.ensures.steps in
    let rest = c.loop-seat.seat-iterator.rest in
    let none : length rest.items ≡ 0 = omega (arith, over.0, rest.ok.0) in
    c.close.ensures.within
    (joins_all c.args.self c.loop-seat.last c.args.seats.items rest.items none
    c.loop-seat.invariant)

pub returns-clause-fitting : goal.returns-clause-fitting
returns-clause-fitting g c =
    let over = c.in-None.ensures.steps in
    let rest = c.loop-seat.seat-iterator.rest in
    let none : length rest.items ≡ 0 = omega (arith, over.0, rest.ok.0) in
    let told = c.close.ensures.closes
    (joins_all c.args.self c.loop-seat.last c.args.seats.items rest.items none
    c.loop-seat.invariant) in
    image_fits c.close.result g.T.Tag.fits (plan_of c.args.self.table).tag (view c.loop-seat.last)
    (rw c.close.ensures.size told)
