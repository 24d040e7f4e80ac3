use Rattle.std.proofs.Common.{arith}
use Rattle.hcc_rule.specs.Callers.{geometry_of, plan_of}
use Rattle.hcc_rule.specs.Closing.{words_of}
use Rattle.hcc_rule.specs.Seats.{view}
use Rattle.hcc_shard.proofs.Imagings.{image_fits}
use Rattle.hcc_shard.proofs.Joinings.{idle_held}
use Rattle.hcc_shard.proofs.Lefts.{left_of}
use Rattle.hcc_shard.proofs.Values.{value_kept}
use Rattle.hcc_shard.proofs.shard.Shard.close_joined.Goals as goal

pub invariant_of-result : goal.invariant_of-result
invariant_of-result g c =
    let shard = c.args.self in
    let enough = c.requires.all in
    let few = c.close.ensures.few in
    let told =
    left_of g.T.Tag.fits (plan_of shard.table).tag (geometry_of shard.table)
    (words_of c.close.result) (view c.args.last.seat)
    (c.close.ensures.closes (record {
      idle = (idle_held shard c.args.last c.requires.back).0;
      all = omega arith;
    })) in
    record { left = rw c.close.ensures.size told }

pub returns-clause-closes : goal.returns-clause-closes
returns-clause-closes g c =
    let shard = c.args.self in
    let enough = c.requires.all in
    let few = c.close.ensures.few in
    c.close.ensures.closes (record {
      idle = (idle_held shard c.args.last c.requires.back).0;
      all = omega arith;
    })

pub returns-clause-values : goal.returns-clause-values
returns-clause-values g c =
    value_kept g.T.Tag.fits (plan_of c.args.self.table).tag (geometry_of c.args.self.table).room
    (words_of c.close.result) (view c.args.last.seat)

pub returns-clause-within : goal.returns-clause-within
returns-clause-within g c =
    let shard = c.args.self in
    let enough = c.requires.all in
    let few = c.close.ensures.few in
    c.close.ensures.within (record {
      idle = (idle_held shard c.args.last c.requires.back).0;
      all = omega arith;
    })

pub returns-clause-fitting : goal.returns-clause-fitting
returns-clause-fitting g c =
    image_fits c.close.result g.T.Tag.fits (plan_of c.args.self.table).tag (view c.args.last.seat)
    (rw c.close.ensures.size (returns-clause-closes g c))
