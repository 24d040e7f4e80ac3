use Rattle.std.proofs.Common.{arith}
use Rattle.hcc_core.specs.World.{standing_of}
use Rattle.hcc_core.proofs.SumLemmas.{total-drop, total-none}
use Rattle.hcc_core.proofs.sums.standing.Goals as goal

pub standing-sum-requires : goal.standing-sum-requires
standing-sum-requires c =
    let rest = total-drop standing_of c.args.clients.now c.loop-client.client-index
    c.client-item.result
    c.loop-client-test.true c.client-item.is in
    omega arith

pub overflow_add-sum : goal.overflow_add-sum
overflow_add-sum c =
    let rest = total-drop standing_of c.args.clients.now c.loop-client.client-index
    c.client-item.result
    c.loop-client-test.true c.client-item.is in
    omega arith

pub loop-client-preserved : goal.loop-client-preserved
loop-client-preserved c =
    let rest = total-drop standing_of c.args.clients.now c.loop-client.client-index
    c.client-item.result
    c.loop-client-test.true c.client-item.is in
    omega arith

pub returns : goal.returns
returns c =
    let none = total-none standing_of c.args.clients.now c.loop-client.client-index
    c.loop-client-test.false in
    omega arith
