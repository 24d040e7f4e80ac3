use Rattle.hcc_rule_tests.proofs.NewSeats.{popped, new_is_ready}
use Rattle.hcc_shard_tests.proofs.table.hired.hired.Goals as goal

pub returns-clause-rest : goal.returns-clause-rest
returns-clause-rest g c =
    (popped _ _ 0 _ _ c.pop.result c.expect-seat.result c.pop.ensures.items c.expect-seat.ensures
    c.requires.new).0

pub returns-clause-ready : goal.returns-clause-ready
returns-clause-ready g c =
    let new = (popped _ _ 0 _ _ c.pop.result c.expect-seat.result c.pop.ensures.items
    c.expect-seat.ensures c.requires.new).1 in
    (new_is_ready _ _ _ _ new).ready
