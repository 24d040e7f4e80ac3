use Rattle.std.proofs.Common.{◌≡◌, ◌+◌, length, ap, ◌∙◌, arith}
use Rattle.hcc_rule.specs.declared.view.View.{View}
use Rattle.hcc_rule_tests.proofs.NewSeats.{popped, new_is_ready}
use Rattle.hcc_rule_tests.proofs.hired.hired.Goals as goal

pub returns-clause-rest : goal.returns-clause-rest
returns-clause-rest g c =
    (popped _ _ 0 _ _ c.pop.result c.expect-seat.result c.pop.ensures.items c.expect-seat.ensures
    c.requires.new).0

pub invariant_of-result : goal.invariant_of-result
invariant_of-result g c =
    let new = (popped _ _ 0 _ _ c.pop.result c.expect-seat.result c.pop.ensures.items
    c.expect-seat.ensures c.requires.new).1 in
    let ready = new_is_ready _ _ _ _ new in
    let number : 0 + length c.pop.new.self.items ≡ c.len.result =
    omega (arith, c.len.ensures) in record {
      bench = c.requires.bench;
      seated = ready.seat_of;
      numbered = ready.client_is ∙ number;
      counted = ready.made;
      above = ready.above;
    }

pub returns-clause-ready : goal.returns-clause-ready
returns-clause-ready g c =
    let new = (popped _ _ 0 _ _ c.pop.result c.expect-seat.result c.pop.ensures.items
    c.expect-seat.ensures c.requires.new).1 in
    (new_is_ready _ _ _ _ new).ready

pub returns-clause-alone : goal.returns-clause-alone
returns-clause-alone g c =
    let new = (popped _ _ 0 _ _ c.pop.result c.expect-seat.result c.pop.ensures.items
    c.expect-seat.ensures c.requires.new).1 in
    ap (λ (v : View _). v.others) new.fresh
