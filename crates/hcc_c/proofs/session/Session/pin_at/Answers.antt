use Rattle.std.proofs.Common.{rules, refl}
use Rattle.hcc_c.proofs.session.Session.pin_at.Goals as goal

pub returns-in-Some-clause-pins : goal.returns-in-Some-clause-pins
returns-in-Some-clause-pins c =
    let there = rw (c.deref.ensures) at c.in_ok-held.ensures.outside in
    let held = rw (c.deref.ensures, c.in-Some.is) at c.in_ok-held.ensures.held in
    record {
      outside = λ no. (let none = rw (c.in-Some.is) at (there no).0 in cc);
      full = search rules;
      spent = search rules;
      refused = tt;
      held = (c.in-Some.held, held, c.of.ensures);
      passed = tt;
      stays = rw c.deref.ensures at c.in_ok-held.ensures.stays;
      counts = rw c.deref.ensures at c.in_ok-held.ensures.counts;
      rest = refl;
      steps = c.in_ok-held.ensures.steps;
    }

pub returns-in-None-clause-pins : goal.returns-in-None-clause-pins
returns-in-None-clause-pins c =
    let there = rw (c.deref.ensures) at c.in_ok-held.ensures.outside in
    record {
      outside = λ no. (refl, (there no).1);
      full = search rules;
      spent = search rules;
      refused = tt;
      held = tt;
      passed = rw (c.deref.ensures, c.in-None.is) at c.in_ok-held.ensures.passed;
      stays = rw c.deref.ensures at c.in_ok-held.ensures.stays;
      counts = rw c.deref.ensures at c.in_ok-held.ensures.counts;
      rest = refl;
      steps = c.in_ok-held.ensures.steps;
    }
