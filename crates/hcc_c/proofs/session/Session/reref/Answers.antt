use Rattle.std.proofs.Common.{rules}
use Rattle.hcc_c.proofs.session.Session.reref.Goals as goal

pub returns-in-Ok-clause-again : goal.returns-in-Ok-clause-again
returns-in-Ok-clause-again c =
    let told = c.in-Ok.ensures in
    let parts = c.in_ok-parts.ensures.some.0 in
    let handle = c.in_ok-handle.ensures.some.0 in
    record {
      none = search rules;
      some = search rules;
      full = search rules;
      spent = search rules;
      refused = search rules;
      again = search rules;
      acquires = rw (c.deref.ensures, handle, parts) at told.acquires;
      stays = rw c.deref.ensures at told.stays;
      counts = rw (handle, parts) at told.counts;
      rest = search rules;
      steps = search rules;
    }
