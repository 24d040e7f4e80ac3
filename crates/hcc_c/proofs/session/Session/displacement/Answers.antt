use Rattle.std.proofs.Common.{rules}
use Rattle.hcc_c.proofs.session.Session.displacement.Goals as goal

pub returns-then-slot-self-clause-tells : goal.returns-then-slot-self-clause-tells
returns-then-slot-self-clause-tells c =
    let told = c.displacement.ensures in
    record {
      none = search rules;
      range = search rules;
      reads = search rules;
      entries = search rules;
      loads = rw c.deref.ensures at told.loads;
      stays = rw c.deref.ensures at told.stays;
      rest = search rules;
      steps = search rules;
    }
