use Rattle.std.proofs.Common.{rules}
use Rattle.hcc_c.proofs.session.Session.word.Goals as goal

pub returns-then-slot-self-clause-tells : goal.returns-then-slot-self-clause-tells
returns-then-slot-self-clause-tells c =
    let told = c.word.ensures in
    record {
      none = search rules;
      range = search rules;
      keeps = search rules;
      view = search rules;
      backs = search rules;
      loads = rw c.deref.ensures at told.loads;
      stays = rw c.deref.ensures at told.stays;
      counts = told.counts;
      rest = search rules;
      steps = search rules;
    }
