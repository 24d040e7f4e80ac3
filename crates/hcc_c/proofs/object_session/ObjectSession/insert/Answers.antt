use Rattle.std.proofs.Common.{rules}
use Rattle.hcc_c.proofs.object_session.ObjectSession.insert.Goals as goal

pub returns-clause-puts : goal.returns-clause-puts
returns-clause-puts c =
    let told = c.insert-answer.ensures in
    record {
      unfit = search rules;
      fit = search rules;
      spent = told.spent;
      high = told.high;
      large = rw c.deref.ensures at told.large;
      early = rw c.deref.ensures at told.early;
      inserted = rw c.deref.ensures at told.inserted;
      rest = search rules;
      steps = rw c.deref.ensures at told.steps;
    }
