use Rattle.std.proofs.Common.{rules}
use Rattle.hcc_c.proofs.session.Session.insert.Goals as goal

pub returns-clause-puts : goal.returns-clause-puts
returns-clause-puts c =
    let told = c.insert-answer.ensures in
    record {
      unfit = search rules;
      fit = search rules;
      spent = search rules;
      large = search rules;
      inserted = search rules;
      evicts = rw c.deref-2.ensures at told.evicts;
      shown = rw c.deref-2.ensures at told.shown;
      others = rw c.deref-2.ensures at told.others;
      frees = rw c.deref-2.ensures at told.frees;
      rest = search rules;
      steps = search rules;
    }
