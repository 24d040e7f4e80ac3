use Rattle.std.proofs.Common.{◌≡◌, Err, ap, arith, rules}
use Rattle.std.proofs.lemmas.Grind.{common_steps}
use Rattle.hcc_cache.specs.declared.errors.CopyError.TheVariants.{OutOfMemory}
use Rattle.hcc_c.proofs.session.Session.insert_copied.Goals as goal
use Rattle.hcc_c.proofs.session.Session.insert_copied.Goals.{in-Ok, in-Err}

pub returns-clause-puts : goal.returns-clause-puts
returns-clause-puts c =
    let told = c.insert_pinned_copy-answer.ensures in
    record {
      unfit = search rules;
      fit = search rules;
      full = search rules;
      spent = search rules;
      large = grind (arith, common_steps);
      inserted = search rules;
      evicts = elim c.match-answer.branch [
        | in-Ok w ↦ rw w.told-is (rw c.deref-2.ensures at w.in-Ok.ensures.evicts)
        | in-Err w ↦ rw w.told-is (rw c.deref-2.ensures at w.in-Err.ensures.evicts)
      ];
      shown = elim c.match-answer.branch [
        | in-Ok w ↦ rw w.told-is (rw c.deref-2.ensures at w.in-Ok.ensures.shown)
        | in-Err w ↦ rw w.told-is (rw c.deref-2.ensures at w.in-Err.ensures.shown)
      ];
      others = rw c.deref-2.ensures at told.others;
      frees = elim c.match-answer.branch [
        | in-Ok w ↦
            let frees = rw c.deref-2.ensures at w.in-Ok.ensures.frees in
            rw w.told-is (λ free enough some small. frees free some small (λ no. cc))
        | in-Err w ↦
            let frees = rw c.deref-2.ensures at w.in-Err.ensures.frees in
            rw w.told-is (λ free enough some small. frees free some small (λ no.
            let same : w.in-Err.why ≡ OutOfMemory = cc in
            enough (ap Err same)))
      ];
      rest = search rules;
      held = elim c.match-answer.branch [
        | in-Ok w ↦
            let few = rw c.deref-2.ensures at w.in-Ok.ensures.held (λ no. cc) in
            rw w.told-is (λ enough. omega arith)
        | in-Err w ↦
            let few = rw c.deref-2.ensures at w.in-Err.ensures.held in
            rw w.told-is (λ enough.
            let same = few (λ no.
            let same : w.in-Err.why ≡ OutOfMemory = cc in
            enough (ap Err same)) in
            omega arith)
      ];
      steps = search rules;
    }
