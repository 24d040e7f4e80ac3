use Rattle.std.proofs.Common.{rules, ◌≡◌, ◌↔◌, Result, Ok, Err, IsErrOf, ap}
use Rattle.hcc_c.proofs.object_session.ObjectSession.insert_pinned.Goals as goal
use Rattle.hcc_c.proofs.object_session.ObjectSession.insert_pinned.Goals.{in-Ok, in-Err}

-- What is inserted is no refusal, whatever is told of it,
ok_too : {A B E : Type 0} (a : A) (b : B) (e : E) (X : Type 0)
    → IsErrOf {T = A} {E = E} (Ok a) e ↔ X → IsErrOf {T = B} {E = E} (Ok b) e ↔ X
ok_too {A} {B} {E} a b e X told = (
  λ is. let bad : ◌≡◌ {A = Result B E} (Ok b) (Err e) = is in cc,
  λ x. let bad : ◌≡◌ {A = Result A E} (Ok a) (Err e) = told.1 x in cc,
)

-- and a refusal is told as it is.
err_too : {A B E : Type 0} (why e : E) (X : Type 0)
    → IsErrOf {T = A} {E = E} (Err why) e ↔ X → IsErrOf {T = B} {E = E} (Err why) e ↔ X
err_too {A} {B} {E} why e X told = (
  λ is. let there : ◌≡◌ {A = Result B E} (Err why) (Err e) = is in
      let same : why ≡ e = cc in told.0 (ap (λ w. Err w) same),
  λ x. let there : ◌≡◌ {A = Result A E} (Err why) (Err e) = told.1 x in
      let same : why ≡ e = cc in ap (λ w. Err w) same,
)

pub returns-clause-puts : goal.returns-clause-puts
returns-clause-puts c =
    let told = c.insert_pinned-answer.ensures in
    record {
      unfit = search rules;
      fit = search rules;
      full = elim c.match-answer.branch [
        | in-Ok w ↦ rw w.told-is (ok_too _ _ _ _ w.in-Ok.ensures.full)
        | in-Err w ↦ rw w.told-is (err_too _ _ _ w.in-Err.ensures.full)
      ];
      spent = elim c.match-answer.branch [
        | in-Ok w ↦ rw w.told-is (ok_too _ _ _ _ w.in-Ok.ensures.spent)
        | in-Err w ↦ rw w.told-is (err_too _ _ _ w.in-Err.ensures.spent)
      ];
      gone = elim c.match-answer.branch [
        | in-Ok w ↦ rw w.told-is (ok_too _ _ _ _ w.in-Ok.ensures.gone)
        | in-Err w ↦ rw w.told-is (err_too _ _ _ w.in-Err.ensures.gone)
      ];
      high = elim c.match-answer.branch [
        | in-Ok w ↦ rw w.told-is (ok_too _ _ _ _ w.in-Ok.ensures.high)
        | in-Err w ↦ rw w.told-is (err_too _ _ _ w.in-Err.ensures.high)
      ];
      large = elim c.match-answer.branch [
        | in-Ok w ↦ rw w.told-is (ok_too _ _ _ _ (rw c.deref.ensures at
            w.in-Ok.ensures.large))
        | in-Err w ↦ rw w.told-is (err_too _ _ _ (rw c.deref.ensures at w.in-Err.ensures.large))
      ];
      early = rw c.deref.ensures at told.early;
      inserted = elim c.match-answer.branch [
        | in-Ok w ↦ rw w.told-is (λ stands may.
            let made = (rw c.deref.ensures at w.in-Ok.ensures.inserted) stands may in
            (w.in-Ok.handle, made.0, w.of.ensures, made.1, made.2))
        | in-Err w ↦ rw w.told-is (rw c.deref.ensures at w.in-Err.ensures.inserted)
      ];
      rest = search rules;
      steps = rw c.deref.ensures at told.steps;
    }
