use Rattle.std.proofs.Common.{IfOk, subst, sym}
use Rattle.hcc_play.specs.Parsed.{Used}
use Rattle.hcc_play.specs.Requests.{IsAskedBy}
use Rattle.hcc_play.specs.Settings.{Finds}
use Rattle.hcc_play.proofs.Asking.{none_used, one_used}
use Rattle.hcc_play.proofs.request.asked_by.Goals as goal

pub returns-in-Some : goal.returns-in-Some
returns-in-Some c =
    let given = c.in-Some.ensures in
    let used = one_used c.args.matches.now _ _ given.name given.rows in
    subst (λ (o : Used). IfOk c.asked_of.result (Finds (IsAskedBy o))) (sym used)
    c.asked_of.ensures

pub returns-in-None : goal.returns-in-None
returns-in-None c = none_used c.args.matches.now c.in-None.ensures.variant
