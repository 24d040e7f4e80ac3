use Rattle.std.proofs.Common.{rules}
use Rattle.hcc_player.specs.Play.{script_text}
use Rattle.hcc_player.proofs.ByteLemmas.{on_error}
use Rattle.hcc_player.proofs.PlayLemmas.{ends_judged, writes_nothing_known}
use Rattle.hcc_player.proofs.play.play_core.Goals as goal

pub returns-in_err-text-clause-part : goal.returns-in_err-text-clause-part
returns-in_err-text-clause-part g c =
    on_error c.from_residual.result _ (writes_nothing_known _ _ (script_text c.args.setup))

pub returns-in_err-judge_all-clause-part : goal.returns-in_err-judge_all-clause-part
returns-in_err-judge_all-clause-part g c =
    on_error c.from_residual-in_err-judge_all.result _
    (writes_nothing_known _ _ (script_text c.args.setup))

pub returns-in_default-clause-part : goal.returns-in_default-clause-part
returns-in_default-clause-part g c = writes_nothing_known _ _ (script_text c.args.setup)

pub returns-in_err-judge_all-clause-ends : goal.returns-in_err-judge_all-clause-ends
returns-in_err-judge_all-clause-ends g c =
    let told = ends_judged _ c.in_ok-text.text.items c.in_err-judge_all.field-0.0
    c.in_ok-text.ensures.whole (rw c.deref.ensures.value at c.in_err-judge_all.ensures.err) in
    search (rules, told)
