use Rattle.std.proofs.Common.{IsOk, rules, sym, ◌∙◌}
use Rattle.hcc_player.specs.PlayRun.{PlaysAll}
use Rattle.hcc_player.specs.TraceTag.{run_trace, said}
use Rattle.hcc_player.proofs.ByteLemmas.{on_ok_so}
use Rattle.hcc_player.proofs.PlayRunLemmas.{run_judged, writes_known}
use Rattle.hcc_player.proofs.run.play_run.Goals as goal

pub returns-in_err-judge_all-clause-ends : goal.returns-in_err-judge_all-clause-ends
returns-in_err-judge_all-clause-ends g c =
    let told = run_judged c.args.options.now.config _ c.in_ok-text.text.items
    c.in_err-judge_all.field-0.0 (sym c.check_config.ensures ∙ c.in_ok-check_config.was)
    c.in_ok-text.ensures.whole (rw c.deref.ensures.value at c.in_err-judge_all.ensures.err) in
    search (rules, told)

pub returns-clause-written : goal.returns-clause-written
returns-clause-written g c =
    let config = c.args.options.now.config in
    let bytes = c.in_ok-text.text.items in
    let old = g.W.Write.contents c.args.writer.now in
    let new = g.W.Write.contents c.play_text.new.writer in
    let good : IsOk (run_trace config bytes) =
    rw c.deref.ensures.value at c.in_ok-judge_all.ensures.ok in
    on_ok_so c.play_text.result (PlaysAll config (said (run_trace config bytes)) old new) _
    (writes_known config (g.R.Read.remaining c.args.reader.now) old new bytes
    c.in_ok-text.ensures.whole good) (rw c.deref-2.ensures.value at c.play_text.ensures.ok)
