use Rattle.hcc_play.proofs.Endings.{calls_end, calls_refused}
use Rattle.hcc_play.proofs.request.calls.Goals as goal

pub returns-clause-ends : goal.returns-clause-ends
returns-clause-ends g c =
    let read = g.I.Read.remaining c.args.input.now in
    let old = g.O.Write.contents c.args.output.now in
    let new = g.O.Write.contents c.play_run.new.writer in
    let played = c.play_run.ensures in
    rw c.ended.ensures (calls_end c.args.config read old new c.play_run.result played.written
    played.ends played.late played.part)

pub returns-clause-refused : goal.returns-clause-refused
returns-clause-refused g c =
    calls_refused c.play_run.result c.ended.result _ _ c.ended.ensures c.args.config
    c.play_run.ensures.refused
