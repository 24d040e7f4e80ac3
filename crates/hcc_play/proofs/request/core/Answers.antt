use Rattle.hcc_play.proofs.Endings.{core_ends}
use Rattle.hcc_play.proofs.request.core.Goals as goal

pub returns : goal.returns
returns g c =
    let read = g.I.Read.remaining c.args.input.now in
    let old = g.O.Write.contents c.args.output.now in
    let new = g.O.Write.contents c.play_core.new.writer in
    let played = c.play_core.ensures in
    rw c.ended.ensures (core_ends c.args.setup read old new c.play_core.result played.written
    played.ends played.late played.part)
