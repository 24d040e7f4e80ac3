use Rattle.std.proofs.Common.{map}
use Rattle.hcc_play.proofs.Endings.{reads_end}
use Rattle.hcc_play.proofs.blocks.reads.Goals as goal

pub returns : goal.returns
returns g c =
    let files = map (λ file. file.items) c.args.files.now in
    let read = g.I.Read.remaining c.args.input.now in
    let old = g.O.Write.contents c.args.output.now in
    let new = g.O.Write.contents c.play_blocks-played.new.writer in
    let played = c.play_blocks-played.ensures in
    rw c.ended.ensures (reads_end files c.args.options.now _ read old new c.requires.options
    c.play_blocks-played.result played.written played.ends played.late played.part)
