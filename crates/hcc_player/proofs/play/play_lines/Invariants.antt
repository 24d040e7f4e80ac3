use Rattle.std.proofs.Common.{◌++◌, string_bytes, length}
use Rattle.hcc_player.specs.Play.{events_in, played}
use Rattle.hcc_player.proofs.PlayLemmas.{Playing}
use Rattle.hcc_player.proofs.play.play_lines.Given as goal

abbrev pub invariant-loop-line : goal.invariant-loop-line
invariant-loop-line g l =
    Playing (g.W.Write.contents l.initial.writer) (g.W.Write.contents l.writer)
    (string_bytes l.pending) l.rest l.world
    (string_bytes l.initial.pending ++ played l.initial.world (events_in l.fn.text))

abbrev pub decreases-loop-line : goal.decreases-loop-line
decreases-loop-line g l = length l.rest
