use Rattle.std.proofs.Common.{◌≡◌, length, string_bytes}
use Rattle.hcc_player.specs.TraceTag.{run_trace, said}
use Rattle.hcc_player.proofs.RunningLemmas.{Running}
use Rattle.hcc_player.proofs.run.playing.play_lines.Given as goal

abbrev pub invariant-loop-bytes : goal.invariant-loop-bytes
invariant-loop-bytes g l = record {
  running : Running g.T.Tag.fits l.cache l.config l.initial.clients.items
      l.initial.registers.items (g.W.Write.contents l.initial.writer)
      (g.W.Write.contents l.writer) (string_bytes l.initial.pending) (string_bytes l.pending)
      l.rest (said (run_trace l.config l.fn.text)) l.clients.items l.registers.items;
  count : length l.clients.items ≡ length l.initial.clients.items;
}

abbrev pub decreases-loop-bytes : goal.decreases-loop-bytes
decreases-loop-bytes g l = length l.rest
