use Rattle.hcc_player.specs.Bytes.{Leaves}
use Rattle.hcc_player.proofs.output.write_out.Given as goal

abbrev pub invariant-loop : goal.invariant-loop
invariant-loop g l = Leaves (g.W.Write.contents l.initial.writer)
    (g.W.Write.contents l.writer) l.bytes l.rest
