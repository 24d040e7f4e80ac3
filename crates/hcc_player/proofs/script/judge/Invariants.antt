use Rattle.std.proofs.Common.{◌+◌, ◌≤◌, length}
use Rattle.hcc_player.specs.Script.{script_of}
use Rattle.hcc_player.proofs.LineLemmas.{Ahead}
use Rattle.hcc_player.proofs.script.judge.Given as goal

abbrev pub invariant-loop-bytes : goal.invariant-loop-bytes
invariant-loop-bytes g l = record {
  ahead : Ahead (g.G.Grammar.says l.grammar) l.line l.rest
      (script_of (g.G.Grammar.says l.grammar) l.fn.text);
  counted : l.line + length l.rest ≤ length l.fn.text + 1;
}

abbrev pub decreases-loop-bytes : goal.decreases-loop-bytes
decreases-loop-bytes g l = length l.rest
