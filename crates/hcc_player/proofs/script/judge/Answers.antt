use Rattle.std.proofs.Common.{[], arith}
use Rattle.hcc_player.specs.Script.{script_of, script_from, lines_of}
use Rattle.hcc_player.proofs.LineLemmas.{front_nil, ahead_goes, ahead_fails}
use Rattle.hcc_player.proofs.script.judge.Goals as goal

pub loop-bytes-init : goal.loop-bytes-init
unfolding script_of
loop-bytes-init g c =
    let says = g.G.Grammar.says c.args.grammar.now in
    record {
      ahead = record {
        front = [];
        so_far = front_nil (script_from says 1 (lines_of c.args.text.now));
      };
      counted = omega arith;
    }

pub returns-in-Err-clause-err : goal.returns-in-Err-clause-err
returns-in-Err-clause-err g c =
    rw c.in_line.ensures (ahead_fails (g.G.Grammar.says c.args.grammar.now) c.loop-bytes.line
    c.loop-bytes.rest.now c.in-Some.bytes.now c.in-Some.after.now _ c.in-Err.error
    c.loop-bytes.invariant.ahead c.in-Some.ensures.line c.in-Err.ensures)

pub loop-bytes-preserved : goal.loop-bytes-preserved
loop-bytes-preserved g c = record {
  ahead = ahead_goes (g.G.Grammar.says c.args.grammar.now) c.loop-bytes.line
      c.loop-bytes.rest.now c.in-Some.bytes.now
      c.in-Some.after.now _ c.in-Ok.field-0 c.loop-bytes.invariant.ahead c.in-Some.ensures.line
      c.in-Ok.ensures;
  counted = omega (arith, c.in-Some.ensures.shorter);
}
