use Rattle.std.proofs.Common.{rules}
use Rattle.hcc_player.proofs.LineLemmas.{cut_at, uncut}
use Rattle.hcc_player.proofs.script.next_line.Goals as goal

pub returns-in_err-end-clause-none : goal.returns-in_err-end-clause-none
returns-in_err-end-clause-none c = rw c.from_residual.ensures (uncut c.args.text.now (search rules))

pub returns-clause-line : goal.returns-clause-line
returns-clause-line c = cut_at c.args.text.now c.in_ok-end.end (search rules)
