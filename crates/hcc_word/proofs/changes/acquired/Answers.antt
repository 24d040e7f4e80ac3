use Rattle.hcc_word.proofs.WordLaws.{SetsAcquires-add}
use Rattle.hcc_word.proofs.changes.acquired.Goals as goal

pub returns-clause-no_carry : goal.returns-clause-no_carry
returns-clause-no_carry c within =
    rw c.from.ensures (SetsAcquires-add c.args.word c.args.n c.ranges.word.fits within)
