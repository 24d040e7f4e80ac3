use Rattle.hcc_word.proofs.WordLaws.{SetsAcquires-take}
use Rattle.hcc_word.proofs.changes.given_back.Goals as goal

pub returns-clause-no_borrow : goal.returns-clause-no_borrow
returns-clause-no_borrow c there =
    rw c.from.ensures (SetsAcquires-take c.args.word c.args.n c.ranges.word.fits there)
