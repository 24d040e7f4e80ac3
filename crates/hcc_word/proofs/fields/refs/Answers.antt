use Rattle.hcc_word.specs.Word.{refs_of}
use Rattle.hcc_word.proofs.Bits.{and-difference}
use Rattle.hcc_word.proofs.fields.refs.Goals as goal

pub returns-clause-field : goal.returns-clause-field
unfolding refs_of
returns-clause-field c =
    let masked = and-difference c.acquires.result c.releases.result
    c.acquires.ensures.in_range c.releases.ensures.in_range in
    cc
