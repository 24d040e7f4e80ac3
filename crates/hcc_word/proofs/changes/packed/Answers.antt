use Rattle.hcc_word.proofs.Bits.{or-fields}
use Rattle.hcc_word.proofs.changes.packed.Goals as goal

pub returns : goal.returns
returns c =
    let sum = or-fields c.args.acquires c.args.releases c.args.hit c.args.state
    c.requires.acquires_fit c.requires.releases_fit c.requires.state_fits in
    cc
