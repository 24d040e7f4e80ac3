use Rattle.hcc_word.proofs.Bits.{test-hit_bit}
use Rattle.hcc_word.proofs.fields.hit.Goals as goal

pub returns : goal.returns
returns c = test-hit_bit c.args.word
