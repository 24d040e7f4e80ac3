use Rattle.std.proofs.Common.{◌∙◌, arith}
use Rattle.hcc_word.specs.Code.{code_of_shareable}
use Rattle.hcc_word.specs.Word.{word_of}
use Rattle.hcc_word.proofs.changes.unreferenced.Goals as goal

pub returns-clause-entry : goal.returns-clause-entry
unfolding word_of code_of_shareable
returns-clause-entry c = c.packed.ensures ∙ omega arith
