use Rattle.std.proofs.Common.{◌∙◌}
use Rattle.hcc_rule.proofs.Images.Payloads.{word_last}
use Rattle.hcc_rule.proofs.packing.word_at.Goals as goal

pub returns-in-None : goal.returns-in-None
returns-in-None c =
    c.short_word.ensures
    ∙ word_last c.args.value.now c.args.offset c.requires c.in-None.ensures.cases
