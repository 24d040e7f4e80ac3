use Rattle.std.proofs.Common.{◌∙◌, length}
use Rattle.hcc_rule.proofs.Images.Payloads.{word_copied}
use Rattle.hcc_rule.proofs.packing.short_word.Goals as goal

pub returns : goal.returns
returns c =
    c.from_le_bytes.ensures
    ∙ word_copied c.args.bytes.now c.copy_from_slice.new.self (length c.args.bytes.now)
    c.copy_from_slice.ensures.after
