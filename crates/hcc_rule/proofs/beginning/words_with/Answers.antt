use Rattle.std.proofs.Common.{◌∙◌}
use Rattle.hcc_rule.proofs.Images.Puts.{begins_none}
use Rattle.hcc_rule.proofs.beginning.words_with.Goals as goal

pub put_all-requires-clause-none : goal.put_all-requires-clause-none
put_all-requires-clause-none g c =
    begins_none c.args.geometry.slots c.args.geometry.room _
    (c.as_mut_slice.ensures.value ∙ c.in_ok-words.ensures.items_if_clones_equal (λ y h. h))
