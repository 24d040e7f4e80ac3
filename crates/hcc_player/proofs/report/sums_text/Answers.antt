use Rattle.std.proofs.Common.{◌++◌, codes, ap, ◌∙◌}
use Rattle.hcc_player.proofs.JsonLemmas.{sums_compact, sums_whole}
use Rattle.hcc_player.proofs.report.sums_text.Goals as goal

pub returns : goal.returns
returns c =
    let text = rw c.in_ok-value.ensures at c.in_ok-text.ensures.text in
    c.in_ok-push_str.ensures.bytes
    ∙ ap (λ b. b ++ codes "\n") (text (sums_whole c.args.sums) ∙ sums_compact c.args.sums)
