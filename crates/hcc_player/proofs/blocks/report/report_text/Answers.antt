use Rattle.std.proofs.Common.{◌++◌, codes, ap, ◌∙◌}
use Rattle.hcc_player.proofs.Compact.{report_compact, report_whole}
use Rattle.hcc_player.proofs.blocks.report.report_text.Goals as goal

pub returns : goal.returns
returns c =
    let sums = c.args.sums in
    let clients = c.args.clients.now in
    let text = rw c.in_ok-value.ensures at c.in_ok-text.ensures.text in
    c.in_ok-push_str.ensures.bytes
    ∙ ap (λ b. b ++ codes "\n")
    (text (report_whole sums clients) ∙ report_compact sums clients)
