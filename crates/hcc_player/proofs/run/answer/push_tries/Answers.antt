use Rattle.std.proofs.Common.{codes, string_bytes}
use Rattle.hcc_player.specs.RunAnswers.{named, tries_text}
use Rattle.hcc_player.proofs.TextLemmas.{on_ok_text, two_pieces}
use Rattle.hcc_player.proofs.run.answer.push_tries.Goals as goal

pub returns : goal.returns
unfolding tries_text
returns c =
    let s = c.args.stats in
    let mid = string_bytes c.push_named.new.out in
    on_ok_text c.push_named-2.result (string_bytes c.push_named-2.new.out) mid
    (named (codes " lost ") s.lost) _
    (two_pieces (string_bytes c.args.out.now) (named (codes " corrections ") s.corrections)
    (named (codes " lost ") s.lost) mid c.in_ok-push_named.ensures) c.push_named-2.ensures
