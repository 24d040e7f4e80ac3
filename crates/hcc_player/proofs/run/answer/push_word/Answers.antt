use Rattle.std.proofs.Common.{codes, string_bytes}
use Rattle.hcc_player.specs.RunAnswers.{named, word_answer, word_text}
use Rattle.hcc_player.proofs.TextLemmas.{on_ok_text, three_pieces}
use Rattle.hcc_player.proofs.run.answer.push_word.Goals as goal

pub returns : goal.returns
unfolding word_answer
returns c =
    let mid = string_bytes c.push_bytes.new.out in
    let last = named (codes " displaced ") c.args.displaced in
    on_ok_text c.push_named.result (string_bytes c.push_named.new.out) mid last _
    (three_pieces (string_bytes c.args.out.now) (codes "word ") (word_text c.args.word) last
    (string_bytes c.push_str.new.self) mid c.in_ok-push_str.ensures.bytes
    (rw c.to_be_bytes.ensures at c.in_ok-push_bytes.ensures)) c.push_named.ensures
