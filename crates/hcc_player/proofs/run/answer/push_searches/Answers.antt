use Rattle.std.proofs.Common.{codes, string_bytes}
use Rattle.hcc_player.specs.RunAnswers.{named, searches_text}
use Rattle.hcc_player.proofs.TextLemmas.{on_ok_text, three_pieces}
use Rattle.hcc_player.proofs.run.answer.push_searches.Goals as goal

pub returns : goal.returns
unfolding searches_text
returns c =
    let s = c.args.stats in
    let mid = string_bytes c.push_named-2.new.out in
    on_ok_text c.push_named-3.result (string_bytes c.push_named-3.new.out) mid
    (named (codes " evicted ") s.evicted) _
    (three_pieces (string_bytes c.args.out.now) (named (codes "stats probes ") s.probes)
    (named (codes " boosts ") s.boosts) (named (codes " evicted ") s.evicted)
    (string_bytes c.push_named.new.out) mid c.in_ok-push_named.ensures
    c.in_ok-push_named-2.ensures) c.push_named-3.ensures
