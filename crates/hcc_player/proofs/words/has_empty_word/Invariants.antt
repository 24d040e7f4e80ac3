use Rattle.std.proofs.Common.{◌≡◌, map, drop}
use Rattle.hcc_player.specs.Words.{has_empty_word}
use Rattle.hcc_player.proofs.words.has_empty_word.Given as goal

abbrev pub invariant-loop-word : goal.invariant-loop-word
invariant-loop-word l =
    has_empty_word (map (λ w. w.now) (drop l.word-index l.words))
    ≡ has_empty_word (map (λ w. w.now) l.words)
