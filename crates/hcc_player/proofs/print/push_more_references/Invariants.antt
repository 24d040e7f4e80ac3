use Rattle.std.proofs.Common.{◌≡◌, ◌++◌, ◌∷◌, string_bytes, take}
use Rattle.std.specs.List.{flat_map}
use Rattle.hcc_player.specs.Text.{reference_text}
use Rattle.hcc_player.proofs.print.push_more_references.Given as goal

abbrev pub invariant-loop-reference : goal.invariant-loop-reference
invariant-loop-reference l =
    string_bytes l.out
    ≡ string_bytes l.fn.out ++ flat_map (λ r. 38 ∷ reference_text r)
    (take l.reference-index l.references)
