use Rattle.std.proofs.Common.{rules, ◌≡◌, [], ◌∷◌, refl}
use Rattle.hcc_rule.specs.ToldReferences.{record_of}
use Rattle.hcc_player_tests.proofs.Hands.{taken_by}
use Rattle.hcc_player_tests.proofs.running.acts.erases.Goals as goal

pub taken_charge-charge-requires-clause-took : goal.taken_charge-charge-requires-clause-took
taken_charge-charge-requires-clause-took g c =
    let reached = c.in_ok-word in
    let record_is = record_of 3 1 4 reached.word reached.ensures.holds.0 in
    taken_by c.free_at-found.ensures.view 8 (record_is ∷ []) (search rules) (search rules) refl
    (search rules)
