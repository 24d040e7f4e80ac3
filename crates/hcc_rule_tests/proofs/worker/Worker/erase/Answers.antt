use Rattle.std.proofs.Common.{rules, ◌≡◌, [], ◌∷◌, Some, refl}
use Rattle.hcc_rule.specs.ToldReferences.{record_of}
use Rattle.hcc_rule_tests.proofs.Hands.{taken}
use Rattle.hcc_rule_tests.proofs.worker.Worker.erase.Goals as goal

pub taken_charge-charge-requires-clause-took : goal.taken_charge-charge-requires-clause-took
taken_charge-charge-requires-clause-took g c =
    let reached = c.reach-seen in
    let record_is = record_of c.args.slot 1 7 reached.result.1 reached.ensures.holds.0 in
    let sized : reached.new.self.table.now.geometry.slots ≡ 8 = search rules in
    taken _ _ _ 8 c.args.slot _ _ (Some 7) (record_is ∷ []) _ _ sized (search rules) refl
    c.free_at-found.ensures.view (search rules)
