use Rattle.std.proofs.Common.{rules, ◌≡◌, [], None, refl}
use Rattle.hcc_rule_tests.proofs.Hands.{taken}
use Rattle.hcc_rule_tests.proofs.worker.Worker.evict_seen.Goals as goal

pub taken_charge-charge-requires-clause-took : goal.taken_charge-charge-requires-clause-took
taken_charge-charge-requires-clause-took g c =
    let sized : c.args.self.now.table.now.geometry.slots ≡ 8 = search rules in
    taken _ _ _ 8 c.args.slot _ _ None [] _ _ sized (search rules) refl c.free_at-found.ensures.view
    (search rules)
