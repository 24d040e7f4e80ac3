use Rattle.std.proofs.Common.{rules, ◌≡◌, [], None, refl, ap, ◌∙◌}
use Rattle.hcc_rule.specs.declared.view.View.{View}
use Rattle.hcc_rule_tests.proofs.Hands.{taken, strayed}
use Rattle.hcc_rule_tests.proofs.worker.Worker.evict_astray.Goals as goal

pub taken_charge-charge-requires-clause-took : goal.taken_charge-charge-requires-clause-took
taken_charge-charge-requires-clause-took g c =
    let sized : c.args.self.now.table.now.geometry.slots ≡ 8 = search rules in
    let stray = c.acquire_at-stray.ensures.view.stray (search rules) in
    let took = taken _ _ _ 8 c.args.slot _ _ None [] _ _ sized (search rules) refl
    c.free_at-found.ensures.view (search rules) in (
      took.0,
      took.1,
      strayed _ _ _ _ took.2 stray,
      ap (λ (v : View _). v.written) stray ∙ took.3,
    )
