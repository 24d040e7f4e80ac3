use Rattle.std.proofs.Common.{rules, sym, ◌∙◌}
use Rattle.hcc_shard_tests.proofs.Placings.{placed_above, placed_counted}
use Rattle.hcc_shard_tests.proofs.table.caller.Caller.insert_held.Goals as goal

pub invariant_of-self : goal.invariant_of-self
invariant_of-self g c =
    let before = c.reserve_held.new.self in
    let placed = c.in-Placed.ensures.view in
    record {
      bench = search rules;
      seated = search rules;
      numbered = search rules;
      limited = search rules;
      counted = placed_counted _ _ _ _ _ _ _ placed.1 before.shown before.counted;
      above =
          placed_above _ _ _ _ _ _ _ placed.1 before.shown
          (c.draft-draft.ensures.serial ∙ sym c.reserve_held.ensures.same.1) before.above;
    }
