use Rattle.std.proofs.Common.{rules, true, false, sym, refl, ◌∙◌, arith}
use Rattle.hcc_rule.specs.Seats.{view}
use Rattle.hcc_rule.specs.ToldOwners.{made_of, shown_entry}
use Rattle.hcc_shard_tests.specs.Handles.{first_name}
use Rattle.hcc_shard_tests.proofs.Bytes.{each_from}
use Rattle.hcc_shard_tests.proofs.Placings.{placed_above, placed_counted}
use Rattle.hcc_shard_tests.proofs.table.caller.Caller.keep.Goals as goal

pub invariant_of-self : goal.invariant_of-self
invariant_of-self g c =
    let before = c.reserve.new.self in
    let placed = c.in-Placed.ensures.view in
    record {
      bench = search rules;
      seated = search rules;
      numbered = search rules;
      limited = search rules;
      counted = placed_counted _ _ _ _ _ _ _ placed.1 before.shown before.counted;
      above =
          placed_above _ _ _ _ _ _ _ placed.1 before.shown
          (c.draft-draft.ensures.serial ∙ sym c.reserve.ensures.same.1) before.above;
    }

pub returns-clause-holds : goal.returns-clause-holds
returns-clause-holds g c =
    let bytes = each_from c.args.value.now (λ k. (omega (arith, c.type_inv.value k))) in record {
      one = record {
        slot = c.in-Placed.slot;
        name = first_name;
        weight = 1;
        counting = true;
        shown = false;
        entry = shown_entry (view c.reserve.new.self.seat)
            (made_of c.draft-draft.result c.args.value.now);
      };
      carries = search rules;
      is = record {
        on = refl;
        called = refl;
        single = refl;
        counts = refl;
        readable = record { short = c.requires.short; bytes = bytes };
      };
    }
