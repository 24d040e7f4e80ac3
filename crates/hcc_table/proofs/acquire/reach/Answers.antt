use Rattle.std.proofs.Common.{length, ap, sym, ◌∙◌}
use Rattle.hcc_rule.specs.declared.view.Atomic.{Atomic}
use Rattle.hcc_rule.specs.Addresses.{address_of_meta}
use Rattle.hcc_rule.specs.Seats.{Makes, atomic, view}
use Rattle.hcc_table.proofs.Logs.{begins_then, light, makes_two, unmarked_adds, unmarked_one, unmarked_then}
use Rattle.hcc_table.proofs.Reaches.{reached_of, relieves}
use Rattle.hcc_table.proofs.Searches.{searched_refl}
use Rattle.hcc_table.proofs.acquire.reach.Goals as goal

pub relieve-requires-clause-holds : goal.relieve-requires-clause-holds
relieve-requires-clause-holds g c =
    relieves c.acquire_at-found.ensures.view (sym c.if-has_entry.ensures) c.requires.fresh
    (sym c.if-not-is_counting.ensures)

pub returns-then-has_entry-clause-view : goal.returns-then-has_entry-clause-view
returns-then-has_entry-clause-view g c =
    reached_of c.acquire_at-found.ensures.view c.relieve.ensures.view

pub returns-then-has_entry-clause-acquires : goal.returns-then-has_entry-clause-acquires
returns-then-has_entry-clause-acquires g c = record {
  first = begins_then got c.args.seat.now c.acquire_at-found.new.seat c.relieve.new.seat added.step
      (unmarked_adds c.relieve.ensures.adds);
  once = λ fresh.
      let none = c.relieve.ensures.passes (λ worn. fresh (
        sym c.if-has_entry.ensures,
        sym c.if-not-is_counting.ensures,
        worn,
      )) in
      record { step = none.0 ∙ added.step; one = ap length none.0 ∙ added.one };
  worn = λ worn.
      let corrected = c.relieve.ensures.corrects worn.2 in (
        corrected.0,
        makes_two got _ c.args.seat.now c.acquire_at-found.new.seat c.relieve.new.seat added.step
            corrected.1.step,
      );
}
  where
    got : Atomic
    got =
        atomic (address_of_meta c.args.table.now c.args.at.slot) c.args.weight 0
        c.acquire_at-found.result

    added : Makes (address_of_meta c.args.table.now c.args.at.slot) c.args.weight 0
        c.acquire_at-found.result c.args.seat.now c.acquire_at-found.new.seat
    added = c.acquire_at-found.ensures.step

pub returns-then-has_entry-clause-corrects : goal.returns-then-has_entry-clause-corrects
returns-then-has_entry-clause-corrects g c = record {
  none = λ fresh. (c.relieve.ensures.passes (λ worn. fresh (
    sym c.if-has_entry.ensures,
    sym c.if-not-is_counting.ensures,
    worn,
  ))).1;
  tried = λ worn.
      let corrected = c.relieve.ensures.corrects worn.2 in (
        corrected.0,
        makes_two _ _ c.args.seat.now c.acquire_at-found.new.seat c.relieve.new.seat
            c.acquire_at-found.ensures.step.step corrected.1.step,
        corrected.2,
        corrected.3,
      );
}

pub returns-then-has_entry-clause-adds : goal.returns-then-has_entry-clause-adds
returns-then-has_entry-clause-adds g c =
    unmarked_then (unmarked_one _ c.acquire_at-found.ensures.step.step (light c.requires.weight.1))
    c.relieve.ensures.adds

pub returns-else-not-is_counting-clause-view : goal.returns-else-not-is_counting-clause-view
returns-else-not-is_counting-clause-view g c =
    let got = view c.acquire_at-found.new.seat in
    reached_of c.acquire_at-found.ensures.view (searched_refl got)
