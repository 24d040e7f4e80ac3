use Rattle.std.proofs.Common.{refl, sym, arith}
use Rattle.hcc_rule.specs.Seats.{view}
use Rattle.hcc_table.proofs.Keepings.{holds_more, holds_same, more, shown_word, stray_word}
use Rattle.hcc_table.proofs.Logs.{light, unmarked_one, unmarked_then}
use Rattle.hcc_table.proofs.Probes.{given_back, holds, holds_slot}
use Rattle.hcc_table.proofs.Probings.{neither, visible_has}
use Rattle.hcc_table.proofs.Reaches.{all_reached}
use Rattle.hcc_table.proofs.Searches.{searched_refl}
use Rattle.hcc_table.proofs.keeping.hold_shown.Goals as goal

pub returns-then-not-has_entry-clause-none : goal.returns-then-not-has_entry-clause-none
returns-then-not-has_entry-clause-none g c =
    holds_same c.reach-found.ensures.view (sym c.if-not-has_entry.ensures)

pub returns-then-not-has_entry-clause-holds : goal.returns-then-not-has_entry-clause-holds
returns-then-not-has_entry-clause-holds g c = record {
  word = c.reach-found.result;
  mid = c.reach-found.new.seat;
  reaches = all_reached c.reach-found.ensures.view c.reach-found.ensures.acquires
      c.reach-found.ensures.corrects c.reach-found.ensures.by;
  shown = λ shown. neither _ (visible_has c.reach-found.result shown)
      (sym c.if-not-has_entry.ensures);
  unshown = λ _. refl;
  hidden = λ hidden. neither _ hidden
      (stray_word c.reach-found.result (sym c.if-not-has_entry.ensures));
  stray = λ _. refl;
}

pub give_at-requires-clause-holds : goal.give_at-requires-clause-holds
give_at-requires-clause-holds g c =
    holds (searched_refl (view c.args.seat.now)) c.reach-found.ensures.view
    (sym c.if-not-has_entry.ensures) c.requires.fresh (searched_refl (view c.reach-found.new.seat))

pub returns-then-not-is_shown-clause-none : goal.returns-then-not-is_shown-clause-none
returns-then-not-is_shown-clause-none g c =
    given_back (searched_refl (view c.args.seat.now)) c.reach-found.ensures.view
    (sym c.if-not-has_entry.ensures) c.requires.fresh c.give_at.result
    (searched_refl (view c.reach-found.new.seat)) c.give_at.ensures.view

pub returns-then-not-is_shown-clause-holds : goal.returns-then-not-is_shown-clause-holds
returns-then-not-is_shown-clause-holds g c = record {
  word = c.reach-found.result;
  mid = c.reach-found.new.seat;
  reaches = all_reached c.reach-found.ensures.view c.reach-found.ensures.acquires
      c.reach-found.ensures.corrects c.reach-found.ensures.by;
  shown = λ shown. neither _ shown (sym c.if-not-is_shown.ensures);
  unshown = λ _. refl;
  hidden = λ _. (c.give_at.result, c.give_at.ensures.step, c.give_at.ensures.event);
  stray = λ away. neither _ (sym c.if-not-has_entry.ensures) away;
}

pub returns-then-not-is_shown-clause-adds : goal.returns-then-not-is_shown-clause-adds
returns-then-not-is_shown-clause-adds g c =
    unmarked_then c.reach-found.ensures.adds
    (unmarked_one _ c.give_at.ensures.step.step (light (omega arith)))

pub returns-clause-found : goal.returns-clause-found
returns-clause-found g c = (
  more c.reach-found.ensures.view (sym c.if-not-has_entry.ensures),
  holds_more c.reach-found.ensures.view (sym c.if-not-has_entry.ensures)
      (sym c.if-not-is_shown.ensures),
  (refl, refl, sym c.is_counting.ensures),
)

pub returns-clause-holds : goal.returns-clause-holds
returns-clause-holds g c = record {
  word = c.reach-found.result;
  mid = c.reach-found.new.seat;
  reaches = all_reached c.reach-found.ensures.view c.reach-found.ensures.acquires
      c.reach-found.ensures.corrects c.reach-found.ensures.by;
  shown = λ _. (
    rw c.is_counting.ensures refl,
    refl,
    holds_slot (searched_refl (view c.args.seat.now)) c.reach-found.ensures.view
        (sym c.if-not-has_entry.ensures) c.requires.fresh
        (searched_refl (view c.reach-found.new.seat)),
  );
  unshown = λ away. neither _ (sym c.if-not-is_shown.ensures) away;
  hidden = λ hidden. neither _ hidden
      (shown_word c.reach-found.result (sym c.if-not-is_shown.ensures));
  stray = λ away. neither _ (sym c.if-not-has_entry.ensures) away;
}
