use Rattle.std.proofs.Common.{refl, sym, ap, ◌∙◌}
use Rattle.hcc_rule.specs.declared.view.View.{View}
use Rattle.hcc_rule.specs.Seats.{view}
use Rattle.hcc_table.specs.declared.keeping.AtSlot.TheVariants.{Nothing, Held}
use Rattle.hcc_table.specs.AtSlots.{takes_one}
use Rattle.hcc_table.proofs.Erasures.{erases_first}
use Rattle.hcc_table.proofs.Handed.{hands_none}
use Rattle.hcc_table.proofs.Keepings.{due_unheld, found_behind, frees_unmarked, holds_nothing}
use Rattle.hcc_table.proofs.KeepsLasting.{unfreed_seek}
use Rattle.hcc_table.proofs.Logs.{unmarked_then, unmarked_zero}
use Rattle.hcc_table.proofs.Probes.{looked_at}
use Rattle.hcc_table.proofs.Probings.{neither}
use Rattle.hcc_table.proofs.Searches.{sought_then}
use Rattle.hcc_table.proofs.keeping.pin_at.Goals as goal

pub returns-in-Some-clause-view : goal.returns-in-Some-clause-view
returns-in-Some-clause-view g c =
    let told = c.in-Some.ensures in (
      told.pin.0,
      told.pin.1,
      told.found.0,
      found_behind (looked_at c.args.slot c.look_at-seen.result (view c.args.seat.now)
          (view c.look_at-seen.new.seat) c.look_at-seen.ensures.view) told.found.1,
      told.found.2,
    )

pub returns-in-Some-clause-list : goal.returns-in-Some-clause-list
returns-in-Some-clause-list g c =
    hands_none
    (ap (λ (v : View g.row.T.Denot). v.gone) (returns-in-Some-clause-view g c).3.searched.same)

pub returns-in-Some-clause-pins : goal.returns-in-Some-clause-pins
returns-in-Some-clause-pins g c = record {
  seen = c.look_at-seen.result;
  looked = c.look_at-seen.new.seat;
  looks = (c.look_at-seen.ensures.step, c.look_at-seen.ensures.view, c.look_at-seen.ensures.event);
  backs = c.look_at-seen.ensures.backs;
  all = c.look_at-seen.ensures.alone;
  shown = λ _. (c.in-Some.ensures.holds, refl);
  unshown = λ off. neither _ (sym c.if-is_shown.ensures) off;
}

pub returns-in-Some-clause-seeks : goal.returns-in-Some-clause-seeks
returns-in-Some-clause-seeks g c =
    unfreed_seek g.T.Tag.fits c.args.table.now c.args.name c.args.slot (Held c.in-Some.pin)
    (returns-in-Some-clause-pins g c) refl

pub returns-in-None-clause-view : goal.returns-in-None-clause-view
returns-in-None-clause-view g c =
    sought_then _ _ _ (looked_at c.args.slot c.look_at-seen.result (view c.args.seat.now)
    (view c.look_at-seen.new.seat) c.look_at-seen.ensures.view) c.in-None.ensures.none

pub returns-in-None-clause-list : goal.returns-in-None-clause-list
returns-in-None-clause-list g c =
    hands_none
    (ap (λ (v : View g.row.T.Denot). v.gone) (returns-in-None-clause-view g c).searched.same)

pub returns-in-None-clause-pins : goal.returns-in-None-clause-pins
returns-in-None-clause-pins g c = record {
  seen = c.look_at-seen.result;
  looked = c.look_at-seen.new.seat;
  looks = (c.look_at-seen.ensures.step, c.look_at-seen.ensures.view, c.look_at-seen.ensures.event);
  backs = c.look_at-seen.ensures.backs;
  all = c.look_at-seen.ensures.alone;
  shown = λ _. (c.in-None.ensures.holds, refl);
  unshown = λ off. neither _ (sym c.if-is_shown.ensures) off;
}

pub returns-in-None-clause-seeks : goal.returns-in-None-clause-seeks
returns-in-None-clause-seeks g c =
    unfreed_seek g.T.Tag.fits c.args.table.now c.args.name c.args.slot Nothing
    (returns-in-None-clause-pins g c) refl

pub returns-in-Some-free_hidden-clause-view : goal.returns-in-Some-free_hidden-clause-view
returns-in-Some-free_hidden-clause-view g c =
    let told = c.in-Some-free_hidden.ensures in
    let looked = looked_at c.args.slot c.look_at-seen.result (view c.args.seat.now)
    (view c.look_at-seen.new.seat) c.look_at-seen.ensures.view in (
      told.freed.0,
      erases_first looked.searched told.freed.1,
      told.freed.2 ∙ looked.records,
      holds_nothing c.look_at-seen.ensures.backs
          (due_unheld (takes_one (g.L.FreedList.shelf c.args.list.now)) c.look_at-seen.result
          told.tries.tries.won.0),
    )

pub returns-in-None-free_hidden-clause-view : goal.returns-in-None-free_hidden-clause-view
returns-in-None-free_hidden-clause-view g c =
    sought_then _ _ _ (looked_at c.args.slot c.look_at-seen.result (view c.args.seat.now)
    (view c.look_at-seen.new.seat) c.look_at-seen.ensures.view) c.in-None-free_hidden.ensures.lost

pub returns-in-None-free_hidden-clause-unmarked : goal.returns-in-None-free_hidden-clause-unmarked
returns-in-None-free_hidden-clause-unmarked g c =
    unmarked_then (unmarked_zero c.look_at-seen.ensures.step)
    (frees_unmarked c.in-None-free_hidden.ensures.tries)

pub returns-in-None-free_hidden-clause-seeks : goal.returns-in-None-free_hidden-clause-seeks
returns-in-None-free_hidden-clause-seeks g c =
    unfreed_seek g.T.Tag.fits c.args.table.now c.args.name c.args.slot Nothing (record {
      seen = c.look_at-seen.result;
      looked = c.look_at-seen.new.seat;
      looks = (
        c.look_at-seen.ensures.step,
        c.look_at-seen.ensures.view,
        c.look_at-seen.ensures.event,
      );
      backs = c.look_at-seen.ensures.backs;
      all = c.look_at-seen.ensures.alone;
      shown = λ on. neither _ on (sym c.if-is_shown.ensures);
      unshown = λ _. (refl, c.in-None-free_hidden.ensures.tries);
    }) refl
