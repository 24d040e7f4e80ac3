use Rattle.std.proofs.Common.{Some, None, ap, refl, ◌∙◌}
use Rattle.hcc_rule.specs.Seats.{view}
use Rattle.std.specs.Int.{from_bool}
use Rattle.hcc_table.proofs.Erasures.{hidden_freed, hidden_then}
use Rattle.hcc_table.proofs.Probes.{given_at}
use Rattle.hcc_table.proofs.Searches.{searched_then}
use Rattle.hcc_table.proofs.hiding.hide_held.Goals as goal

pub returns-in-Some-clause-hides : goal.returns-in-Some-clause-hides
returns-in-Some-clause-hides g c = record {
  found = c.hide-found.result;
  hid = c.hide-found.new.seat;
  hides = c.hide-found.ensures.step;
  event = c.hide-found.ensures.event;
  told = c.hide-found.ensures.view;
  hidden = c.from-hidden.ensures ∙ ap from_bool c.is_shown.ensures;
  freed = Some c.in-Some.charge;
  tried = c.free_last.new.seat;
  tries = c.in-Some.ensures.tried;
  takes = c.in-Some.ensures.by;
  won = (refl, refl, refl);
  given = tt;
}

pub returns-in-None-clause-hides : goal.returns-in-None-clause-hides
returns-in-None-clause-hides g c = record {
  found = c.hide-found.result;
  hid = c.hide-found.new.seat;
  hides = c.hide-found.ensures.step;
  event = c.hide-found.ensures.event;
  told = c.hide-found.ensures.view;
  hidden = c.from-hidden.ensures ∙ ap from_bool c.is_shown.ensures;
  freed = None;
  tried = c.free_last.new.seat;
  tries = c.in-None.ensures.tried;
  takes = c.in-None.ensures.by;
  won = tt;
  given = (c.give_at.result, c.give_at.ensures.step, refl, refl, c.give_at.ensures.event);
}

pub returns-in-None-clause-view : goal.returns-in-None-clause-view
returns-in-None-clause-view g c =
    let u = (view c.free_last.new.seat) in
    hidden_then c.args.slot c.args.name c.hide-found.result (view c.args.seat.now) c.requires.idle
    (c.from-hidden.ensures ∙ ap from_bool c.is_shown.ensures) c.requires.holds
    c.hide-found.ensures.view (searched_then _ u _ c.in-None.ensures.lost.searched (given_at
    c.args.slot c.args.name c.give_at.result u (view c.give_at.new.seat) c.give_at.ensures.view))

pub returns-in-Some-clause-view : goal.returns-in-Some-clause-view
returns-in-Some-clause-view g c =
    hidden_freed c.args.slot c.args.name c.hide-found.result (view c.args.seat.now) c.requires.idle
    (c.from-hidden.ensures ∙ ap from_bool c.is_shown.ensures) c.requires.holds
    c.hide-found.ensures.view c.in-Some.ensures.freed.1
