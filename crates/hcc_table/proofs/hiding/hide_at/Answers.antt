use Rattle.std.proofs.Common.{None, inl, inr, refl, ap}
use Rattle.hcc_table.proofs.Erasures.{erased_none, erased_there, buried_there}
use Rattle.hcc_rule.specs.declared.view.View.{View}
use Rattle.hcc_table.proofs.Handed.{hands_none}
use Rattle.hcc_rule.specs.Seats.{view}
use Rattle.hcc_rule.specs.Records.{record_in}
use Rattle.hcc_table.proofs.Probes.{found_asked, found_holds, stamp_dead, stamp_in, stamp_is}
use Rattle.hcc_table.proofs.hiding.hide_at.Goals as goal

pub hide_held-requires-clause-holds : goal.hide_held-requires-clause-holds
hide_held-requires-clause-holds g c =
    let found = c.in-Some.ensures.found in
    found_holds c.requires.fresh found.1

pub returns-in-Some-clause-view : goal.returns-in-Some-clause-view
returns-in-Some-clause-view g c =
    let found = c.in-Some.ensures.found in
    let all = c.hide_held.result in
    erased_there all.hidden all.slots all.charge (view c.hide_held.new.seat) c.requires.fresh
    found.1 c.hide_held.ensures.few.1 c.hide_held.ensures.view c.hide_held.ensures.records

pub returns-in-Some-clause-dead : goal.returns-in-Some-clause-dead
returns-in-Some-clause-dead g c =
    let found = c.in-Some.ensures.found in
    let all = c.hide_held.result in
    buried_there all.hidden all.slots all.charge (view c.hide_held.new.seat) c.requires.fresh
    found.1 c.hide_held.ensures.view

pub returns-in-Some-clause-does : goal.returns-in-Some-clause-does
returns-in-Some-clause-does g c =
    let mine = record_in c.args.name (view c.acquire_at.new.seat).records in (
      c.in-Some.field-0,
      stamp_in mine,
      inr (record {
        between = c.acquire_at.new.effort;
        held = c.acquire_at.new.seat;
        catches = c.in-Some.ensures.catches;
        holds =
            let found = c.in-Some.ensures.found in
            found_asked c.requires.fresh found.1;
        entry = stamp_is _ mine c.hide_held.ensures.view;
        hides = c.hide_held.ensures.hides;
      }),
      stamp_dead _ _ mine c.hide_held.ensures.view,
    )

pub returns-in-None-clause-does : goal.returns-in-None-clause-does
returns-in-None-clause-does g c =
    (c.in-None.ensures.passes.0, None, inl (c.in-None.ensures.passes.1, refl, refl), tt)

pub returns-in-None-clause-view : goal.returns-in-None-clause-view
returns-in-None-clause-view g c = erased_none c.requires.idle c.in-None.ensures.missed.0

pub returns-in-None-clause-list : goal.returns-in-None-clause-list
returns-in-None-clause-list g c =
    hands_none (ap (λ (v : View g.row.T.Denot). v.gone) c.in-None.ensures.missed.0.searched.same)
