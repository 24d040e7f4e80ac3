use Rattle.std.proofs.Common.{◌≡◌, ◌+◌, ◌++◌, [], ◌∷◌, true, refl, sym, ap, ◌∙◌}
use Rattle.hcc_word.specs.Word.{is_empty}
use Rattle.hcc_rule.specs.ToldOwners.{made_of}
use Rattle.hcc_table.specs.Steps.{Adds}
use Rattle.hcc_table.proofs.Logs.{adds_one, adds_then, among_after, begins_then, ends_adds}
use Rattle.hcc_table.proofs.Probings.{neither}
use Rattle.hcc_rule.specs.Seats.{view}
use Rattle.hcc_table.specs.Inserted.{Meets, Tried}
use Rattle.hcc_table.specs.Searched.{Buried, Sought}
use Rattle.hcc_table.proofs.Searches.{searched_refl}
use Rattle.hcc_table.proofs.Inserts.{occupied_client, occupy_meets, tried_there, unshown_there, shown_there}
use Rattle.hcc_table.proofs.inserting.insert_at.Goals as goal
use Rattle.hcc_table.proofs.inserting.insert_at.Goals.{else-is_shown-via-then-is_shown+else-meet, else-is_shown-via-else-is_shown}

pub returns-clause-tries : goal.returns-clause-tries
returns-clause-tries g c = elim c.else-is_shown.branch [
  | else-is_shown-via-then-is_shown+else-meet w ↦ (
    (w.meet.ensures.passes w.if-meet.false).0,
    record {
      seen = c.occupy_at-found.result;
      mid = c.occupy_at-found.new.seat;
      first = (
        c.occupy_at-found.ensures.step,
        c.occupy_at-found.ensures.view,
        sym c.if-is_free.ensures,
        c.occupy_at-found.ensures.event,
      );
      unshown = λ unseen. neither _ (sym w.if-is_shown.ensures) unseen;
      shown = λ _. rw (w.seat-is, w.effort-is) (w.meet.ensures.passes w.if-meet.false).1;
    },
  )
  | else-is_shown-via-else-is_shown w ↦ (
    c.occupy_at-found.result,
    record {
      seen = c.occupy_at-found.result;
      mid = c.occupy_at-found.new.seat;
      first = (
        c.occupy_at-found.ensures.step,
        c.occupy_at-found.ensures.view,
        sym c.if-is_free.ensures,
        c.occupy_at-found.ensures.event,
      );
      unshown = λ _. (refl, w.effort-is, w.seat-is);
      shown = λ shown. neither _ shown (sym w.if-is_shown.ensures);
    },
  )
]

pub returns-clause-adds : goal.returns-clause-adds
returns-clause-adds g c = elim c.else-is_shown.branch [
  | else-is_shown-via-then-is_shown+else-meet w ↦ rw w.seat-is
      (adds_then c.args.seat.now c.occupy_at-found.new.seat w.meet.new.seat occupied
      w.meet.ensures.adds)
  | else-is_shown-via-else-is_shown w ↦ rw w.seat-is occupied
]
  where
    occupied : Adds c.args.seat.now c.occupy_at-found.new.seat
    occupied =
        adds_one _ c.args.seat.now c.occupy_at-found.new.seat c.occupy_at-found.ensures.step.step

pub returns-clause-view : goal.returns-clause-view
returns-clause-view g c = (tried.0, tried.1, buried)
  where
    kept : Sought (view c.occupy_at-found.new.seat) (view c.else-is_shown.seat)
    kept = elim c.else-is_shown.branch [
      | else-is_shown-via-then-is_shown+else-meet w ↦ rw w.seat-is w.meet.ensures.view
      | else-is_shown-via-else-is_shown w ↦ rw w.seat-is
          (searched_refl (view c.occupy_at-found.new.seat))
    ]

    tried : Tried (view c.args.seat.now) (view c.else-is_shown.seat)
        × ((view c.else-is_shown.seat).saw ≡ (view c.args.seat.now).saw + 1)
    tried =
        tried_there c.args.at.slot c.occupy_at-found.result (sym c.if-is_free.ensures)
        c.occupy_at-found.ensures.view kept

    buried : Buried c.args.draft.key (λ s. s ≡ c.args.at.slot) (view c.args.seat.now)
        (view c.else-is_shown.seat)
    buried = elim c.else-is_shown.branch [
      | else-is_shown-via-then-is_shown+else-meet w ↦ rw w.seat-is (shown_there c.args.draft.key
          c.args.at.slot c.occupy_at-found.result (view c.args.seat.now) (view w.meet.new.seat)
          (sym c.if-is_free.ensures) c.occupy_at-found.ensures.view
          (w.meet.ensures.dead w.if-meet.false))
      | else-is_shown-via-else-is_shown w ↦ rw w.seat-is (unshown_there c.args.draft.key
          (sym c.if-is_free.ensures) (sym w.if-is_shown.ensures) c.occupy_at-found.ensures.backs
          c.occupy_at-found.ensures.view)
    ]

pub returns-then-meet-clause-view : goal.returns-then-meet-clause-view
returns-then-meet-clause-view g c = (
  tried.0,
  tried.1,
  (met.0, met.1 ∙ ap (λ ks. ks ++ met.0 ++ c.args.draft.key ∷ []) same),
)
  where
    tried : Tried (view c.args.seat.now) (view c.meet.new.seat)
        × ((view c.meet.new.seat).saw ≡ (view c.args.seat.now).saw + 1)
    tried =
        tried_there c.args.at.slot c.occupy_at-found.result (sym c.if-is_free.ensures)
        c.occupy_at-found.ensures.view c.meet.ensures.view

    met : Meets c.args.draft.key (view c.occupy_at-found.new.seat) (view c.meet.new.seat)
    met = c.meet.ensures.met c.if-meet.true

    same : (view c.occupy_at-found.new.seat).met ≡ (view c.args.seat.now).met
    same = occupy_meets c.args.at.slot c.occupy_at-found.result (view c.args.seat.now)
        (sym c.if-is_free.ensures) c.occupy_at-found.ensures.view

pub returns-then-meet-clause-matched : goal.returns-then-meet-clause-matched
returns-then-meet-clause-matched g c _ =
    let uses = c.meet.ensures.matched c.if-meet.true in
    let occupied = adds_one _ c.args.seat.now c.occupy_at-found.new.seat
    c.occupy_at-found.ensures.step.step in (
      uses.0,
      uses.1,
      among_after _ c.args.seat.now c.occupy_at-found.new.seat c.meet.new.seat occupied uses.2,
      among_after _ c.args.seat.now c.occupy_at-found.new.seat c.meet.new.seat occupied uses.3,
    )

pub returns-then-is_free-clause-tries : goal.returns-then-is_free-clause-tries
returns-then-is_free-clause-tries g c = (
  refl,
  refl,
  (
    c.occupy_at-found.result,
    empty,
    begins_then _ c.args.seat.now c.occupy_at-found.new.seat c.build.new.seat
        c.occupy_at-found.ensures.step.step
        (ends_adds _ c.occupy_at-found.new.seat c.build.new.seat c.build.ensures.shown),
  ),
  record {
    word = c.occupy_at-found.result;
    empty = empty;
    took = c.occupy_at-found.new.seat;
    takes = c.occupy_at-found.ensures.event;
    same = occupied_client c.args.at.slot c.occupy_at-found.result (view c.args.seat.now) empty
        c.occupy_at-found.ensures.view;
    made = made_of c.args.draft c.args.value.now;
    asked = refl;
    called = c.args.draft.name;
    builds = c.build.ensures.builds;
  },
)
  where
    empty : is_empty c.occupy_at-found.result ≡ true
    empty = sym c.is_free.ensures ∙ c.if-is_free.true

pub returns-then-meet-clause-tries : goal.returns-then-meet-clause-tries
returns-then-meet-clause-tries g c = record {
  seen = c.occupy_at-found.result;
  mid = c.occupy_at-found.new.seat;
  first = (
    c.occupy_at-found.ensures.step,
    c.occupy_at-found.ensures.view,
    sym c.if-is_free.ensures,
    c.occupy_at-found.ensures.event,
  );
  shown = sym c.if-is_shown.ensures;
  word = (c.meet.ensures.uses c.if-meet.true).0;
  uses = (c.meet.ensures.uses c.if-meet.true).1;
}

pub returns-then-meet-clause-adds : goal.returns-then-meet-clause-adds
returns-then-meet-clause-adds g c =
    adds_then c.args.seat.now c.occupy_at-found.new.seat c.meet.new.seat
    (adds_one _ c.args.seat.now c.occupy_at-found.new.seat c.occupy_at-found.ensures.step.step)
    c.meet.ensures.adds
