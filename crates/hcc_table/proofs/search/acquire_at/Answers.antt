use Rattle.std.proofs.Common.{◌≡◌, false, true, refl, sym, arith, rules}
use Rattle.hcc_rule.specs.Addresses.{address_of_meta}
use Rattle.hcc_rule.specs.Seats.{atomic, view}
use Rattle.hcc_rule.specs.Words.{key_of}
use Rattle.hcc_table.proofs.Logs.{adds_one, among_after, among_first, among_then, light, unmarked_adds, unmarked_one, unmarked_then, unmarked_zero}
use Rattle.hcc_table.proofs.Probes.{looked_at, buried_by_look, given_back, strayed, holds, holds_slot, told_key, missed_there, found_there, got_record, on_told}
use Rattle.hcc_table.proofs.Probings.{neither, other_then, stray_unshown, visible_has}
use Rattle.hcc_table.proofs.Reaches.{all_reached}
use Rattle.hcc_table.proofs.Searches.{searched_refl}
use Rattle.hcc_table.proofs.Seeking.{seeks_one, seeks_then}
use Rattle.hcc_table.proofs.search.acquire_at.Goals as goal

pub returns-then-not-is_shown-clause-missed : goal.returns-then-not-is_shown-clause-missed
returns-then-not-is_shown-clause-missed g c =
    let told = c.look_at-seen.ensures in (
      looked_at c.args.at.slot c.look_at-seen.result _ _ told.view,
      buried_by_look c.args.key (sym c.if-not-is_shown.ensures) told.backs told.view,
    )

pub matches-requires-clause-holds : goal.matches-requires-clause-holds
matches-requires-clause-holds g c shown =
    let looked = looked_at c.args.at.slot c.look_at-seen.result (view c.args.seat.now)
    (view c.look_at-seen.new.seat) c.look_at-seen.ensures.view in
    holds_slot looked c.reach-found.ensures.view (visible_has c.reach-found.result shown)
    c.requires.fresh (searched_refl (view c.reach-found.new.seat))

pub give_at-requires-clause-holds : goal.give_at-requires-clause-holds
give_at-requires-clause-holds g c =
    let looked = looked_at c.args.at.slot c.look_at-seen.result (view c.args.seat.now)
    (view c.look_at-seen.new.seat) c.look_at-seen.ensures.view in
    holds looked c.reach-found.ensures.view (sym c.if-not-has_entry.ensures) c.requires.fresh
    c.matches.ensures.view

pub returns-then-not-is_shown-clause-adds : goal.returns-then-not-is_shown-clause-adds
returns-then-not-is_shown-clause-adds g c = unmarked_zero c.look_at-seen.ensures.step

pub returns-then-not-is_shown-clause-passes : goal.returns-then-not-is_shown-clause-passes
returns-then-not-is_shown-clause-passes g c = (
  c.look_at-seen.result,
  record {
    seen = c.look_at-seen.result;
    mid = c.look_at-seen.new.seat;
    first = (
      c.look_at-seen.ensures.step,
      c.look_at-seen.ensures.view,
      c.look_at-seen.ensures.event,
    );
    unshown = λ _. (refl, refl, refl);
    shown = λ shown. neither _ shown (sym c.if-not-is_shown.ensures);
  },
)

pub returns-then-not-has_entry : goal.returns-then-not-has_entry
returns-then-not-has_entry g c =
    let look = c.look_at-seen.ensures in
    let reach = c.reach-found.ensures in
    let matched = c.matches.ensures in
    let stray = sym c.if-not-has_entry.ensures in
    let looked = looked_at c.args.at.slot c.look_at-seen.result (view c.args.seat.now)
    (view c.look_at-seen.new.seat) look.view in
    let still = matched.unshown (stray_unshown c.reach-found.result stray) in
    let first = look.step.one in
    let second = reach.steps in
    let third = matched.steps in
    record {
      seat = search rules;
      effort = reach.effort;
      found = tt;
      missed = rw still (strayed looked reach.view c.args.key stray);
      passes = (
        c.reach-found.result,
        record {
          seen = c.look_at-seen.result;
          mid = c.look_at-seen.new.seat;
          first = (look.step, look.view, look.event);
          unshown = λ unseen. neither _ (sym c.if-not-is_shown.ensures) unseen;
          shown = λ _. record {
            mid = c.reach-found.new.seat;
            reaches = all_reached reach.view reach.acquires reach.corrects reach.by;
            adds = matched.adds;
            seeks = matched.seeks;
            kept = record {
              searched = rw still reach.view.searched;
              records = rw still (reach.view.stray stray);
            };
            other = λ shown. neither _ (visible_has c.reach-found.result shown) stray;
            loads = λ shown. neither _ (visible_has c.reach-found.result shown) stray;
          };
        },
      );
      catches = tt;
      acquired = tt;
      adds = unmarked_then (unmarked_zero look.step) (unmarked_then reach.adds matched.adds);
      steps = omega arith;
      fewer = tt;
    }

pub returns-then-matches : goal.returns-then-matches
returns-then-matches g c =
    let look = c.look_at-seen.ensures in
    let reach = c.reach-found.ensures in
    let matched = c.matches.ensures in
    let fresh = c.requires.fresh in
    let shown = matched.shown c.if-matches.true in
    let has = visible_has c.reach-found.result shown in
    let equal = matched.equal c.if-matches.true in
    let looked = looked_at c.args.at.slot c.look_at-seen.result (view c.args.seat.now)
    (view c.look_at-seen.new.seat) look.view in
    let asked = told_key looked reach.view has fresh (λ e. key_of e ≡ c.args.key) equal in
    let one = atomic (address_of_meta c.args.table.now c.args.at.slot) 1 0 c.reach-found.result in
    let first = look.step.one in
    let second = reach.steps in
    let third = matched.steps in
    record {
      seat = search rules;
      effort = reach.effort;
      found = (
        got_record looked reach.view has fresh,
        found_there looked reach.view has fresh refl shown asked matched.view
            (matched.met c.if-matches.true),
        refl,
      );
      missed = tt;
      passes = tt;
      catches = record {
        seen = c.look_at-seen.result;
        looked = c.look_at-seen.new.seat;
        first = (look.step, look.view, look.event);
        shown = sym c.if-not-is_shown.ensures;
        mid = c.reach-found.new.seat;
        reaches = all_reached reach.view reach.acquires reach.corrects reach.by;
        visible = shown;
        same = on_told looked reach.view has fresh (λ e. key_of e ≡ c.args.key) equal;
        loads = matched.loads c.if-matches.true;
        seeks = matched.seeks;
        kept = matched.view;
      };
      acquired = among_after one c.args.seat.now c.look_at-seen.new.seat c.matches.new.seat
          (adds_one _ c.args.seat.now c.look_at-seen.new.seat look.step.step) (among_then one
          c.look_at-seen.new.seat c.reach-found.new.seat c.matches.new.seat
          (among_first one c.look_at-seen.new.seat c.reach-found.new.seat reach.acquires.first)
          (unmarked_adds matched.adds));
      adds = unmarked_then (unmarked_zero look.step) (unmarked_then reach.adds matched.adds);
      steps = omega arith;
      fewer = omega arith;
    }

pub returns : goal.returns
returns g c =
    let look = c.look_at-seen.ensures in
    let reach = c.reach-found.ensures in
    let matched = c.matches.ensures in
    let give = c.give_at.ensures in
    let fresh = c.requires.fresh in
    let has = sym c.if-not-has_entry.ensures in
    let looked = looked_at c.args.at.slot c.look_at-seen.result (view c.args.seat.now)
    (view c.look_at-seen.new.seat) look.view in
    let given = unmarked_one _ give.step.step (light (omega arith)) in
    let first = look.step.one in
    let second = reach.steps in
    let third = matched.steps in
    let last = give.step.one in
    record {
      seat = search rules;
      effort = reach.effort;
      found = tt;
      missed = missed_there looked reach.view has fresh c.give_at.result matched.view give.view
          (λ shown. told_key looked reach.view has fresh (λ e. ¬ (key_of e ≡ c.args.key))
          (matched.other c.if-matches.false shown));
      passes = (
        c.reach-found.result,
        record {
          seen = c.look_at-seen.result;
          mid = c.look_at-seen.new.seat;
          first = (look.step, look.view, look.event);
          unshown = λ unseen. neither _ (sym c.if-not-is_shown.ensures) unseen;
          shown = λ _. record {
            mid = c.reach-found.new.seat;
            reaches = all_reached reach.view reach.acquires reach.corrects reach.by;
            adds = unmarked_then matched.adds given;
            seeks = seeks_then c.args.table.now _ _ _ matched.seeks (seeks_one c.args.table.now _
                c.matches.new.seat c.give_at.new.seat give.event refl);
            kept = given_back (searched_refl (view c.look_at-seen.new.seat)) reach.view has
                (rw look.view fresh) c.give_at.result matched.view give.view;
            other = λ shown. on_told looked reach.view has fresh (λ e. ¬ (key_of e ≡ c.args.key))
                (matched.other c.if-matches.false shown);
            loads = λ shown. other_then c.args.table.now c.args.at.slot c.reach-found.new.seat
                c.matches.new.seat c.give_at.new.seat (matched.differs c.if-matches.false shown)
                (unmarked_adds given);
          };
        },
      );
      catches = tt;
      acquired = tt;
      adds = unmarked_then (unmarked_zero look.step)
          (unmarked_then reach.adds (unmarked_then matched.adds given));
      steps = omega arith;
      fewer = tt;
    }
