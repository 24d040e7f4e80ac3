use Rattle.std.proofs.Common.{◌≡◌, refl, sym}
use Rattle.hcc_rule.specs.declared.view.Atomic.{Atomic}
use Rattle.hcc_rule.specs.Addresses.{address_of_meta}
use Rattle.hcc_rule.specs.Seats.{atomic, view}
use Rattle.hcc_table.specs.Steps.{Adds, AddsUnmarked}
use Rattle.hcc_table.proofs.Logs.{adds_none, adds_one, adds_then, among_at, among_first, among_then, begins_adds, light, unmarked_adds, unmarked_none, unmarked_one, unmarked_then}
use Rattle.hcc_rule.specs.Words.{key_of}
use Rattle.hcc_table.proofs.Reaches.{all_reached}
use Rattle.hcc_table.proofs.Searches.{searched_refl}
use Rattle.hcc_table.proofs.Seeking.{seeks_none, seeks_one, seeks_then}
use Rattle.hcc_table.proofs.Probes.{strayed, holds, holds_slot, holds_used, told_key, given_back, met_there, missed_there, on_told}
use Rattle.hcc_table.proofs.Probings.{neither, other_then, visible_has}
use Rattle.hcc_table.proofs.inserting.meet.Goals as goal

pub returns-then-not-has_entry-clause-view : goal.returns-then-not-has_entry-clause-view
returns-then-not-has_entry-clause-view g c =
    (strayed (searched_refl (view c.args.seat.now)) c.reach-found.ensures.view c.args.key
    (sym c.if-not-has_entry.ensures)).0

pub returns-then-not-has_entry-clause-dead : goal.returns-then-not-has_entry-clause-dead
returns-then-not-has_entry-clause-dead g c = λ _.
    (strayed (searched_refl (view c.args.seat.now)) c.reach-found.ensures.view c.args.key
    (sym c.if-not-has_entry.ensures)).1

pub matches-requires-clause-holds : goal.matches-requires-clause-holds
matches-requires-clause-holds g c = λ _.
    holds_slot (searched_refl (view c.args.seat.now)) c.reach-found.ensures.view
    (sym c.if-not-has_entry.ensures) c.requires.fresh (searched_refl (view c.reach-found.new.seat))

pub let_go-requires-clause-holds : goal.let_go-requires-clause-holds
let_go-requires-clause-holds g c =
    holds_used (searched_refl (view c.args.seat.now)) c.reach-found.ensures.view
    (sym c.if-not-has_entry.ensures) c.requires.fresh c.matches.ensures.view c.is_counting.ensures

pub returns-then-matches-clause-view : goal.returns-then-matches-clause-view
returns-then-matches-clause-view g c =
    given_back (searched_refl (view c.args.seat.now)) c.reach-found.ensures.view
    (sym c.if-not-has_entry.ensures) c.requires.fresh c.let_go.ensures.left.found
    c.matches.ensures.view c.let_go.ensures.left.view

pub returns-then-matches-clause-met : goal.returns-then-matches-clause-met
returns-then-matches-clause-met g c = λ _.
    met_there (searched_refl (view c.args.seat.now)) c.reach-found.ensures.view
    (sym c.if-not-has_entry.ensures) c.requires.fresh c.let_go.ensures.left.found
    (view c.matches.new.seat) (c.matches.ensures.shown c.if-matches.true)
    (told_key (searched_refl (view c.args.seat.now)) c.reach-found.ensures.view
    (sym c.if-not-has_entry.ensures) c.requires.fresh (λ e. key_of e ≡ c.args.key)
    (c.matches.ensures.equal c.if-matches.true)) (c.matches.ensures.met c.if-matches.true)
    c.let_go.ensures.left.view

pub give_at-requires-clause-holds : goal.give_at-requires-clause-holds
give_at-requires-clause-holds g c =
    holds (searched_refl (view c.args.seat.now)) c.reach-found.ensures.view
    (sym c.if-not-has_entry.ensures) c.requires.fresh c.matches.ensures.view

pub returns-clause-view : goal.returns-clause-view
returns-clause-view g c =
    given_back (searched_refl (view c.args.seat.now)) c.reach-found.ensures.view
    (sym c.if-not-has_entry.ensures) c.requires.fresh c.give_at.result c.matches.ensures.view
    c.give_at.ensures.view

pub returns-clause-dead : goal.returns-clause-dead
returns-clause-dead g c = λ _.
    (missed_there (searched_refl (view c.args.seat.now)) c.reach-found.ensures.view
    (sym c.if-not-has_entry.ensures) c.requires.fresh c.give_at.result c.matches.ensures.view
    c.give_at.ensures.view (λ shown. told_key (searched_refl (view c.args.seat.now))
    c.reach-found.ensures.view (sym c.if-not-has_entry.ensures) c.requires.fresh
    (λ e. ¬ (key_of e ≡ c.args.key)) (c.matches.ensures.other c.if-matches.false shown))).1

pub returns-then-matches-clause-matched : goal.returns-then-matches-clause-matched
returns-then-matches-clause-matched g c _ = (
  c.reach-found.result,
  c.let_go.ensures.left.found,
  among_then got c.args.seat.now c.matches.new.seat c.let_go.new.seat (among_then got
      c.args.seat.now c.reach-found.new.seat c.matches.new.seat
      (among_first got c.args.seat.now c.reach-found.new.seat c.reach-found.ensures.acquires.first)
      (unmarked_adds c.matches.ensures.adds))
      (adds_one _ c.matches.new.seat c.let_go.new.seat c.let_go.ensures.left.step.step),
  rw (← c.is_counting.ensures) (among_at _ c.args.seat.now c.matches.new.seat c.let_go.new.seat
      c.let_go.new.seat before c.let_go.ensures.left.step.step
      (adds_none c.let_go.new.seat c.let_go.new.seat refl)),
)
  where
    got : Atomic
    got =
        atomic (address_of_meta c.args.table.now c.args.at.slot) c.args.weight 0
        c.reach-found.result

    before : Adds c.args.seat.now c.matches.new.seat
    before =
        adds_then c.args.seat.now c.reach-found.new.seat c.matches.new.seat (begins_adds got
        c.args.seat.now c.reach-found.new.seat c.reach-found.ensures.acquires.first)
        (unmarked_adds c.matches.ensures.adds)

pub returns-then-matches-clause-uses : goal.returns-then-matches-clause-uses
returns-then-matches-clause-uses g c _ = (
  c.reach-found.result,
  record {
    mid = c.reach-found.new.seat;
    reaches = all_reached c.reach-found.ensures.view c.reach-found.ensures.acquires
        c.reach-found.ensures.corrects c.reach-found.ensures.by;
    visible = c.matches.ensures.shown c.if-matches.true;
    same = on_told (searched_refl (view c.args.seat.now)) c.reach-found.ensures.view
        (sym c.if-not-has_entry.ensures) c.requires.fresh (λ e. key_of e ≡ c.args.key)
        (c.matches.ensures.equal c.if-matches.true);
    held = c.matches.new.seat;
    loads = c.matches.ensures.loads c.if-matches.true;
    left = c.let_go.ensures.left.found;
    gives = rw (← c.is_counting.ensures) c.let_go.ensures.left.step;
    seeks = c.matches.ensures.seeks;
    by = (c.let_go.ensures.by.0, rw (← c.is_counting.ensures) c.let_go.ensures.by.2);
  },
)

pub returns-then-not-has_entry-clause-passes : goal.returns-then-not-has_entry-clause-passes
returns-then-not-has_entry-clause-passes g c _ = (
  c.reach-found.result,
  record {
    mid = c.reach-found.new.seat;
    reaches = all_reached c.reach-found.ensures.view c.reach-found.ensures.acquires
        c.reach-found.ensures.corrects c.reach-found.ensures.by;
    adds = unmarked_none refl;
    seeks = seeks_none c.args.table.now c.reach-found.new.seat;
    kept = returns-then-not-has_entry-clause-view g c;
    other = λ shown. neither _ (visible_has c.reach-found.result shown)
        (sym c.if-not-has_entry.ensures);
    loads = λ shown. neither _ (visible_has c.reach-found.result shown)
        (sym c.if-not-has_entry.ensures);
  },
)

pub returns-clause-passes : goal.returns-clause-passes
returns-clause-passes g c _ = (
  c.reach-found.result,
  record {
    mid = c.reach-found.new.seat;
    reaches = all_reached c.reach-found.ensures.view c.reach-found.ensures.acquires
        c.reach-found.ensures.corrects c.reach-found.ensures.by;
    adds = unmarked_then c.matches.ensures.adds given;
    seeks = seeks_then c.args.table.now _ _ _ c.matches.ensures.seeks (seeks_one c.args.table.now _
        c.matches.new.seat c.give_at.new.seat c.give_at.ensures.event refl);
    kept = returns-clause-view g c;
    other = λ shown. on_told (searched_refl (view c.args.seat.now)) c.reach-found.ensures.view
        (sym c.if-not-has_entry.ensures) c.requires.fresh (λ e. ¬ (key_of e ≡ c.args.key))
        (c.matches.ensures.other c.if-matches.false shown);
    loads = λ shown. other_then c.args.table.now c.args.at.slot c.reach-found.new.seat
        c.matches.new.seat c.give_at.new.seat (c.matches.ensures.differs c.if-matches.false shown)
        (unmarked_adds given);
  },
)
  where
    given : AddsUnmarked c.matches.new.seat c.give_at.new.seat
    given = unmarked_one _ c.give_at.ensures.step.step (light c.requires.weight.1)

pub returns-then-matches-clause-adds : goal.returns-then-matches-clause-adds
returns-then-matches-clause-adds g c =
    adds_then c.args.seat.now c.reach-found.new.seat c.let_go.new.seat
    (begins_adds _ c.args.seat.now c.reach-found.new.seat c.reach-found.ensures.acquires.first)
    (adds_then c.reach-found.new.seat c.matches.new.seat c.let_go.new.seat
    (unmarked_adds c.matches.ensures.adds)
    (adds_one _ c.matches.new.seat c.let_go.new.seat c.let_go.ensures.left.step.step))

pub returns-then-not-has_entry-clause-adds : goal.returns-then-not-has_entry-clause-adds
returns-then-not-has_entry-clause-adds g c =
    begins_adds _ c.args.seat.now c.reach-found.new.seat c.reach-found.ensures.acquires.first

pub returns-clause-adds : goal.returns-clause-adds
returns-clause-adds g c =
    adds_then c.args.seat.now c.reach-found.new.seat c.give_at.new.seat
    (begins_adds _ c.args.seat.now c.reach-found.new.seat c.reach-found.ensures.acquires.first)
    (adds_then c.reach-found.new.seat c.matches.new.seat c.give_at.new.seat
    (unmarked_adds c.matches.ensures.adds)
    (adds_one _ c.matches.new.seat c.give_at.new.seat c.give_at.ensures.step.step))
