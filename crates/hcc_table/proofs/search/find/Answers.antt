use Rattle.std.proofs.Common.{◌≡◌, ◌+◌, ◌<◌, ◌≤◌, ap, refl, subst, sym, ◌∙◌, arith, rules}
use Rattle.hcc_word.specs.Word.{hit_of}
use Rattle.hcc_table.specs.Efforts.{Took, VisitedSlots}
use Rattle.hcc_rule.specs.declared.view.Atomic.{Atomic}
use Rattle.hcc_rule.specs.Addresses.{address_of_meta}
use Rattle.hcc_rule.specs.Seats.{atomic, view}
use Rattle.hcc_table.specs.Steps.{AddsUnmarked, Among}
use Rattle.hcc_table.proofs.Logs.{adds_none, among_after, among_then, ends_after, unmarked_adds, unmarked_none, unmarked_then, unmarked_zero}
use Rattle.hcc_table.proofs.Rises.{counted_probes, took_then, took_probes}
use Rattle.hcc_table.proofs.Searches.{searched_refl}
use Rattle.hcc_rule.specs.Records.{record_in}
use Rattle.hcc_rule.proofs.Probes.ProbeLaws.{some_slots}
use Rattle.hcc_table.proofs.Finds.{begins, goes_on, ends, ends_all, seat_then}
use Rattle.hcc_table.proofs.Probes.{found_stands, found_then}
use Rattle.hcc_table.proofs.Probings.{finds_here, marks_add, misses_all, misses_here, passed_none, passed_then}
use Rattle.hcc_table.proofs.search.find.Goals as goal

pub mark_if-requires-clause-holds : goal.mark_if-requires-clause-holds
mark_if-requires-clause-holds g c =
    let found = c.in-Some.ensures.found in
    found_stands c.requires.fresh found.1

pub returns-in-Some-clause-found : goal.returns-in-Some-clause-found
returns-in-Some-clause-found g c =
    let found = c.in-Some.ensures.found in (
      found.0,
      found_then _ _ _ _ _ _ _ _ _ found.0 (searched_refl (view c.args.seat.now)) found.1
          c.mark_if.ensures.view,
      found.2 ∙ sym c.is_counting.ensures,
    )

pub returns-in-Some-clause-searches : goal.returns-in-Some-clause-searches
returns-in-Some-clause-searches g c =
    let counted = c.probes.ensures in (
      c.in-Some.found,
      finds_here (passed_none g.T.Tag.fits c.args.table.now c.args.key c.args.name c.args.effort.now
          c.args.seat.now) (c.slot-home.ensures ∙ (begins c.args.table.now.geometry.slots c.args.key
          c.args.table.now.limits.power c.begin-walk.result c.args.seat.now
          c.begin-walk.ensures.probe c.begin-walk.ensures.stride
          (rw (← c.geometry-slots.ensures) c.begin-walk.ensures.mask)).walking.probe)
          c.in-Some.ensures.catches (counted.probes, counted.corrections, counted.lost)
          c.mark_if.ensures.marked c.mark_if.ensures.unmarked c.mark_if.ensures.unasked
          c.mark_if.ensures.by c.mark_if.ensures.view,
      c.is_counting.ensures,
    )

pub returns-in-Some-clause-acquired : goal.returns-in-Some-clause-acquired
returns-in-Some-clause-acquired g c = (
  c.in-Some.found,
  c.in-Some.ensures.catches.visible,
  c.is_counting.ensures,
  among_then (atomic (address_of_meta c.args.table.now c.slot-home.result) 1 0 c.in-Some.found)
      c.args.seat.now c.acquire_at.new.seat c.mark_if.new.seat c.in-Some.ensures.acquired (marks_add
      c.args.marks (hit_of c.in-Some.found) c.mark_if.ensures.marked c.mark_if.ensures.unmarked
      c.mark_if.ensures.unasked),
)

pub returns-in-Some-clause-steps : goal.returns-in-Some-clause-steps
returns-in-Some-clause-steps g c =
    let slots = c.args.table.now.geometry.slots in
    let some : 0 < slots = some_slots slots c.args.table.now.limits.power in
    let held = c.acquire_at.ensures.steps in
    let last = c.mark_if.ensures.steps in
    record {
      visited = 1;
      within = omega arith;
      counted = counted_probes 1 1 c.probes.new.self c.acquire_at.ensures.effort
          c.probes.ensures.probes;
      steps = omega arith;
    }

pub loop-probe-init : goal.loop-probe-init
loop-probe-init g c =
    let table = c.args.table.now in
    let told = c.count_at.ensures in
    let start = (begins c.args.table.now.geometry.slots c.args.key c.args.table.now.limits.power
    c.begin-walk.result c.args.seat.now c.begin-walk.ensures.probe c.begin-walk.ensures.stride
    (rw (← c.geometry-slots.ensures) c.begin-walk.ensures.mask)) in (
      goes_on start c.slot-home.ensures table.limits.power c.count_at.result
          c.acquire_at.ensures.seat told.seat c.in_default.ensures.missed told.view told.held
          told.within c.beyond.ensures refl refl,
      c.acquire_at.ensures.effort,
      (let held = c.acquire_at.ensures.steps in let one = told.step.one in omega arith),
      unmarked_then c.acquire_at.ensures.adds (unmarked_zero told.step),
      passed_then
          (passed_none g.T.Tag.fits table c.args.key c.args.name c.args.effort.now c.args.seat.now)
          (c.slot-home.ensures ∙ start.walking.probe) c.in_default.ensures.passes.1 told.step
          told.event told.view c.if-count_at-eq0.false,
    )

pub loop-probe-preserved : goal.loop-probe-preserved
loop-probe-preserved g c =
    let table = c.args.table.now in
    let told = c.count_at-in-loop-probe.ensures in
    let next = c.next-walk.ensures in (
      goes_on c.loop-probe.invariant.0 c.slot-slot.ensures table.limits.power
          c.count_at-in-loop-probe.result c.acquire_at-in-loop-probe.ensures.seat told.seat
          c.in_default-acquire_at.ensures.missed told.view told.held told.within next.probe
          next.stride next.mask,
      visited,
      (let so_far = c.loop-probe.invariant.2 in let held = c.acquire_at-in-loop-probe.ensures.steps
          in
          let one = told.step.one in omega arith),
      unmarked_then (unmarked_then c.loop-probe.invariant.3 c.acquire_at-in-loop-probe.ensures.adds)
          (unmarked_zero told.step),
      passed_then c.loop-probe.invariant.4
          (c.slot-slot.ensures ∙ c.loop-probe.invariant.0.walking.probe)
          c.in_default-acquire_at.ensures.passes.1 told.step told.event told.view
          c.if-count_at-eq0-2.false,
    )
  where
    visited : Took 0 0 (c.loop-probe.probe + 1) c.args.effort.now
        c.acquire_at-in-loop-probe.new.effort
    visited =
        took_then c.loop-probe.probe 1 c.loop-probe.invariant.1
        c.acquire_at-in-loop-probe.ensures.effort (omega arith)

pub mark_if-requires-in-Some-acquire_at-clause-holds :
    goal.mark_if-requires-in-Some-acquire_at-clause-holds
mark_if-requires-in-Some-acquire_at-clause-holds g c =
    let found = c.in-Some-acquire_at.ensures.found in
    found_stands
    (ap (record_in c.args.name) c.loop-probe.invariant.0.sought.records ∙ c.requires.fresh) found.1

pub returns-then-count_at-eq0 : goal.returns-then-count_at-eq0
returns-then-count_at-eq0 g c =
    let table = c.args.table.now in
    let slots = table.geometry.slots in
    let told = c.count_at.ensures in
    let counted = c.probes-then-count_at-eq0.ensures in
    let start = begins slots c.args.key table.limits.power c.begin-walk.result c.args.seat.now
    c.begin-walk.ensures.probe c.begin-walk.ensures.stride
    (rw (← c.geometry-slots.ensures) c.begin-walk.ensures.mask) in
    let some : 0 < slots = some_slots slots table.limits.power in
    let tried = c.acquire_at.ensures.steps in
    let last = told.step.one in
    record {
      seat = seat_then _ _ _ c.acquire_at.ensures.seat told.seat;
      effort = took_probes 1 1 c.acquire_at.ensures.effort counted.probes counted.corrections
          counted.lost (omega arith) (omega arith) (omega arith);
      pin = tt;
      held = tt;
      found = tt;
      missed = ends start c.slot-home.ensures table.limits.power c.count_at.result
          c.acquire_at.ensures.seat told.seat c.in_default.ensures.missed told.view told.held
          told.within c.if-count_at-eq0.true;
      searches = misses_here
          (passed_none g.T.Tag.fits table c.args.key c.args.name c.args.effort.now c.args.seat.now)
          (c.slot-home.ensures ∙ start.walking.probe) c.in_default.ensures.passes.1 told.step
          told.event told.view c.if-count_at-eq0.true
          (counted.probes, counted.corrections, counted.lost);
      acquired = tt;
      marked = λ _. tt;
      unmarked = λ _. unmarked_then c.acquire_at.ensures.adds (unmarked_zero told.step);
      steps = record {
        visited = 1;
        within = omega arith;
        counted = counted_probes 1 1 c.probes-then-count_at-eq0.new.self c.acquire_at.ensures.effort
            counted.probes;
        steps = omega arith;
      };
    }

pub returns-then-count_at-eq0-2 : goal.returns-then-count_at-eq0-2
returns-then-count_at-eq0-2 g c =
    let table = c.args.table.now in
    let i = c.loop-probe.probe in
    let slots = table.geometry.slots in
    let low : i < slots = rw (← c.geometry-slots.ensures) c.loop-probe-test.true in
    let searching = c.loop-probe.invariant.0 in
    let told = c.count_at-in-loop-probe.ensures in
    let counted = c.probes-then-count_at-eq0-2.ensures in
    let so_far = c.loop-probe.invariant.2 in
    let tried = c.acquire_at-in-loop-probe.ensures.steps in
    let last = told.step.one in
    let took : Took 0 0 (i + 1) c.args.effort.now c.acquire_at-in-loop-probe.new.effort = took_then
    i 1 c.loop-probe.invariant.1 c.acquire_at-in-loop-probe.ensures.effort (omega arith) in
    record {
      seat = seat_then _ _ _ searching.same
          (seat_then _ _ _ c.acquire_at-in-loop-probe.ensures.seat told.seat);
      effort = took_probes (i + 1) (i + 1) took counted.probes counted.corrections counted.lost
          (omega arith) (omega arith) (omega arith);
      pin = tt;
      held = tt;
      found = tt;
      missed = ends searching c.slot-slot.ensures table.limits.power c.count_at-in-loop-probe.result
          c.acquire_at-in-loop-probe.ensures.seat told.seat c.in_default-acquire_at.ensures.missed
          told.view told.held told.within c.if-count_at-eq0-2.true;
      searches = misses_here c.loop-probe.invariant.4
          (c.slot-slot.ensures ∙ searching.walking.probe) c.in_default-acquire_at.ensures.passes.1
          told.step told.event told.view c.if-count_at-eq0-2.true
          (counted.probes, counted.corrections, counted.lost);
      acquired = tt;
      marked = λ _. tt;
      unmarked = λ _. unmarked_then
          (unmarked_then c.loop-probe.invariant.3 c.acquire_at-in-loop-probe.ensures.adds)
          (unmarked_zero told.step);
      steps = record {
        visited = i + 1;
        within = omega arith;
        counted = counted_probes (i + 1) (i + 1) c.probes-then-count_at-eq0-2.new.self took
            counted.probes;
        steps = omega arith;
      };
    }

pub returns : goal.returns
returns g c =
    let table = c.args.table.now in
    let i = c.loop-probe.probe in
    let size = c.geometry-slots.ensures in
    let slots = table.geometry.slots in
    let some : 0 < slots = some_slots slots table.limits.power in
    let past : slots ≤ i = rw (← size) c.loop-probe-test.false in
    let most : i ≤ slots = rw (← size) (c.loop-probe.auto.probe-end (rw size some)) in
    let all : i ≡ slots = omega arith in
    let searching = c.loop-probe.invariant.0 in
    let so_far = c.loop-probe.invariant.2 in
    let counted : VisitedSlots slots c.loop-probe.effort c.probes-2.new.self = (
      rw (← size) c.probes-2.ensures.probes,
      c.probes-2.ensures.corrections,
      c.probes-2.ensures.lost,
    ) in
    record {
      seat = searching.same;
      effort = took_probes slots i c.loop-probe.invariant.1 counted.0 counted.1 counted.2
          (omega arith) (omega arith) (omega arith);
      pin = tt;
      held = tt;
      found = tt;
      missed = ends_all table.limits.power some past most searching;
      searches = misses_all c.loop-probe.invariant.4 (omega arith) all
          (subst (λ n. VisitedSlots n c.loop-probe.effort c.probes-2.new.self) (sym all) counted);
      acquired = tt;
      marked = λ _. tt;
      unmarked = λ _. c.loop-probe.invariant.3;
      steps = record {
        visited = slots;
        within = omega arith;
        counted = counted_probes slots i c.probes-2.new.self c.loop-probe.invariant.1 counted.0;
        steps = omega arith;
      };
    }

pub returns-in-Some-acquire_at : goal.returns-in-Some-acquire_at
returns-in-Some-acquire_at g c =
    let table = c.args.table.now in
    let i = c.loop-probe.probe in
    let slots = table.geometry.slots in
    let low : i < slots = rw (← c.geometry-slots.ensures) c.loop-probe-test.true in
    let searching = c.loop-probe.invariant.0 in
    let caught = c.in-Some-acquire_at.ensures in
    let found = caught.found in
    let marking = c.mark_if-in-Some-acquire_at.ensures in
    let counted = c.probes-in-Some-acquire_at.ensures in
    let so_far = c.loop-probe.invariant.2 in
    let held = c.acquire_at-in-loop-probe.ensures.steps in
    let last = marking.steps in
    let took : Took 0 0 (i + 1) c.args.effort.now c.acquire_at-in-loop-probe.new.effort = took_then
    i 1 c.loop-probe.invariant.1 c.acquire_at-in-loop-probe.ensures.effort (omega arith) in
    record {
      seat = search rules;
      effort = took_probes (i + 1) (i + 1) took counted.probes counted.corrections counted.lost
          (omega arith) (omega arith) (omega arith);
      pin = search rules;
      held = search rules;
      found = (
        found.0,
        found_then _ _ _ _ _ _ _ _ _ found.0 searching.sought found.1 marking.view,
        found.2 ∙ sym c.is_counting-in-Some-acquire_at.ensures,
      );
      missed = tt;
      searches = (
        c.in-Some-acquire_at.found,
        finds_here c.loop-probe.invariant.4 (c.slot-slot.ensures ∙ searching.walking.probe)
            caught.catches (counted.probes, counted.corrections, counted.lost) marking.marked
            marking.unmarked marking.unasked marking.by marking.view,
        c.is_counting-in-Some-acquire_at.ensures,
      );
      acquired = (
        c.in-Some-acquire_at.found,
        caught.catches.visible,
        c.is_counting-in-Some-acquire_at.ensures,
        among_then got c.args.seat.now c.acquire_at-in-loop-probe.new.seat
            c.mark_if-in-Some-acquire_at.new.seat got_there (marks_add c.args.marks
            (hit_of c.in-Some-acquire_at.found) marking.marked marking.unmarked marking.unasked),
      );
      marked = λ asked. (
        c.in-Some-acquire_at.found,
        λ unhit. let set = marking.marked asked unhit in (
          set.0,
          ends_after _ c.args.seat.now c.acquire_at-in-loop-probe.new.seat
              c.mark_if-in-Some-acquire_at.new.seat (unmarked_adds before) set.1.step,
        ),
        λ hit. among_then got c.args.seat.now c.acquire_at-in-loop-probe.new.seat
            c.mark_if-in-Some-acquire_at.new.seat got_there
            (adds_none c.acquire_at-in-loop-probe.new.seat c.mark_if-in-Some-acquire_at.new.seat
            (marking.unmarked hit)),
      );
      unmarked = λ unasked. unmarked_then before (unmarked_none (marking.unasked unasked));
      steps = record {
        visited = i + 1;
        within = omega arith;
        counted = counted_probes (i + 1) (i + 1) c.probes-in-Some-acquire_at.new.self took
            counted.probes;
        steps = omega arith;
      };
    }
  where
    got : Atomic
    got =
        atomic (address_of_meta c.args.table.now c.slot-slot.result) 1 0 c.in-Some-acquire_at.found

    -- the reference was acquired behind all that was passed
    got_there : Among got c.args.seat.now c.acquire_at-in-loop-probe.new.seat
    got_there =
        among_after got c.args.seat.now c.loop-probe.seat c.acquire_at-in-loop-probe.new.seat
        (unmarked_adds c.loop-probe.invariant.3) c.in-Some-acquire_at.ensures.acquired

    before : AddsUnmarked c.args.seat.now c.acquire_at-in-loop-probe.new.seat
    before = unmarked_then c.loop-probe.invariant.3 c.acquire_at-in-loop-probe.ensures.adds
