use Rattle.std.proofs.Common.{◌+◌, ◌<◌, ◌≤◌, length, refl, sym, ap, subst, arith, rules}
use Rattle.hcc_core.specs.declared.slot.Entry.{Entry}
use Rattle.hcc_rule.specs.Callers.{room_of}
use Rattle.hcc_rule.specs.Seats.{view}
use Rattle.hcc_rule.specs.Words.{words_for}
use Rattle.hcc_rule.proofs.Probes.ProbeLaws.{some_slots}
use Rattle.hcc_table.specs.Optimistic.{Reads, ReadsOptimistic}
use Rattle.hcc_table.specs.Pins.{is_useful}
use Rattle.hcc_table.specs.Searched.{Sought}
use Rattle.hcc_table.proofs.Glances.{reads_then}
use Rattle.hcc_table.proofs.Finds.{begins, ends, ends_all, goes_on, slot_is}
use Rattle.hcc_table.proofs.Loads.{loads_none, loads_seek, loads_then}
use Rattle.hcc_table.proofs.Moments.{lacks_within, led_none, led_then}
use Rattle.hcc_table.proofs.ReadProbes.{count_loads, lacked_all, lacked_each, lacked_more, reads_answered, reads_led, shown_there, there_earlier}
use Rattle.hcc_table.proofs.Rises.{took_visited}
use Rattle.hcc_table.proofs.Searches.{sought_then}
use Rattle.hcc_table.proofs.optimistic.read_optimistic.Goals as goal

pub loop-probe-init : goal.loop-probe-init
loop-probe-init g c = (
  begins c.args.table.now.geometry.slots c.args.key c.args.table.now.limits.power
      c.begin-walk.result c.args.seat.now c.begin-walk.ensures.probe c.begin-walk.ensures.stride
      (rw (← c.geometry-slots.ensures) c.begin-walk.ensures.mask),
  loads_none c.args.table.now c.args.seat.now,
  λ j low. absurd (omega arith),
  omega arith,
  refl,
  refl,
)

pub returns-in_err-got-clause-view : goal.returns-in_err-got-clause-view
returns-in_err-got-clause-view g c =
    sought_then _ _ _ c.loop-probe.invariant.0.sought
    (sought_then _ _ _ c.hint_at.ensures.by.sought c.read_hinted.ensures.by.sought)

pub returns-in_err-got-clause-loads : goal.returns-in_err-got-clause-loads
returns-in_err-got-clause-loads g c =
    loads_then c.args.table.now _ _ _ c.loop-probe.invariant.1
    (loads_then c.args.table.now _ _ _ c.hint_at.ensures.by.loads c.read_hinted.ensures.by.loads)

pub loop-probe-preserved : goal.loop-probe-preserved
loop-probe-preserved g c =
    let table = c.args.table.now in
    let told = c.count_at.ensures in
    let other = c.in_default.ensures.other in
    let so_far = c.loop-probe.invariant.3 in
    let more = c.hint_at.ensures.steps in
    let last = told.step.one in (
      goes_on c.loop-probe.invariant.0 c.slot-slot.ensures table.limits.power c.count_at.result
          c.hint_at.ensures.seat told.seat (c.hint_at.ensures.by.sought, other.0) told.view
          told.held told.within c.next-walk.ensures.probe c.next-walk.ensures.stride
          c.next-walk.ensures.mask,
      loads_then table _ _ _ c.loop-probe.invariant.1
          (loads_then table _ _ _ c.hint_at.ensures.by.loads (count_loads table told.event)),
      lacked_more table c.args.key c.loop-probe.invariant.2 (reads_led table
          (record { loads = c.loop-probe.invariant.1; sought = c.loop-probe.invariant.0.sought }))
          (slot_is c.loop-probe.invariant.0 c.slot-slot.ensures)
          (loads_seek table _ _ c.hint_at.ensures.by.loads) other.1
          (loads_seek table _ _ (count_loads table told.event)),
      omega (arith, so_far, more, last),
      c.loop-probe.invariant.4,
      c.loop-probe.invariant.5,
    )

pub returns-in-Some : goal.returns-in-Some
returns-in-Some g c =
    let table = c.args.table.now in
    let slots = table.geometry.slots in
    let i = c.loop-probe.probe in
    let old = c.args.seat.now in
    let low : i < slots = rw (← c.geometry-slots.ensures) c.loop-probe-test.true in
    let searching = c.loop-probe.invariant.0 in
    let loads = c.loop-probe.invariant.1 in
    let hint = c.hint_at.ensures in
    let hinted = c.read_hinted.ensures.by in
    let behind = loads_then table _ _ _ hint.by.loads hinted.loads in
    let reads = c.in_ok-got.ensures.reads in
    let before : Reads table old c.loop-probe.seat =
    record { loads = loads; sought = searching.sought } in
    let there = there_earlier table c.args.key (reads_then table before hint.by) reads.0 in
    let same = ap (λ (e : Entry). words_for (length e.value)) there.1 in
    let so_far = c.loop-probe.invariant.3 in
    let hints = hint.steps in
    let more = reads.1 in
    let short = reads.0.right.short in
    let few : words_for (length reads.0.entry.value) ≤ room_of table = omega (arith, short) in
    let read = shown_there (slot_is searching c.slot-slot.ensures) low (λ j earlier.
    lacks_within table (led_none table old) (c.loop-probe.invariant.2 j earlier)
    (loads_seek table _ _ behind)) there.0 (omega (arith, so_far, hints, more, same)) in
    let counted = c.probes.ensures in
    let visited = took_visited (i + 1) slots c.loop-probe.invariant.5 counted.probes
    counted.corrections counted.lost (omega arith) (omega arith) in
    record {
      seat = search rules;
      view = sought_then _ _ _ searching.sought (sought_then _ _ _ hint.by.sought hinted.sought);
      loads = loads_then table _ _ _ loads behind;
      reads = subst (λ b. ReadsOptimistic g.T.Tag.fits table c.args.key (is_useful c.args.as_use)
          c.args.marks c.in_ok-got.got b c.read_hinted.new.buffer old c.read_hinted.new.seat)
          c.loop-probe.invariant.4 (reads_answered c.in_ok-got.got read);
      effort = visited.0;
      steps = record {
        visited = i + 1;
        within = omega arith;
        counted = visited.1;
        steps = omega (arith, so_far, hints, more, few);
      };
      declined = tt;
      few = omega (arith, so_far, hints, more, few, low);
    }

pub returns-then-count_at-eq0 : goal.returns-then-count_at-eq0
returns-then-count_at-eq0 g c =
    let table = c.args.table.now in
    let slots = table.geometry.slots in
    let i = c.loop-probe.probe in
    let low : i < slots = rw (← c.geometry-slots.ensures) c.loop-probe-test.true in
    let searching = c.loop-probe.invariant.0 in
    let loads = c.loop-probe.invariant.1 in
    let told = c.count_at.ensures in
    let other = c.in_default.ensures.other in
    let hint = c.hint_at.ensures in
    let before : Reads table c.args.seat.now c.loop-probe.seat =
    record { loads = loads; sought = searching.sought } in
    let behind = count_loads table told.event in
    let so_far = c.loop-probe.invariant.3 in
    let more = hint.steps in
    let last = told.step.one in
    let counted = c.probes-then-count_at-eq0.ensures in
    let visited = took_visited (i + 1) slots c.loop-probe.invariant.5 counted.probes
    counted.corrections counted.lost (omega arith) (omega arith) in
    record {
      seat = search rules;
      view = subst (λ v. Sought (view c.args.seat.now) v) (sym told.view)
          (sought_then _ _ _ searching.sought hint.by.sought);
      loads = loads_then table _ _ _ loads (loads_then table _ _ _ hint.by.loads behind);
      reads = (
        c.loop-probe.invariant.4,
        ends searching c.slot-slot.ensures table.limits.power c.count_at.result hint.seat told.seat
            (hint.by.sought, other.0) told.view told.held told.within c.if-count_at-eq0.true,
        lacked_all table c.args.key i (lacked_more table c.args.key c.loop-probe.invariant.2
            (reads_led table before) (slot_is searching c.slot-slot.ensures)
            (loads_seek table _ _ hint.by.loads) other.1 (loads_seek table _ _ behind))
            (led_then table (reads_led table before) (reads_led table hint.by))
            (slot_is searching c.slot-slot.ensures) told.event c.if-count_at-eq0.true,
      );
      effort = visited.0;
      steps = record {
        visited = i + 1;
        within = omega arith;
        counted = visited.1;
        steps = omega (arith, so_far, more, last);
      };
      declined = tt;
      few = omega (arith, so_far, more, last, low);
    }

pub returns : goal.returns
returns g c =
    let table = c.args.table.now in
    let size = c.geometry-slots.ensures in
    let slots = table.geometry.slots in
    let searching = c.loop-probe.invariant.0 in
    let some : 0 < slots = some_slots slots table.limits.power in
    let past : slots ≤ c.loop-probe.probe = rw (← size) c.loop-probe-test.false in
    let most : c.loop-probe.probe ≤ slots = rw (← size) c.loop-probe.auto.probe-end in
    let so_far = c.loop-probe.invariant.3 in
    let counted = c.probes-2.ensures in
    let visited = took_visited slots slots c.loop-probe.invariant.5 (rw (← size) counted.probes)
    counted.corrections counted.lost (omega arith) (omega arith) in
    record {
      seat = searching.same;
      view = searching.sought;
      loads = c.loop-probe.invariant.1;
      reads = (
        c.loop-probe.invariant.4,
        ends_all table.limits.power some past most searching,
        lacked_each table c.args.key (omega arith) c.loop-probe.invariant.2,
      );
      effort = visited.0;
      steps = record {
        visited = slots;
        within = omega arith;
        counted = visited.1;
        steps = omega (arith, so_far, most);
      };
      declined = tt;
      few = omega (arith, so_far, most);
    }
