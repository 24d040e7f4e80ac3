use Rattle.std.proofs.Common.{◌≡◌, ◌+◌, ap, refl, rules, sym, ◌∙◌, arith}
use Rattle.hcc_word.specs.Word.{is_counting}
use Rattle.hcc_rule.specs.declared.view.Atomic.{Atomic}
use Rattle.hcc_rule.specs.Addresses.{address_of_meta}
use Rattle.hcc_rule.specs.Seats.{atomic}
use Rattle.hcc_rule.specs.ToldOwners.{first_word}
use Rattle.hcc_table.specs.Efforts.{Took}
use Rattle.hcc_table.specs.Seeking.{is_unpass}
use Rattle.hcc_table.specs.Steps.{Among, UsesUp, amount_of}
use Rattle.hcc_table.proofs.Seeking.{goes_none}
use Rattle.hcc_table.proofs.Logs.{adds_none, adds_one, adds_then, among_after, among_then, ends_later}
use Rattle.hcc_table.proofs.Rises.{took_none, took_next, took_within}
use Rattle.hcc_rule.specs.declared.view.View.{View}
use Rattle.hcc_table.proofs.Finds.{seat_then}
use Rattle.hcc_table.proofs.InsertsSteps.{inserts_here, tried_none, tried_then}
use Rattle.hcc_table.proofs.InsertsTries.{tries_first, probed_long, tries_placed, tries_matched, tries_last, tries_next}
use Rattle.hcc_table.proofs.inserting.insert.Goals as goal

pub loop-slot-init : goal.loop-slot-init
loop-slot-init g c =
    let table = c.args.table.now in
    let size = c.geometry-slots.ensures in
    let told = c.begin-walk.ensures in (
      tries_first table.geometry.slots c.args.draft c.args.value.now table.limits.power told.probe
          told.stride (rw (← size) told.mask) c.requires.trail,
      took_none c.args.effort.now,
      omega arith,
      adds_none c.args.seat.now c.args.seat.now refl,
      tried_none g.T.Tag.fits table c.args.draft.key c.args.name c.args.draft.countdown
          c.args.effort.now c.args.seat.now,
    )

pub pass_at-requires-clause-room : goal.pass_at-requires-clause-room
pass_at-requires-clause-room g c =
    let inside = c.loop-slot.invariant.0.inside in
    let long =
    probed_long c.args.table.now.limits.power c.loop-slot.invariant.0
    c.in-NoSlot.ensures.view.0 in
    omega arith

pub loop-slot-preserved : goal.loop-slot-preserved
loop-slot-preserved g c =
    let table = c.args.table.now in
    let size = c.geometry-slots.ensures in
    let told = c.in-NoSlot.ensures.view in
    let next = c.next-walk.ensures in
    let other : ¬ (c.loop-slot.passed + 1 ≡ table.geometry.slots) =
    rw (← size) c.if-passed-slots.false in
    let inside = c.loop-slot.invariant.0.inside in (
      tries_next table.geometry.slots c.args.draft c.args.value.now table.limits.power
          c.loop-slot.invariant.0 c.slot-slot.ensures c.insert_at.ensures.seat told.0 told.2
          (omega arith) told.1 c.pass_at.ensures.seat c.pass_at.ensures.view next.probe next.stride
          next.mask,
      visited,
      (let so_far = c.loop-slot.invariant.2 in let tried = c.in-NoSlot.ensures.steps in
          let one = c.pass_at.ensures.step.1.one in omega arith),
      adds_then c.args.seat.now c.insert_at.new.seat c.pass_at.new.seat
          (adds_then c.args.seat.now c.loop-slot.seat c.insert_at.new.seat c.loop-slot.invariant.3
          c.insert_at.ensures.adds)
          (adds_one _ c.insert_at.new.seat c.pass_at.new.seat c.pass_at.ensures.step.1.step),
      tried_then c.loop-slot.invariant.4
          (c.slot-slot.ensures ∙ c.loop-slot.invariant.0.walking.probe)
          (c.probes.ensures.probes, c.probes.ensures.corrections, c.probes.ensures.lost)
          c.in-NoSlot.ensures.tries c.pass_at.ensures.step c.pass_at.ensures.view
          c.pass_at.ensures.event,
    )
  where
    visited : Took (c.loop-slot.passed + 1) (c.loop-slot.passed + 1) (c.loop-slot.passed + 1)
        c.args.effort.now c.insert_at.new.effort
    visited =
        let probe = c.probes.ensures in
        took_next c.loop-slot.passed c.loop-slot.passed 1 (c.loop-slot.passed + 1)
        c.insert_at.new.effort c.loop-slot.invariant.1 probe.probes probe.corrections probe.lost
        c.insert_at.ensures.effort (omega arith)

pub returns-in-Placed : goal.returns-in-Placed
returns-in-Placed g c =
    let table = c.args.table.now in
    let probe = c.probes.ensures in
    let trying = c.loop-slot.invariant.0 in
    let inside = trying.inside in
    let so_far = c.loop-slot.invariant.2 in
    let tried = c.in-Placed.ensures.steps in
    let took = took_next c.loop-slot.passed c.loop-slot.passed 1 (c.loop-slot.passed + 1)
    c.insert_at.new.effort c.loop-slot.invariant.1 probe.probes probe.corrections probe.lost
    c.insert_at.ensures.effort (omega arith) in
    record {
      seat = seat_then _ _ _ trying.same c.insert_at.ensures.seat;
      effort = took_within (omega arith) (omega arith) (omega arith) took;
      view = tries_placed table.geometry.slots c.args.draft c.args.value.now table.limits.power
          trying c.slot-slot.ensures c.insert_at.ensures.seat c.in-Placed.ensures.view
          c.requires.trail;
      placed = λ slot same. ends_later (atomic (address_of_meta table slot)
          (first_word c.args.draft) 0 (first_word c.args.draft)) c.args.seat.now c.loop-slot.seat
          c.insert_at.new.seat c.loop-slot.invariant.3
          (c.insert_at.ensures.placed slot (c.in-Placed.is ∙ same));
      matched = λ same. cc;
      inserts = inserts_here c.loop-slot.invariant.4 (c.slot-slot.ensures ∙ trying.walking.probe)
          (probe.probes, probe.corrections, probe.lost) c.in-Placed.ensures.tries (λ none. cc)
          (λ slot same. refl) (adds_none c.insert_at.new.seat c.insert_at.new.seat refl)
          (goes_none table is_unpass c.insert_at.new.seat c.insert_at.new.seat refl) (omega arith);
      probes = (
        c.loop-slot.passed,
        ap (λ (z : View g.row.T.Denot). z.saw) c.in-Placed.ensures.view.1 ∙ trying.saw,
        took.0,
      );
      steps = record {
        visited = c.loop-slot.passed + 1;
        within = omega arith;
        counted = took.0;
        steps = omega arith;
      };
    }

pub returns-in-Matched : goal.returns-in-Matched
returns-in-Matched g c =
    let table = c.args.table.now in
    let probe = c.probes.ensures in
    let trying = c.loop-slot.invariant.0 in
    let inside = trying.inside in
    let so_far = c.loop-slot.invariant.2 in
    let tried = c.in-Matched.ensures.steps in
    let back = c.take_back.ensures.steps in
    let long = probed_long table.limits.power trying c.in-Matched.ensures.view.0 in
    let took = took_next c.loop-slot.passed c.loop-slot.passed 1 (c.loop-slot.passed + 1)
    c.insert_at.new.effort c.loop-slot.invariant.1 probe.probes probe.corrections probe.lost
    c.insert_at.ensures.effort (omega arith) in
    record {
      seat = seat_then _ _ _ (seat_then _ _ _ trying.same c.insert_at.ensures.seat)
          c.take_back.ensures.seat;
      effort = took_within (omega arith) (omega arith) (omega arith) took;
      view = tries_matched table.geometry.slots c.args.draft c.args.value.now table.limits.power
          trying c.slot-slot.ensures c.insert_at.ensures.seat c.take_back.new.seat
          c.in-Matched.ensures.view c.requires.trail c.take_back.ensures.view;
      placed = λ slot same. cc;
      matched = λ _. (
        c.slot-slot.result,
        search rules,
        (
          used.0,
          used.1,
          over (atomic (address_of_meta table c.slot-slot.result) c.args.draft.countdown 0 used.0)
              used.2,
          over (atomic (address_of_meta table c.slot-slot.result)
              (amount_of (is_counting used.0) c.args.draft.countdown) 0 used.1) used.3,
        ),
      );
      inserts = inserts_here c.loop-slot.invariant.4 (c.slot-slot.ensures ∙ trying.walking.probe)
          (probe.probes, probe.corrections, probe.lost) c.in-Matched.ensures.tries (λ none. cc)
          (λ slot same. cc) c.take_back.ensures.adds c.take_back.ensures.past (omega arith);
      probes = (
        c.loop-slot.passed + 1,
        ap (λ (z : View g.row.T.Denot). z.saw) c.take_back.ensures.view
            ∙ (let one = c.in-Matched.ensures.view.1 in let old = trying.saw in omega arith),
        took.0,
      );
      steps = record {
        visited = c.loop-slot.passed + 1;
        within = omega arith;
        counted = took.0;
        steps = omega arith;
      };
    }
  where
    used : UsesUp (address_of_meta c.args.table.now c.slot-slot.result) c.args.draft.countdown
        c.loop-slot.seat c.insert_at.new.seat
    used = c.insert_at.ensures.matched c.in-Matched.is

    over : (one : Atomic) → Among one c.loop-slot.seat c.insert_at.new.seat
        → Among one c.args.seat.now c.take_back.new.seat
    over one h =
        among_then one c.args.seat.now c.insert_at.new.seat c.take_back.new.seat
        (among_after one c.args.seat.now c.loop-slot.seat c.insert_at.new.seat
        c.loop-slot.invariant.3 h) c.take_back.ensures.adds

pub returns-then-passed-slots : goal.returns-then-passed-slots
returns-then-passed-slots g c =
    let table = c.args.table.now in
    let probe = c.probes.ensures in
    let trying = c.loop-slot.invariant.0 in
    let inside = trying.inside in
    let so_far = c.loop-slot.invariant.2 in
    let told = c.in-NoSlot.ensures.view in
    let tried = c.in-NoSlot.ensures.steps in
    let taken = c.take_back-then-passed-slots.ensures in
    let back = taken.steps in
    let long = probed_long table.limits.power trying told.0 in
    let size = c.geometry-slots.ensures in
    let least : table.geometry.slots ≡ c.loop-slot.passed + 1 = rw (← size)
    (sym c.if-passed-slots.true) in
    let took = took_next c.loop-slot.passed c.loop-slot.passed 1 (c.loop-slot.passed + 1)
    c.insert_at.new.effort c.loop-slot.invariant.1 probe.probes probe.corrections probe.lost
    c.insert_at.ensures.effort (omega arith) in
    record {
      seat = seat_then _ _ _ (seat_then _ _ _ trying.same c.insert_at.ensures.seat) taken.seat;
      effort = took_within (omega arith) (omega arith) (omega arith) took;
      view = tries_last table.geometry.slots c.args.draft c.args.value.now table.limits.power trying
          c.slot-slot.ensures c.insert_at.ensures.seat told.0 told.2
          c.take_back-then-passed-slots.new.seat told.1 (sym least) c.requires.trail taken.view;
      placed = λ slot same. cc;
      matched = λ same. cc;
      inserts = inserts_here c.loop-slot.invariant.4 (c.slot-slot.ensures ∙ trying.walking.probe)
          (probe.probes, probe.corrections, probe.lost) c.in-NoSlot.ensures.tries
          (λ none. sym least) (λ slot same. cc) taken.adds taken.past (omega arith);
      probes = (
        c.loop-slot.passed + 1,
        ap (λ (z : View g.row.T.Denot). z.saw) taken.view
            ∙ (let one = told.1 in let old = trying.saw in omega arith),
        took.0,
      );
      steps = record {
        visited = c.loop-slot.passed + 1;
        within = omega arith;
        counted = took.0;
        steps = omega arith;
      };
    }
