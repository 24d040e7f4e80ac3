use Rattle.std.proofs.Common.{◌≡◌, ℕ, ◌+◌, ◌*◌, ◌<◌, ◌≤◌, map, refl, ap, ◌∙◌, arith}
use Rattle.std.proofs.Math.Nat.{mul-le-mul_left}
use Rattle.hcc_rule.specs.declared.view.View.{View}
use Rattle.hcc_table.specs.Efforts.{Took}
use Rattle.hcc_table.specs.Lists.{as_freed}
use Rattle.hcc_table.proofs.Finds.{seat_then}
use Rattle.hcc_table.proofs.Handed.{hands_alike, hands_more, hands_none, room_before}
use Rattle.hcc_table.proofs.Rises.{took_none, took_next, took_within}
use Rattle.hcc_rule.proofs.Probes.ProbeLaws.{some_slots}
use Rattle.hcc_table.proofs.HideSteps.{hid_none, hid_then, hides_every, hides_here}
use Rattle.hcc_table.proofs.Hidings.{hides_none, both, hides_on, hides_last, hides_all}
use Rattle.hcc_table.proofs.hiding.hide.Goals as goal

sum_of : (m a b : ℕ) {c : ℕ} → c ≡ a + b → m * c ≡ m * a + m * b
sum_of m a b is = ap (λ (n : ℕ). m * n) is ∙ omega arith

pub loop-init : goal.loop-init
loop-init g c =
    let table = c.args.table.now in
    let told = c.begin-walk.ensures in (
      hides_none table.geometry.slots c.args.key table.limits.power c.requires.idle told.probe
          told.stride (rw (← c.geometry-slots.ensures) told.mask) refl,
      took_none c.args.effort.now,
      omega arith,
      hid_none g.T.Tag.fits table c.args.key c.args.name,
      hands_none refl,
    )

pub loop-preserved : goal.loop-preserved
loop-preserved g c =
    let here = c.hide_at-here.ensures in
    let all = c.with-all.ensures in
    let told = c.count_at.ensures in
    let next = c.next-walk.ensures in (
      hides_on c.loop.invariant.0 c.slot-slot.ensures c.args.table.now.limits.power
          c.count_at.result c.hide_at-here.result c.with-all.result here.seat told.seat here.view
          here.dead here.few (all.hidden, all.slots, all.charge) told.view told.held told.within
          next.probe next.stride next.mask,
      visited,
      (let so_far = c.loop.invariant.2 in let hid = c.hide_at-here.ensures.steps in
          let one = told.step.one in
          let both = sum_of (c.args.table.now.geometry.slots + 4 + g.L.FreedList.loads)
          c.loop.all.slots c.hide_at-here.result.slots all.slots in
          omega arith),
      hid_then c.with-all.result c.loop.invariant.3 (room_before 1 (map as_freed here.list.these)
          (g.L.FreedList.shelf c.loop.list) (g.L.FreedList.shelf c.hide_at-here.new.list)
          here.list.puts) (c.slot-slot.ensures ∙ c.loop.invariant.0.walking.probe)
          (c.probes.ensures.probes, c.probes.ensures.corrections, c.probes.ensures.lost) here.does.2
          (all.hidden, all.slots, all.charge) told.step told.event told.view here.view.erases.dead
          here.does.3 c.if-count_at-eq0.false,
      hands_more c.loop.invariant.4 (hands_alike here.list refl
          (ap (λ (v : View g.row.T.Denot). v.gone) told.view)),
    )
  where
    visited : Took (c.loop.counter + 1) (c.loop.counter + 1) (2 * (c.loop.counter + 1))
        c.args.effort.now c.hide_at-here.new.effort
    visited =
        let probe = c.probes.ensures in
        took_next c.loop.counter (2 * c.loop.counter) 2 (2 * (c.loop.counter + 1))
        c.hide_at-here.new.effort c.loop.invariant.1 probe.probes probe.corrections probe.lost
        c.hide_at-here.ensures.effort (omega arith)

pub returns-then-count_at-eq0 : goal.returns-then-count_at-eq0
returns-then-count_at-eq0 g c =
    let here = c.hide_at-here.ensures in
    let all = c.with-all.ensures in
    let told = c.count_at.ensures in
    let probe = c.probes.ensures in
    let hiding = c.loop.invariant.0 in
    let power = c.args.table.now.limits.power in
    let slots = c.args.table.now.geometry.slots in
    let low : c.loop.counter < slots = rw (← c.geometry-slots.ensures) c.loop-test.true in
    let so_far = c.loop.invariant.2 in
    let one = told.step.one in
    let hid = here.steps in
    let both_sums = sum_of (slots + 4 + g.L.FreedList.loads) c.loop.all.slots
    c.hide_at-here.result.slots all.slots in
    let few : c.with-all.result.slots ≤ c.loop.counter + 1 =
    (let old = hiding.fewer in let here = here.few.1 in let all = all.slots in omega arith) in
    let most = mul-le-mul_left (slots + 4 + g.L.FreedList.loads) few in
    let took = took_next c.loop.counter (2 * c.loop.counter) 2 (2 * (c.loop.counter + 1))
    c.hide_at-here.new.effort c.loop.invariant.1 probe.probes probe.corrections probe.lost
    here.effort (omega arith) in
    record {
      seat = seat_then _ _ _ hiding.same (seat_then _ _ _ here.seat told.seat);
      list = hands_more c.loop.invariant.4
          (hands_alike here.list refl (ap (λ (v : View g.row.T.Denot). v.gone) told.view));
      effort = took_within (omega arith) (omega arith) (omega arith) took;
      view = both hiding c.slot-slot.ensures power c.count_at.result c.hide_at-here.result
          c.with-all.result here.seat told.seat here.view here.dead here.few
          (all.hidden, all.slots, all.charge) told.view told.held told.within;
      dead = hides_last hiding c.slot-slot.ensures power c.count_at.result c.hide_at-here.result
          c.with-all.result here.seat told.seat here.view here.dead here.few
          (all.hidden, all.slots, all.charge) told.view told.held told.within
          c.if-count_at-eq0.true;
      few = (
        (let old = hiding.few in let one = here.few.0 in let all = all.hidden in omega arith),
        omega arith,
      );
      charge = (let old = hiding.small in let one = here.few.2 in let sum = all.charge in
          let slots = all.slots in omega arith);
      hides = hides_here c.with-all.result c.loop.invariant.3 (room_before 1
          (map as_freed here.list.these) (g.L.FreedList.shelf c.loop.list)
          (g.L.FreedList.shelf c.hide_at-here.new.list) here.list.puts)
          (c.slot-slot.ensures ∙ hiding.walking.probe) (probe.probes, probe.corrections, probe.lost)
          here.does.2 (all.hidden, all.slots, all.charge) told.step told.event told.view
          here.view.erases.dead here.does.3 c.if-count_at-eq0.true;
      frees = record {
        visited = c.loop.counter + 1;
        within = omega arith;
        counted = took.0;
        steps = omega arith;
      };
      steps = record {
        visited = c.loop.counter + 1;
        within = omega arith;
        counted = took.0;
        steps = omega arith;
      };
    }

pub returns : goal.returns
returns g c =
    let table = c.args.table.now in
    let size = c.geometry-slots.ensures in
    let slots = table.geometry.slots in
    let hiding = c.loop.invariant.0 in
    let past : slots ≤ c.loop.counter = rw (← size) c.loop-test.false in
    let within : c.loop.counter ≤ slots = rw (← size) c.loop.auto.counter-end in
    let some : 0 < slots = some_slots slots table.limits.power in
    let so_far = c.loop.invariant.2 in
    let most = mul-le-mul_left (slots + 4 + g.L.FreedList.loads) hiding.fewer in
    record {
      seat = hiding.same;
      list = c.loop.invariant.4;
      effort = took_within (omega arith) (omega arith) (omega arith) c.loop.invariant.1;
      view = hiding.erased;
      dead = hides_all table.limits.power some past within hiding;
      few = (
        (let old = hiding.few in omega arith),
        (let old = hiding.fewer in omega arith),
      );
      charge = hiding.small;
      hides = hides_every c.loop.invariant.3 (omega arith) (omega arith);
      frees = record {
        visited = c.loop.counter;
        within = within;
        counted = c.loop.invariant.1.0;
        steps = so_far;
      };
      steps = record {
        visited = c.loop.counter;
        within = within;
        counted = c.loop.invariant.1.0;
        steps = omega arith;
      };
    }
