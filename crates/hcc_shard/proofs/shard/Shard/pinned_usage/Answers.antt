use Rattle.std.proofs.Common.{◌≡◌, ap, refl, ◌∙◌, arith}
use Rattle.hcc_rule.specs.Callers.{clients_of, geometry_of, slots_of}
use Rattle.hcc_rule.specs.Events.{standing_done}
use Rattle.hcc_rule.specs.Seats.{view}
use Rattle.hcc_table.specs.Still.{is_still}
use Rattle.hcc_table.proofs.Seeking.{goes_event, goes_then}
use Rattle.hcc_table.proofs.Still.{seeks_still}
use Rattle.hcc_shard.specs.declared.erasing.TheConstants.{IN_FLIGHT}
use Rattle.hcc_shard.proofs.Names.{load_is, not_kept}
use Rattle.hcc_shard.proofs.Pinning.{counted_none, counted_on}
use Rattle.hcc_shard.proofs.Pins.{pins_none, pins_on, pins_all}
use Rattle.hcc_shard.proofs.Resting.{quiet_sought, rests_again}
use Rattle.hcc_shard.proofs.shard.Shard.pinned_usage.Goals as goal

pub loop-slot-init : goal.loop-slot-init
loop-slot-init g c = record {
  pins =
      pins_none (clients_of c.args.self.now.table) c.standing-sum.result c.args.seat.now _
      c.standing-sum.ensures.seat refl c.standing-sum.ensures.view refl (refl, refl) (omega arith);
  counts = counted_none g.T.Tag.fits c.args.self.now.table c.standing-sum.result _;
  stays =
      goes_event c.args.self.now.table is_still
      (standing_done c.standing-sum.result (view c.args.seat.now.seat)) c.args.seat.now.seat
      c.standing-sum.new.seat c.standing-sum.ensures.event refl;
}

pub loop-slot-preserved : goal.loop-slot-preserved
loop-slot-preserved g c =
    let told = c.pinned_charge-sum.ensures in
    record {
      pins =
          pins_on (clients_of c.args.self.now.table) c.standing-sum.result c.loop-slot.slot
          c.loop-slot.sum (geometry_of c.args.self.now.table) c.args.seat.now c.loop-slot.seat _
          c.loop-slot.invariant.pins c.pinned_charge-sum.result c.requires.seat.quiet.kept
          told.held told.alone told.small told.seat refl told.view told.effort (refl, refl)
          told.steps;
      counts =
          counted_on g.T.Tag.fits c.args.self.now.table c.loop-slot.slot c.standing-sum.result
          c.loop-slot.sum c.pinned_charge-sum.result _ c.loop-slot.seat _
          c.loop-slot.invariant.counts told.counts;
      stays =
          goes_then c.args.self.now.table is_still c.args.seat.now.seat c.loop-slot.seat.seat
          c.pinned_charge-sum.new.seat c.loop-slot.invariant.stays
          (seeks_still c.args.self.now.table c.loop-slot.seat.seat c.pinned_charge-sum.new.seat
          told.seeks);
    }

pub pinned_charge-sum-requires-clause-fresh : goal.pinned_charge-sum-requires-clause-fresh
pinned_charge-sum-requires-clause-fresh g c =
    rw c.loop-slot.invariant.pins.sought.records
    (not_kept (geometry_of c.args.self.now.table) IN_FLIGHT (omega arith)
    (view c.args.seat.now.seat).records c.requires.seat.quiet.kept)

pub pinned_charge-sum-requires-clause-load : goal.pinned_charge-sum-requires-clause-load
pinned_charge-sum-requires-clause-load g c =
    rw c.loop-slot.invariant.pins.sought.records
    (let load =
    load_is (geometry_of c.args.self.now.table) (view c.args.seat.now.seat).records
    c.requires.seat.quiet.kept in
    let few = c.requires.seat.quiet.few in
    omega arith)

pub returns-clause-entries : goal.returns-clause-entries
returns-clause-entries g c =
    let last = c.loop-slot-test.false in
    let near = c.loop-slot.auto.slot-end in
    let size = ap (λ z. z.slots) c.geometry-slot-end.ensures in
    let end : c.loop-slot.slot ≡ slots_of c.args.self.now.table = omega arith in
    let sums =
    pins_all (clients_of c.args.self.now.table) c.standing-sum.result c.loop-slot.sum
    (geometry_of c.args.self.now.table) c.args.seat.now c.loop-slot.seat
    (rw end at c.loop-slot.invariant.pins) c.requires.seat.quiet.kept in
    let least = sums.0 in
    let own = c.standing-sum.ensures.own in
    omega arith

pub returns-clause-alone : goal.returns-clause-alone
returns-clause-alone g c one =
    let last = c.loop-slot-test.false in
    let near = c.loop-slot.auto.slot-end in
    let size = ap (λ z. z.slots) c.geometry-slot-end.ensures in
    let end : c.loop-slot.slot ≡ slots_of c.args.self.now.table = omega arith in
    let sums =
    pins_all (clients_of c.args.self.now.table) c.standing-sum.result c.loop-slot.sum
    (geometry_of c.args.self.now.table) c.args.seat.now c.loop-slot.seat
    (rw end at c.loop-slot.invariant.pins) c.requires.seat.quiet.kept in
    let exact = sums.1 one in
    let own = c.standing-sum.ensures.alone one in
    omega arith

pub returns-clause-seat : goal.returns-clause-seat
returns-clause-seat g c =
    rests_again _ c.args.seat.now _ c.requires.seat c.loop-slot.invariant.pins.same
    c.loop-slot.invariant.pins.client
    (quiet_sought (geometry_of c.args.self.now.table) (view c.args.seat.now.seat)
    (view c.loop-slot.seat.seat) c.requires.seat.quiet c.loop-slot.invariant.pins.sought)

pub returns-clause-loads : goal.returns-clause-loads
returns-clause-loads g c =
    let last = c.loop-slot-test.false in
    let near = c.loop-slot.auto.slot-end in
    let size = ap (λ z. z.slots) c.geometry-slot-end.ensures in
    let end : c.loop-slot.slot ≡ slots_of c.args.self.now.table = omega arith in
    let counted = c.loop-slot.invariant.counts in
    record {
      standing = c.standing-sum.result;
      loaded = c.standing-sum.new.seat;
      loads = c.standing-sum.ensures.step;
      event = c.standing-sum.ensures.event;
      kept = c.standing-sum.ensures.view;
      charges = counted.charges;
      all = counted.all ∙ end;
      counts = counted.counts;
      sum = counted.sum_is;
    }

pub returns-clause-stays : goal.returns-clause-stays
returns-clause-stays g c = c.loop-slot.invariant.stays
