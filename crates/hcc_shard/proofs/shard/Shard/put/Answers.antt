use Rattle.std.proofs.Common.{true, false, refl, arith}
use Rattle.hcc_rule.specs.Callers.{slots_of}
use Rattle.hcc_rule.specs.Seats.{view}
use Rattle.hcc_table.proofs.Logs.{ends_adds}
use Rattle.hcc_shard.proofs.Insertions.{unplaced_met, unplaced_all}
use Rattle.hcc_shard.proofs.Reservings.{among_adds, rose_same}
use Rattle.hcc_shard.proofs.shard.Shard.put.Goals as goal

pub returns-in-Matched-clause-view : goal.returns-in-Matched-clause-view
returns-in-Matched-clause-view g c =
    let told = c.in-Matched.ensures.view in
    unplaced_met (slots_of c.args.self.now.table) c.args.draft.key (view c.args.seat.now.seat)
    (view c.insert-insertion.new.seat) told.0 told.2

pub returns-in-NoSlot-clause-view : goal.returns-in-NoSlot-clause-view
returns-in-NoSlot-clause-view g c =
    let told = c.in-NoSlot.ensures.view in
    unplaced_all (slots_of c.args.self.now.table) c.args.draft.key (view c.args.seat.now.seat)
    (view c.insert-insertion.new.seat) told.0 told.1

pub returns-in-Placed-clause-placed : goal.returns-in-Placed-clause-placed
returns-in-Placed-clause-placed g c =
    let told = c.in-Placed.ensures in (
      refl,
      c.insert-insertion.ensures.placed c.in-Placed.slot c.in-Placed.is,
      record { inserts = told.inserts; counts = told.probes },
    )

pub returns-in-Placed-clause-adds : goal.returns-in-Placed-clause-adds
returns-in-Placed-clause-adds g c less =
    ends_adds _ c.args.seat.now.seat c.insert-insertion.new.seat
    (c.insert-insertion.ensures.placed c.in-Placed.slot c.in-Placed.is)

pub returns-in-Matched-clause-left : goal.returns-in-Matched-clause-left
returns-in-Matched-clause-left g c =
    let more = c.saturating_add-seat.ensures in
    let told = c.in-Matched.ensures in (
      true,
      told.view.2,
      (omega arith, λ low. omega arith, omega arith),
      record { inserts = told.inserts; counts = told.probes },
    )

pub returns-in-Matched-clause-adds : goal.returns-in-Matched-clause-adds
returns-in-Matched-clause-adds g c less =
    let used = c.insert-insertion.ensures.matched c.in-Matched.is in
    among_adds _ c.args.seat.now.seat c.insert-insertion.new.seat used.2.2

pub returns-in-NoSlot-clause-left : goal.returns-in-NoSlot-clause-left
returns-in-NoSlot-clause-left g c =
    let told = c.in-NoSlot.ensures in (
      false,
      told.view.1,
      rose_same _ c.args.seat.now.boosts refl,
      record { inserts = told.inserts; counts = told.probes },
    )

pub returns-in-NoSlot-clause-adds : goal.returns-in-NoSlot-clause-adds
returns-in-NoSlot-clause-adds g c less =
    absurd (let all = c.in-NoSlot.ensures.view.1 in omega arith)
