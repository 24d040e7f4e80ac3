use Rattle.std.proofs.Common.{◌≡◌, ◌-◌, ap, refl, arith}
use Rattle.hcc_rule.specs.Callers.{geometry_of}
use Rattle.hcc_rule.specs.Seats.{view}
use Rattle.hcc_shard.proofs.Names.{load_is, not_kept}
use Rattle.hcc_shard.proofs.Settlings.{erased_all, dead_settled, gone_settled, taken_settled}
use Rattle.hcc_shard.specs.declared.erasing.TheConstants.{IN_FLIGHT}
use Rattle.hcc_table.proofs.Finds.{seat_then}
use Rattle.hcc_shard.proofs.Resting.{quiet_erased, rests_again}
use Rattle.hcc_shard.proofs.shard.Shard.erase.Goals as goal

pub hide-erased-requires-clause-fresh : goal.hide-erased-requires-clause-fresh
hide-erased-requires-clause-fresh g c =
    not_kept (geometry_of c.args.self.now.table) IN_FLIGHT (omega arith)
    (view c.args.seat.now.seat).records c.requires.seat.quiet.kept

pub hide-erased-requires-clause-load : goal.hide-erased-requires-clause-load
hide-erased-requires-clause-load g c =
    let load =
    load_is (geometry_of c.args.self.now.table) (view c.args.seat.now.seat).records
    c.requires.seat.quiet.kept in
    let few = c.requires.seat.quiet.few in
    omega arith

pub returns-clause-view : goal.returns-clause-view
returns-clause-view g c =
    let erased = c.hide-erased.result in
    erased_all c.args.key erased.hidden erased.slots erased.charge
    (view c.args.seat.now.seat) (view c.hide-erased.new.seat) (view c.settle.new.seat)
    c.requires.seat.quiet.idle c.hide-erased.ensures.view c.settle.ensures.view

pub returns-clause-dead : goal.returns-clause-dead
returns-clause-dead g c =
    dead_settled c.args.key (view c.args.seat.now.seat) (view c.hide-erased.new.seat)
    (view c.settle.new.seat) c.hide-erased.ensures.dead c.settle.ensures.view

pub returns-clause-seat : goal.returns-clause-seat
returns-clause-seat g c =
    rests_again _ c.args.seat.now _ c.requires.seat
    (seat_then _ _ _ c.hide-erased.ensures.seat c.settle.ensures.seat) refl
    (quiet_erased (geometry_of c.args.self.now.table) (view c.args.seat.now.seat)
    (view c.settle.new.seat) c.requires.seat.quiet c.args.key c.hide-erased.result.hidden
    (returns-clause-view g c))

pub returns-clause-erases : goal.returns-clause-erases
returns-clause-erases g c =
    let erased = c.hide-erased.result in
    record {
      all = erased;
      hidden_is = refl;
      mid = c.hide-erased.new.seat;
      hides = c.hide-erased.ensures.hides;
      taken =
          taken_settled c.args.key erased.hidden erased.slots erased.charge
          (view c.args.seat.now.seat) (view c.hide-erased.new.seat) (view c.settle.new.seat)
          c.hide-erased.ensures.view c.settle.ensures.view;
      gone =
          gone_settled c.args.key erased.hidden erased.slots erased.charge
          (view c.args.seat.now.seat) (view c.hide-erased.new.seat) (view c.settle.new.seat)
          c.hide-erased.ensures.view c.settle.ensures.view;
      rest = c.settle.ensures.adds;
      settles = c.settle.ensures.by;
      dead = ap (λ v. v.work.dead) c.settle.ensures.view;
    }

pub returns-clause-frees : goal.returns-clause-frees
returns-clause-frees g c =
    let erased = c.hide-erased.result in
    let told = c.hide-erased.ensures.frees in
    let more = c.settle.ensures.steps in
    let taken =
    taken_settled c.args.key erased.hidden erased.slots erased.charge (view c.args.seat.now.seat)
    (view c.hide-erased.new.seat) (view c.settle.new.seat) c.hide-erased.ensures.view
    c.settle.ensures.view in
    let some : (view c.settle.new.seat).takings - (view c.args.seat.now.seat).takings
    ≡ erased.slots = omega arith in
    record {
      visited = told.visited;
      within = told.within;
      counted = told.counted;
      steps = rw some (let made = told.steps in omega arith);
    }
