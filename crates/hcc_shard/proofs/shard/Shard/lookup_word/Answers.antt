use Rattle.std.proofs.Common.{arith, refl}
use Rattle.hcc_rule.specs.Callers.{geometry_of, room_of}
use Rattle.hcc_rule.specs.Seats.{view}
use Rattle.hcc_table.proofs.Finds.{seat_then}
use Rattle.hcc_table.proofs.Probes.{found_held}
use Rattle.hcc_table.proofs.Seeking.{seeks_none}
use Rattle.hcc_shard.proofs.Names.{load_is, not_held}
use Rattle.hcc_shard.proofs.Resting.{quiet_found, quiet_sought, rests_again}
use Rattle.hcc_shard.proofs.shard.Shard.lookup_word.Goals as goal

pub find-requires-clause-fresh : goal.find-requires-clause-fresh
find-requires-clause-fresh g c =
    not_held c.args.serial c.args.serial (omega arith) (view c.args.seat.now.seat).records
    c.requires.serial.records

pub find-requires-clause-load : goal.find-requires-clause-load
find-requires-clause-load g c =
    let load =
    load_is (geometry_of c.args.self.now.table) (view c.args.seat.now.seat).records
    c.requires.seat.quiet.kept in
    let few = c.requires.few in
    omega arith

pub read_word-word-requires-clause-holds : goal.read_word-word-requires-clause-holds
read_word-word-requires-clause-holds g c =
    let told = c.in-Some.ensures in
    let fresh =
    not_held c.args.serial c.args.serial (omega arith) (view c.args.seat.now.seat).records
    c.requires.serial.records in
    let there = found_held g.T.Tag.fits (room_of c.args.self.now.table) c.in-Some.found.pin.slot
    c.args.serial c.args.key (view c.args.seat.now.seat) (view c.find.new.seat) told.found.0 fresh
    told.found.1 in
    rw (told.pin.1, there) told.found.1.on

pub returns-in-Some-clause-seat : goal.returns-in-Some-clause-seat
returns-in-Some-clause-seat g c =
    let told = c.in-Some.ensures in
    let read = c.read_word-word.ensures in
    rests_again _ c.args.seat.now _ c.requires.seat (seat_then _ _ _ told.seat read.seat) refl
    (rw read.view (quiet_found (geometry_of c.args.self.now.table) (view c.args.seat.now.seat)
    (view c.find.new.seat) c.requires.seat.quiet g.T.Tag.fits c.in-Some.found.pin.slot
    c.args.serial c.args.key told.found.0 told.found.1 told.pin.0 c.requires.serial.low
    c.requires.few))

pub returns-in-None-clause-seat : goal.returns-in-None-clause-seat
returns-in-None-clause-seat g c =
    let told = c.in-None.ensures in
    rests_again _ c.args.seat.now _ c.requires.seat told.seat refl
    (quiet_sought (geometry_of c.args.self.now.table) (view c.args.seat.now.seat)
    (view c.find.new.seat) c.requires.seat.quiet told.missed.sought)

pub returns-in-Some-clause-found : goal.returns-in-Some-clause-found
returns-in-Some-clause-found g c =
    let told = c.in-Some.ensures in
    let fresh =
    not_held c.args.serial c.args.serial (omega arith) (view c.args.seat.now.seat).records
    c.requires.serial.records in
    let there = found_held g.T.Tag.fits (room_of c.args.self.now.table) c.in-Some.found.pin.slot
    c.args.serial c.args.key (view c.args.seat.now.seat) (view c.find.new.seat) told.found.0 fresh
    told.found.1 in
    let read = c.read_word-word.ensures in (
      told.found.0,
      rw read.view told.found.1,
      (told.found.1.on, told.found.1.single, told.found.2),
      rw (told.pin.1, there) at read.word,
    )

pub returns-in-Some-clause-searches : goal.returns-in-Some-clause-searches
returns-in-Some-clause-searches g c = (
  record c.args.seat.now { seat = c.find.new.seat; effort = c.find.new.effort },
  c.in-Some.ensures.searches,
  c.read_word-word.ensures.seeks,
  c.read_word-word.ensures.view,
)

pub returns-in-None-clause-searches : goal.returns-in-None-clause-searches
returns-in-None-clause-searches g c = (
  record c.args.seat.now { seat = c.find.new.seat; effort = c.find.new.effort },
  c.in-None.ensures.searches,
  seeks_none c.args.self.now.table c.find.new.seat,
  refl,
)

pub returns-in-Some-clause-steps : goal.returns-in-Some-clause-steps
returns-in-Some-clause-steps g c =
    let searched = c.in-Some.ensures.steps in
    let one = c.read_word-word.ensures.steps in
    record {
      visited = searched.visited;
      within = searched.within;
      counted = searched.counted;
      steps = let made = searched.steps in omega arith;
    }

pub returns-in-None-clause-steps : goal.returns-in-None-clause-steps
returns-in-None-clause-steps g c =
    let searched = c.in-None.ensures.steps in
    record {
      visited = searched.visited;
      within = searched.within;
      counted = searched.counted;
      steps = let made = searched.steps in omega arith;
    }
