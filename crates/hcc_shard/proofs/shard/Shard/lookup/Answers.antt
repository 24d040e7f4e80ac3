use Rattle.std.proofs.Common.{refl, arith}
use Rattle.hcc_rule.specs.Callers.{geometry_of}
use Rattle.hcc_rule.specs.Seats.{view}
use Rattle.hcc_shard.proofs.Names.{load_is, not_held}
use Rattle.hcc_shard.proofs.Resting.{quiet_found, quiet_sought, rests_again}
use Rattle.hcc_shard.proofs.shard.Shard.lookup.Goals as goal

pub find-requires-clause-fresh : goal.find-requires-clause-fresh
find-requires-clause-fresh g c =
    not_held c.args.serial c.args.serial (omega arith) (view c.args.seat.now.seat).records
    c.requires.serial.records

pub find-requires-clause-load : goal.find-requires-clause-load
find-requires-clause-load g c =
    let load =
    load_is (geometry_of c.args.self.now.table) (view c.args.seat.now.seat).records
    c.requires.seat.quiet.kept in
    let few = c.requires.few in
    omega arith

pub returns-in-Some-clause-seat : goal.returns-in-Some-clause-seat
returns-in-Some-clause-seat g c =
    let told = c.in-Some.ensures in
    rests_again _ c.args.seat.now _ c.requires.seat told.seat refl
    (quiet_found (geometry_of c.args.self.now.table) (view c.args.seat.now.seat)
    (view c.find.new.seat) c.requires.seat.quiet g.T.Tag.fits c.in-Some.found.pin.slot
    c.args.serial c.args.key told.found.0 told.found.1 told.pin.0 c.requires.serial.low
    c.requires.few)

pub returns-in-None-clause-seat : goal.returns-in-None-clause-seat
returns-in-None-clause-seat g c =
    let told = c.in-None.ensures in
    rests_again _ c.args.seat.now _ c.requires.seat told.seat refl
    (quiet_sought (geometry_of c.args.self.now.table) (view c.args.seat.now.seat)
    (view c.find.new.seat) c.requires.seat.quiet told.missed.sought)
