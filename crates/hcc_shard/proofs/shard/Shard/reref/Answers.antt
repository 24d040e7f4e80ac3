use Rattle.std.proofs.Common.{refl, arith}
use Rattle.hcc_rule.specs.Callers.{geometry_of}
use Rattle.hcc_rule.specs.Seats.{view}
use Rattle.hcc_shard.proofs.Names.{load_is, not_held}
use Rattle.hcc_shard.proofs.Resting.{quiet_again, rests_again}
use Rattle.hcc_shard.proofs.shard.Shard.reref.Goals as goal

pub again-requires-clause-fresh : goal.again-requires-clause-fresh
again-requires-clause-fresh g c =
    not_held c.args.serial c.args.serial (omega arith) (view c.args.seat.now.seat).records
    c.requires.serial.records

pub again-requires-clause-load : goal.again-requires-clause-load
again-requires-clause-load g c =
    let load =
    load_is (geometry_of c.args.self.now.table) (view c.args.seat.now.seat).records
    c.requires.seat.quiet.kept in
    let few = c.requires.few in
    omega arith

pub returns-clause-seat : goal.returns-clause-seat
returns-clause-seat g c =
    let told = c.again.ensures in
    rests_again _ c.args.seat.now _ c.requires.seat told.seat refl
    (quiet_again (geometry_of c.args.self.now.table) (view c.args.seat.now.seat)
    (view c.again.new.seat) c.requires.seat.quiet c.args.pin c.again.result c.args.serial
    told.record.0 told.view told.record.1 told.record.2 told.pin.0 told.record.3 c.requires.holds
    told.record.4 c.requires.slot c.requires.serial.low c.requires.few)
