use Rattle.std.proofs.Common.{◌&&◌, true, false, None, Some, refl}
use Rattle.hcc_rule.specs.Callers.{geometry_of, room_of}
use Rattle.hcc_rule.specs.Addresses.{address_of_meta}
use Rattle.hcc_rule.specs.Seats.{view}
use Rattle.hcc_table.specs.Lists.{has_room}
use Rattle.hcc_table.specs.Pins.{erases, is_useful}
use Rattle.hcc_shard.proofs.Releases.{gives_back, gives_back_and_frees}
use Rattle.hcc_shard.proofs.Settlings.{released, released_only}
use Rattle.hcc_table.proofs.Finds.{seat_then}
use Rattle.hcc_shard.proofs.Resting.{quiet_released, rests_again}
use Rattle.hcc_table.specs.Seeking.{is_settling}
use Rattle.hcc_table.proofs.Seeking.{goes_none}
use Rattle.hcc_shard.proofs.shard.Shard.release.Goals as goal

pub returns-in-Some-clause-view : goal.returns-in-Some-clause-view
returns-in-Some-clause-view g c =
    let told = c.in-Some.ensures in
    released g.T.Tag.fits (room_of c.args.self.now.table) told.freed.0 c.args.pin.name
    c.in-Some.charge (erases c.args.last) (view c.args.seat.now.seat) (view c.release.new.seat)
    (view c.settle.new.seat) c.requires.seat.quiet.idle told.freed.2 told.records told.freed.3
    c.settle.ensures.view

pub returns-in-None-clause-view : goal.returns-in-None-clause-view
returns-in-None-clause-view g c =
    let told = c.in-None.ensures in
    released_only c.args.pin.name (erases c.args.last) (view c.args.seat.now.seat)
    (view c.release.new.seat) told.records told.kept.0 told.kept.1

pub returns-in-Some-clause-seat : goal.returns-in-Some-clause-seat
returns-in-Some-clause-seat g c =
    rests_again _ c.args.seat.now _ c.requires.seat
    (seat_then _ _ _ c.in-Some.ensures.seat c.settle.ensures.seat) refl
    (quiet_released (geometry_of c.args.self.now.table) (view c.args.seat.now.seat)
    (view c.settle.new.seat) c.requires.seat.quiet c.args.pin.name (erases c.args.last) true
    (returns-in-Some-clause-view g c))

pub returns-in-None-clause-seat : goal.returns-in-None-clause-seat
returns-in-None-clause-seat g c =
    rests_again _ c.args.seat.now _ c.requires.seat c.in-None.ensures.seat refl
    (quiet_released (geometry_of c.args.self.now.table) (view c.args.seat.now.seat)
    (view c.release.new.seat) c.requires.seat.quiet c.args.pin.name (erases c.args.last) false
    (returns-in-None-clause-view g c))

pub returns-in-Some-clause-gives : goal.returns-in-Some-clause-gives
returns-in-Some-clause-gives g c =
    let told = c.in-Some.ensures in
    gives_back_and_frees (address_of_meta c.args.self.now.table c.args.pin.slot) c.args.pin.slot
    c.args.pin.name (has_room 1 (g.L.FreedList.shelf c.args.list.now))
    (is_useful c.args.as_use && c.args.pin.counting) (erases c.args.last) told.tried.0
    c.in-Some.charge c.args.seat.now.effort _ c.args.seat.now.seat told.tried.1
    c.release.new.seat c.settle.new.seat told.tried.2 told.tried.3 c.settle.ensures.adds

pub returns-in-None-clause-gives : goal.returns-in-None-clause-gives
returns-in-None-clause-gives g c =
    let told = c.in-None.ensures in
    gives_back (address_of_meta c.args.self.now.table c.args.pin.slot) c.args.pin.slot
    c.args.pin.name (has_room 1 (g.L.FreedList.shelf c.args.list.now))
    (is_useful c.args.as_use && c.args.pin.counting) (erases c.args.last) told.tried.0
    c.args.seat.now.effort _ c.args.seat.now.seat told.tried.1
    c.release.new.seat told.tried.2 told.tried.3

pub returns-in-Some-clause-by : goal.returns-in-Some-clause-by
returns-in-Some-clause-by g c =
    let tried = c.in-Some.ensures.tried in
    record {
      charge = Some c.in-Some.charge;
      freed_is = refl;
      mid = c.release.new.seat;
      releases = record {
        left = tried.0;
        between = tried.1;
        gives = tried.4;
        takes = tried.5;
        due = tried.3.won.0;
      };
      settles = c.settle.ensures.by;
    }

pub returns-in-None-clause-by : goal.returns-in-None-clause-by
returns-in-None-clause-by g c =
    let tried = c.in-None.ensures.tried in
    record {
      charge = None;
      freed_is = refl;
      mid = c.release.new.seat;
      releases = record {
        left = tried.0;
        between = tried.1;
        gives = tried.4;
        takes = tried.5;
        due = tt;
      };
      settles = goes_none c.args.self.now.table is_settling c.release.new.seat
          c.release.new.seat refl;
    }
