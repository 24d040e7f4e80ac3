use Rattle.std.proofs.Common.{◌≡◌, ◌&&◌, ◌∙◌, None, Some, ap, refl, arith}
use Rattle.hcc_rule.specs.Callers.{geometry_of, room_of}
use Rattle.hcc_rule.specs.Seats.{view}
use Rattle.hcc_rule.specs.ToldReferences.{after_give}
use Rattle.hcc_shard.specs.declared.erasing.TheConstants.{IN_FLIGHT}
use Rattle.hcc_table.specs.Readings.{CopiesOut}
use Rattle.hcc_table.specs.Pins.{is_useful}
use Rattle.hcc_table.specs.Searched.{Sought}
use Rattle.hcc_table.specs.Still.{is_still}
use Rattle.hcc_table.proofs.Finds.{seat_then}
use Rattle.hcc_table.proofs.Lasting.{searches_seek}
use Rattle.hcc_table.proofs.Probes.{found_held}
use Rattle.hcc_table.proofs.Releases.{gives_still}
use Rattle.hcc_table.proofs.Seeking.{goes_then, seeks_then}
use Rattle.hcc_table.proofs.Still.{seeks_still}
use Rattle.hcc_shard.proofs.Gettings.{gets_out, gives_none, gives_seek, got_back, got_copied, got_pinned, got_readable, loads_within, none_in_flight}
use Rattle.hcc_shard.proofs.Names.{load_is}
use Rattle.hcc_shard.proofs.Resting.{quiet_sought, rests_again}
use Rattle.hcc_shard.proofs.shard.Shard.get_held.Goals as goal

pub find-requires-clause-fresh : goal.find-requires-clause-fresh
find-requires-clause-fresh g c =
    none_in_flight (geometry_of c.args.self.now.table) (view c.args.seat.now.seat)
    c.requires.seat.quiet

pub find-requires-clause-load : goal.find-requires-clause-load
find-requires-clause-load g c =
    let load =
    load_is (geometry_of c.args.self.now.table) (view c.args.seat.now.seat).records
    c.requires.seat.quiet.kept in
    let few = c.requires.seat.quiet.few in
    omega arith

pub copy_out-got-requires-clause-holds : goal.copy_out-got-requires-clause-holds
copy_out-got-requires-clause-holds g c =
    let told = c.in-Some.ensures in
    got_pinned g.T.Tag.fits (room_of c.args.self.now.table) IN_FLIGHT c.in-Some.held.pin
    c.args.key (view c.args.seat.now.seat) (view c.find.new.seat) told.found.0
    (none_in_flight (geometry_of c.args.self.now.table) (view c.args.seat.now.seat)
    c.requires.seat.quiet) told.found.1 told.pin.1 told.found.2

pub copy_out-got-requires-clause-readable : goal.copy_out-got-requires-clause-readable
copy_out-got-requires-clause-readable g c =
    let told = c.in-Some.ensures in
    got_readable g.T.Tag.fits (room_of c.args.self.now.table) IN_FLIGHT c.in-Some.held.pin
    c.args.key (view c.args.seat.now.seat) (view c.find.new.seat) told.found.0
    (none_in_flight (geometry_of c.args.self.now.table) (view c.args.seat.now.seat)
    c.requires.seat.quiet) told.found.1 told.pin.1

pub give_back-requires-clause-holds : goal.give_back-requires-clause-holds
give_back-requires-clause-holds g c =
    let told = c.in-Some.ensures in
    rw c.copy_out-got.ensures.view
    (got_pinned g.T.Tag.fits (room_of c.args.self.now.table) IN_FLIGHT c.in-Some.held.pin
    c.args.key (view c.args.seat.now.seat) (view c.find.new.seat) told.found.0
    (none_in_flight (geometry_of c.args.self.now.table) (view c.args.seat.now.seat)
    c.requires.seat.quiet) told.found.1 told.pin.1 told.found.2)

pub returns-in-None-clause-steps : goal.returns-in-None-clause-steps
returns-in-None-clause-steps g c =
    let searched = c.in-None.ensures.steps in
    record {
      visited = searched.visited;
      within = searched.within;
      counted = searched.counted;
      steps = let made = searched.steps in omega arith;
    }

pub returns-in-Some : goal.returns-in-Some
returns-in-Some g c =
    let table = c.args.self.now.table in
    let old = c.args.seat.now in
    let v = view old.seat in
    let w = view c.find.new.seat in
    let pin = c.in-Some.held.pin in
    let told = c.in-Some.ensures in
    let fresh = none_in_flight (geometry_of table) v c.requires.seat.quiet in
    let gives = c.give_back.ensures.gives in
    let left = gives.1 in
    let same : view c.give_back.new.seat ≡ after_give pin.slot IN_FLIGHT left.found w =
    left.view
    ∙ (ap (after_give pin.slot pin.name left.found) c.copy_out-got.ensures.view
    ∙ ap (λ n. after_give pin.slot n left.found w) told.pin.1) in
    let back : Sought v (view c.give_back.new.seat) =
    got_back g.T.Tag.fits (room_of table) IN_FLIGHT pin c.args.key v w told.found.0 fresh
    told.found.1 left.found (view c.give_back.new.seat) same in
    let searched = told.steps in
    let made = searched.steps in
    let read = c.copy_out-got.ensures.steps in
    let gave = c.give_back.ensures.steps in
    let copied =
    got_copied g.T.Tag.fits (room_of table) IN_FLIGHT pin c.args.key v w told.found.0 fresh
    told.found.1
    (λ r. CopiesOut c.copy_out-got.result r.entry.value c.args.buffer.now
    c.copy_out-got.new.buffer) told.pin.1 c.copy_out-got.ensures.copies in
    let searching =
    searches_seek g.T.Tag.fits table c.args.key IN_FLIGHT c.args.self.now.marks (Some pin)
    old.effort c.find.new.effort old.seat c.find.new.seat told.searches in
    let few =
    loads_within (room_of table) c.copy_out-got.result told.found.0.entry.value c.args.buffer.now
    c.copy_out-got.new.buffer copied told.found.1.short in
    record {
      seat =
          rests_again _ old _ c.requires.seat
          (seat_then _ _ _ told.seat
          (seat_then _ _ _ c.copy_out-got.ensures.seat c.give_back.ensures.seat)) refl
          (quiet_sought (geometry_of table) v (view c.give_back.new.seat) c.requires.seat.quiet
          back);
      view = back;
      gets =
          gets_out g.T.Tag.fits c.args.self.now c.args.key (is_useful c.args.as_use)
          c.copy_out-got.result c.args.buffer.now c.copy_out-got.new.buffer old _
          (record {
            began = old;
            given_up = gives_none c.args.self.now old;
            pin = pin;
            held = record old { seat = c.find.new.seat; effort = c.find.new.effort };
            searches = told.searches;
            found = told.found.0;
            finds = told.found.1;
            holds = found_held g.T.Tag.fits (room_of table) pin.slot IN_FLIGHT c.args.key v w
                told.found.0 fresh told.found.1;
            of = (told.found.1.on, told.found.1.single, told.found.2);
            copies = copied;
            read = c.copy_out-got.new.seat;
            kept = c.copy_out-got.ensures.view;
            reads = c.copy_out-got.ensures.seeks;
            loads = c.copy_out-got.ensures.steps;
            gives = gives;
            counted = refl;
          });
      stays =
          goes_then table is_still old.seat c.find.new.seat c.give_back.new.seat
          (seeks_still table old.seat c.find.new.seat searching)
          (goes_then table is_still c.find.new.seat c.copy_out-got.new.seat c.give_back.new.seat
          (seeks_still table c.find.new.seat c.copy_out-got.new.seat c.copy_out-got.ensures.seeks)
          (gives_still table (is_useful c.args.as_use && pin.counting) pin.slot 1 pin.name gives.0
          c.copy_out-got.new.seat c.give_back.new.seat gives.2));
      unused = λ none.
          seeks_then table old.seat c.copy_out-got.new.seat c.give_back.new.seat
          (seeks_then table old.seat c.find.new.seat c.copy_out-got.new.seat searching
          c.copy_out-got.ensures.seeks)
          (gives_seek table (is_useful c.args.as_use && pin.counting) pin.slot 1 pin.name gives.0
          c.copy_out-got.new.seat c.give_back.new.seat (ap (λ b. b && pin.counting) none) gives.2);
      effort = told.effort;
      counts = (refl, refl);
      steps = record {
        visited = searched.visited;
        within = searched.within;
        counted = searched.counted;
        steps = omega arith;
      };
    }

pub returns-in-None-clause-stays : goal.returns-in-None-clause-stays
returns-in-None-clause-stays g c =
    let table = c.args.self.now.table in
    let old = c.args.seat.now in
    seeks_still table old.seat c.find.new.seat
    (searches_seek g.T.Tag.fits table c.args.key IN_FLIGHT c.args.self.now.marks None old.effort
    c.find.new.effort old.seat c.find.new.seat c.in-None.ensures.searches)

pub returns-in-None-clause-unused : goal.returns-in-None-clause-unused
returns-in-None-clause-unused g c none =
    let table = c.args.self.now.table in
    let old = c.args.seat.now in
    searches_seek g.T.Tag.fits table c.args.key IN_FLIGHT c.args.self.now.marks None old.effort
    c.find.new.effort old.seat c.find.new.seat c.in-None.ensures.searches

pub returns-in-None-clause-gets : goal.returns-in-None-clause-gets
returns-in-None-clause-gets g c = record {
  same = refl;
  missed = c.in-None.ensures.missed;
  began = c.args.seat.now;
  given_up = gives_none c.args.self.now c.args.seat.now;
  searches = c.in-None.ensures.searches;
}
