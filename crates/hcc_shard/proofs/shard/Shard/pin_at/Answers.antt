use Rattle.std.proofs.Common.{refl, ap, arith}
use Rattle.hcc_core.specs.declared.client.Client.{Client}
use Rattle.hcc_rule.specs.Callers.{geometry_of}
use Rattle.hcc_rule.specs.Seats.{view}
use Rattle.hcc_table.specs.declared.keeping.AtSlot.TheVariants.{Nothing, Held, Freed}
use Rattle.hcc_table.specs.Seeking.{is_settling}
use Rattle.hcc_table.proofs.Finds.{seat_then}
use Rattle.hcc_table.proofs.Logs.{adds_none}
use Rattle.hcc_table.proofs.Seeking.{goes_none}
use Rattle.hcc_shard.proofs.Keepings.{passed_freed, passed_only, passed_takings, quiet_held, quiet_passed, unfreed_takings}
use Rattle.hcc_shard.proofs.Names.{load_is, not_held}
use Rattle.hcc_shard.proofs.Resting.{rests_again}
use Rattle.hcc_shard.proofs.shard.Shard.pin_at.Goals as goal

pub pin_at-requires-clause-fresh : goal.pin_at-requires-clause-fresh
pin_at-requires-clause-fresh g c =
    not_held c.args.serial c.args.serial (omega arith) (view c.args.seat.now.seat).records
    c.requires.serial.records

pub pin_at-requires-clause-load : goal.pin_at-requires-clause-load
pin_at-requires-clause-load g c =
    let load =
    load_is (geometry_of c.args.self.now.table) (view c.args.seat.now.seat).records
    c.requires.seat.quiet.kept in
    let few = c.requires.few in
    omega arith

pub pin_at-requires-clause-space : goal.pin_at-requires-clause-space
pin_at-requires-clause-space g c =
    let none = ap (λ (w : Client). w.freed) c.requires.seat.quiet.idle in omega arith

pub returns-in-Nothing-clause-unheld : goal.returns-in-Nothing-clause-unheld
returns-in-Nothing-clause-unheld g c = passed_only c.in-Nothing.ensures.view

pub returns-in-Nothing-clause-seat : goal.returns-in-Nothing-clause-seat
returns-in-Nothing-clause-seat g c =
    rests_again _ c.args.seat.now _ c.requires.seat c.in-Nothing.ensures.seat refl
    (quiet_passed (geometry_of c.args.self.now.table) c.requires.seat.quiet
    (returns-in-Nothing-clause-unheld g c))

pub returns-in-Nothing-clause-walks : goal.returns-in-Nothing-clause-walks
returns-in-Nothing-clause-walks g c = record {
  done = Nothing;
  held_is = refl;
  mid = c.pin_at.new.seat;
  pins = c.in-Nothing.ensures.pins;
  taken = unfreed_takings c.in-Nothing.ensures.view.searched;
  kept = λ _. refl;
  settled = tt;
  rest = adds_none c.pin_at.new.seat c.pin_at.new.seat refl;
  settles = goes_none c.args.self.now.table is_settling c.pin_at.new.seat c.pin_at.new.seat refl;
}

pub returns-in-Held-clause-seat : goal.returns-in-Held-clause-seat
returns-in-Held-clause-seat g c =
    let told = c.in-Held.ensures.view in
    rests_again _ c.args.seat.now _ c.requires.seat c.in-Held.ensures.seat refl
    (quiet_held (geometry_of c.args.self.now.table) c.requires.seat.quiet g.T.Tag.fits
    c.args.slot c.args.serial told.2 told.3 c.requires.slot c.requires.serial.low
    c.requires.few)

pub returns-in-Held-clause-walks : goal.returns-in-Held-clause-walks
returns-in-Held-clause-walks g c = record {
  done = Held c.in-Held.pin;
  held_is = refl;
  mid = c.pin_at.new.seat;
  pins = c.in-Held.ensures.pins;
  taken = unfreed_takings c.in-Held.ensures.view.3.searched;
  kept = λ _. refl;
  settled = tt;
  rest = adds_none c.pin_at.new.seat c.pin_at.new.seat refl;
  settles = goes_none c.args.self.now.table is_settling c.pin_at.new.seat c.pin_at.new.seat refl;
}

pub returns-in-Freed-clause-unheld : goal.returns-in-Freed-clause-unheld
returns-in-Freed-clause-unheld g c =
    let told = c.in-Freed.ensures.view in
    passed_freed c.requires.seat.quiet.idle told.1 told.2 told.3 c.settle.ensures.view

pub returns-in-Freed-clause-seat : goal.returns-in-Freed-clause-seat
returns-in-Freed-clause-seat g c =
    rests_again _ c.args.seat.now _ c.requires.seat
    (seat_then _ _ _ c.in-Freed.ensures.seat c.settle.ensures.seat) refl
    (quiet_passed (geometry_of c.args.self.now.table) c.requires.seat.quiet
    (returns-in-Freed-clause-unheld g c))

pub returns-in-Freed-clause-walks : goal.returns-in-Freed-clause-walks
returns-in-Freed-clause-walks g c = record {
  done = Freed c.in-Freed.charge;
  held_is = refl;
  mid = c.pin_at.new.seat;
  pins = c.in-Freed.ensures.pins;
  taken = passed_takings c.in-Freed.ensures.view.1 c.settle.ensures.view;
  kept = λ none. cc;
  settled = c.settle.ensures.settles;
  rest = c.settle.ensures.adds;
  settles = c.settle.ensures.by;
}
