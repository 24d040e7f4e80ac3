use Rattle.std.proofs.Common.{inr, refl, subst}
use Rattle.hcc_table.specs.Pins.{is_useful}
use Rattle.hcc_table.specs.Still.{is_still}
use Rattle.hcc_table.proofs.Loads.{loads_seek}
use Rattle.hcc_table.proofs.Seeking.{goes_then, seeks_then}
use Rattle.hcc_table.proofs.Still.{seeks_still}
use Rattle.hcc_shard.specs.Gets.{GetsHeld}
use Rattle.hcc_shard.proofs.Gettings.{held_since}
use Rattle.hcc_shard.proofs.shard.Shard.get.Goals as goal

pub returns-in-Some-clause-stays : goal.returns-in-Some-clause-stays
returns-in-Some-clause-stays g c =
    let table = c.args.self.now.table in
    seeks_still table c.args.seat.now.seat c.read_optimistic.new.seat
    (loads_seek table c.args.seat.now.seat c.read_optimistic.new.seat c.in-Some.ensures.loads)

pub returns-in-Some-clause-unused : goal.returns-in-Some-clause-unused
returns-in-Some-clause-unused g c none =
    loads_seek c.args.self.now.table c.args.seat.now.seat c.read_optimistic.new.seat
    c.in-Some.ensures.loads

pub returns-clause-gets : goal.returns-clause-gets
returns-clause-gets g c =
    let old = c.args.seat.now in
    let left = c.in_default.ensures.declined in
    let began = record old { seat = c.read_optimistic.new.seat } in
    let held =
    subst (λ e. GetsHeld g.T.Tag.fits c.args.self.now c.args.key (is_useful c.args.as_use)
    c.get_held.result c.args.buffer.now c.get_held.new.buffer (record began { effort = e })
    c.get_held.new.seat) left.1
    (subst (λ b. GetsHeld g.T.Tag.fits c.args.self.now c.args.key (is_useful c.args.as_use)
    c.get_held.result b c.get_held.new.buffer
    (record began { effort = c.read_optimistic.new.effort }) c.get_held.new.seat) left.0
    c.get_held.ensures.gets) in
    inr (held_since g.T.Tag.fits c.args.self.now c.args.key (is_useful c.args.as_use)
    c.get_held.result c.args.buffer.now c.get_held.new.buffer old began c.get_held.new.seat
    (record {
      loads = c.in_default.ensures.loads;
      sought = c.in_default.ensures.view;
      counted = refl;
    }) held)

pub returns-clause-stays : goal.returns-clause-stays
returns-clause-stays g c =
    let table = c.args.self.now.table in
    let old = c.args.seat.now.seat in
    let began = c.read_optimistic.new.seat in
    goes_then table is_still old began c.get_held.new.seat.seat
    (seeks_still table old began (loads_seek table old began c.in_default.ensures.loads))
    c.get_held.ensures.stays

pub returns-clause-unused : goal.returns-clause-unused
returns-clause-unused g c none =
    let table = c.args.self.now.table in
    let old = c.args.seat.now.seat in
    let began = c.read_optimistic.new.seat in
    seeks_then table old began c.get_held.new.seat.seat
    (loads_seek table old began c.in_default.ensures.loads) (c.get_held.ensures.unused none)
