use Rattle.std.proofs.Common.{[], arith}
use Rattle.hcc_rule.specs.Callers.{plan_of}
use Rattle.hcc_rule.specs.Seats.{view}
use Rattle.hcc_shard_tests.proofs.ChargeGuests.{guest_may, guest_placed}
use Rattle.hcc_shard_tests.proofs.charge.guest.Guest.place.Goals as goal

pub insert-insertion-requires-clause-may : goal.insert-insertion-requires-clause-may
insert-insertion-requires-clause-may c =
    let me = c.args.self.now in
    let few = c.requires.few in
    let draft = c.requires.draft in
    guest_may _ (plan_of me.table.now) c.args.draft [] me.client me.shown (view me.seat)
    c.requires.granted draft me.known few (record {
      fitting = tt;
      short = omega arith;
      bytes = tt;
      numbered = let serial = draft.serial in omega arith;
      paid = draft.charge;
      small = draft.small;
    })

pub returns-in-Placed-clause-idle : goal.returns-in-Placed-clause-idle
returns-in-Placed-clause-idle c =
    let me = c.args.self.now in
    let told = c.in-Placed.ensures.view in
    guest_placed _ _ told.0 me.client me.shown c.args.draft [] (view me.seat)
    (view c.insert-insertion.new.seat) c.requires.granted c.requires.draft told.1
