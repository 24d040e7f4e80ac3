use Rattle.std.proofs.Common.{arith}
use Rattle.hcc_rule.specs.Images.{BeginsWith, entries_in}
use Rattle.hcc_rule.specs.ImageLimits.{IsImageFor}
use Rattle.hcc_rule.proofs.Seats.Openings.{opens_logged}
use Rattle.hcc_rule.proofs.table.RuleTable.begun.Goals as goal

pub new-requires : goal.new-requires
new-requires g c =
    let planned = c.requires.planned in
    let plan = c.args.plan in
    let image : IsImageFor g.T.Tag.fits plan.tag plan.geometry plan.capacity plan.strict
    (entries_in plan.image) = rw (← c.requires.entries) c.requires.image in
    let begins : BeginsWith plan.geometry.slots plan.geometry.room (entries_in plan.image)
    c.as_slice.result.now =
    rw (c.as_slice.ensures.value, ← c.requires.entries) c.in_ok-words.ensures.begins in
    opens_logged g.T.Tag.fits plan record {
      some_slot = omega arith;
      slots = planned.slots;
      some_client = planned.some_client;
      clients = planned.clients;
      capacity = let low = planned.capacity_low in omega arith;
    } image c.as_slice.result.now begins
