use Rattle.std.proofs.Common.{◌+◌, ◌%◌, ◌∙◌, ap, arith}
use Rattle.hcc_table.proofs.Handed.{hands_more, room_left}
use Rattle.hcc_charge.proofs.Visitings.{turning_on}
use Rattle.hcc_charge.proofs.evicting.turn.Goals as goal

pub loop-k-preserved : goal.loop-k-preserved
loop-k-preserved g c =
    let table = c.args.table.now in
    let told = c.visit_slot-here.ensures in
    let hand = c.turn-hand.result in
    record {
      turning = turning_on g.T.Tag.fits table g.L.FreedList.loads hand c.loop-k.k _ c.loop-k.all
          c.visit_slot-here.result c.with-all.result c.args.seat.now c.loop-k.seat
          c.visit_slot-here.new.seat c.args.effort.now c.loop-k.effort c.visit_slot-here.new.effort
          c.loop-k.invariant.turning
          (c.slot_of-slot.ensures
          ∙ ap (λ z. (z + c.loop-k.k) % c.geometry-slots.result.slots) c.slot_of-from.ensures
          ∙ ap (λ z. (hand % z.slots + c.loop-k.k) % z.slots) c.geometry-slots.ensures)
          told.seat told.view told.visited told.turns told.modest told.effort c.with-all.ensures
          told.steps;
      list = hands_more c.loop-k.invariant.list told.list;
    }

pub visit_slot-here-requires-clause-room : goal.visit_slot-here-requires-clause-room
visit_slot-here-requires-clause-room g c =
    let t = c.loop-k.invariant.turning in
    room_left c.loop-k.all.slots c.loop-k.all.charge 3 1 c.loop-k.invariant.list t.swept.taken
    (let few = t.modest.slots in omega (arith, few)) c.requires.room
