use Rattle.std.proofs.Common.{◌≡◌, ◌-◌, ◌≤◌, true}
use Rattle.hcc_rule.specs.Seats.{view}
use Rattle.hcc_table.specs.Lists.{Hands}
use Rattle.hcc_charge.specs.Evicted.{most_turns, turn_room}
use Rattle.hcc_charge.proofs.Turnings.{IsGoing}
use Rattle.hcc_charge.proofs.evicting.evict.Given as goal

abbrev pub invariant-loop-seat : goal.invariant-loop-seat
invariant-loop-seat g l = record {
  going : IsGoing g.T.Tag.fits l.table l.ask g.L.FreedList.loads l.all l.fn.seat l.seat
      l.fn.effort l.effort;
  untold : l.tally ≡ l.fn.tally;
  unmade : l.all.turns ≡ 0 → l.list ≡ l.fn.list;
  made : 1 ≤ l.all.turns → turn_room (g.L.FreedList.shelf l.fn.list) ≡ true;
  list : Hands (g.L.FreedList.shelf l.fn.list) (g.L.FreedList.shelf l.list) (view l.fn.seat)
      (view l.seat);
}

abbrev pub decreases-loop-seat : goal.decreases-loop-seat
decreases-loop-seat g l = most_turns l.slots - l.all.turns
