use Rattle.hcc_rule.specs.Seats.{view}
use Rattle.hcc_table.specs.Lists.{Hands}
use Rattle.hcc_charge.proofs.Visitings.{IsTurning}
use Rattle.hcc_charge.proofs.evicting.turn.Given as goal

abbrev pub invariant-loop-k : goal.invariant-loop-k
invariant-loop-k g l = record {
  turning : IsTurning g.T.Tag.fits l.table g.L.FreedList.loads l.hand l.k l.all l.fn.seat l.seat
      l.fn.effort l.effort;
  list : Hands (g.L.FreedList.shelf l.fn.list) (g.L.FreedList.shelf l.list) (view l.fn.seat)
      (view l.seat);
}
