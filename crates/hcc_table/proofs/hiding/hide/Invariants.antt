use Rattle.std.proofs.Common.{◌+◌, ◌*◌, ◌≤◌}
use Rattle.hcc_rule.specs.Seats.{made, view}
use Rattle.hcc_table.specs.Efforts.{Took}
use Rattle.hcc_table.specs.Lists.{Hands, has_room}
use Rattle.hcc_table.proofs.HideSteps.{HasHid}
use Rattle.hcc_table.proofs.Hidings.{IsHiding}
use Rattle.hcc_table.proofs.hiding.hide.Given as goal

abbrev pub invariant-loop : goal.invariant-loop
invariant-loop g l =
    IsHiding l.table.geometry.slots l.key l.counter l.walk l.all l.fn.seat l.seat
    × Took l.counter l.counter (2 * l.counter) l.fn.effort l.effort
    × (made l.seat ≤ made l.fn.seat + 9 * l.counter
    + (l.table.geometry.slots + 4 + g.L.FreedList.loads) * l.all.slots)
    × HasHid g.T.Tag.fits l.table l.key l.name l.counter
    (has_room 1 (g.L.FreedList.shelf l.list)) l.all l.fn.effort l.effort l.fn.seat l.seat
    × Hands (g.L.FreedList.shelf l.fn.list) (g.L.FreedList.shelf l.list) (view l.fn.seat)
    (view l.seat)
