use Rattle.std.proofs.Common.{◌≡◌, ◌+◌, ◌*◌, ◌≤◌}
use Rattle.hcc_rule.specs.Seats.{made}
use Rattle.hcc_table.specs.Optimistic.{OnlyLoads}
use Rattle.hcc_table.proofs.Finds.{IsSearching}
use Rattle.hcc_table.proofs.ReadProbes.{LackedUpTo}
use Rattle.hcc_table.proofs.optimistic.read_optimistic.Given as goal

abbrev pub invariant-loop-probe : goal.invariant-loop-probe
invariant-loop-probe g l =
    IsSearching l.table.geometry.slots l.key l.probe l.walk l.fn.seat l.seat
    × OnlyLoads l.table l.fn.seat l.seat × LackedUpTo l.table l.key l.probe l.fn.seat l.seat
    × (made l.seat ≤ made l.fn.seat + 4 * l.probe) × (l.buffer ≡ l.fn.buffer)
    × (l.effort ≡ l.fn.effort)
