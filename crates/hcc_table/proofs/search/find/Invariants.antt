use Rattle.std.proofs.Common.{◌+◌, ◌*◌, ◌≤◌}
use Rattle.hcc_rule.specs.Seats.{made}
use Rattle.hcc_table.specs.Efforts.{Took}
use Rattle.hcc_table.specs.Steps.{AddsUnmarked}
use Rattle.hcc_table.proofs.Finds.{IsSearching}
use Rattle.hcc_table.proofs.Probings.{HasPassed}
use Rattle.hcc_table.proofs.search.find.Given as goal

abbrev pub invariant-loop-probe : goal.invariant-loop-probe
invariant-loop-probe g l =
    IsSearching l.table.geometry.slots l.key l.probe l.walk l.fn.seat l.seat
    × Took 0 0 l.probe l.fn.effort l.effort
    × (made l.seat ≤ made l.fn.seat + 7 * l.probe) × AddsUnmarked l.fn.seat l.seat
    × HasPassed g.T.Tag.fits l.table l.key l.name l.probe l.fn.effort l.effort l.fn.seat l.seat
