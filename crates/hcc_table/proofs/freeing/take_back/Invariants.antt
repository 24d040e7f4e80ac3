use Rattle.std.proofs.Common.{◌+◌, ◌≤◌, length}
use Rattle.hcc_rule.specs.Seats.{made, view}
use Rattle.hcc_table.specs.Seeking.{is_unpass, GoesOnBy}
use Rattle.hcc_table.specs.Steps.{Adds}
use Rattle.hcc_table.proofs.TakesBack.{IsTakingBack}
use Rattle.hcc_table.proofs.freeing.take_back.Given as goal

abbrev pub invariant-loop : goal.invariant-loop
invariant-loop g l =
    IsTakingBack l.table.geometry.slots l.fn.key l.slot l.counter l.walk l.fn.seat l.seat
    × (made l.seat + length (view l.seat).work.trail
    ≤ made l.fn.seat + length (view l.fn.seat).work.trail) × Adds l.fn.seat l.seat
    × GoesOnBy l.table is_unpass l.fn.seat l.seat
