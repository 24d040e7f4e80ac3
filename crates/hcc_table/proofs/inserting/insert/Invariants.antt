use Rattle.std.proofs.Common.{◌+◌, ◌-◌, ◌*◌, ◌≤◌}
use Rattle.hcc_rule.specs.Seats.{made}
use Rattle.hcc_table.specs.Efforts.{Took}
use Rattle.hcc_table.specs.Steps.{Adds}
use Rattle.hcc_table.proofs.InsertsSteps.{HasTried}
use Rattle.hcc_table.proofs.InsertsTries.{IsTrying}
use Rattle.hcc_table.proofs.inserting.insert.Given as goal

abbrev pub invariant-loop-slot : goal.invariant-loop-slot
invariant-loop-slot g l =
    IsTrying l.table.geometry.slots l.draft.key l.passed l.walk l.fn.seat l.seat
    × Took l.passed l.passed l.passed l.fn.effort l.effort
    × (made l.seat ≤ made l.fn.seat + 7 * l.passed) × Adds l.fn.seat l.seat
    × HasTried g.T.Tag.fits l.table l.draft.key l.name l.draft.countdown l.passed l.fn.effort
    l.effort l.fn.seat l.seat

abbrev pub decreases-loop-slot : goal.decreases-loop-slot
decreases-loop-slot g l = l.table.geometry.slots - l.passed
