use Rattle.std.proofs.Common.{◌+◌, ◌*◌, ◌≤◌}
use Rattle.hcc_rule.specs.Seats.{made}
use Rattle.hcc_table.specs.Seeking.{Seeks}
use Rattle.hcc_table.proofs.Values.{IsReading}
use Rattle.hcc_table.proofs.readings.copy_from.Given as goal

abbrev pub invariant-loop-block : goal.invariant-loop-block
invariant-loop-block g l =
    IsReading l.held.pin.name l.first (32 * l.block) l.fn.seat l.seat l.fn.buffer l.buffer
    × (made l.seat ≤ made l.fn.seat + 32 * l.block) × Seeks l.table l.fn.seat l.seat

abbrev pub invariant-loop-four : goal.invariant-loop-four
invariant-loop-four g l =
    IsReading l.held.pin.name l.first (4 * l.four) l.fn.seat l.seat l.fn.buffer l.buffer
    × (made l.seat ≤ made l.fn.seat + 4 * l.four) × Seeks l.table l.fn.seat l.seat

abbrev pub invariant-loop-part : goal.invariant-loop-part
invariant-loop-part g l =
    IsReading l.held.pin.name l.first (4 * l.four + l.part) l.fn.seat l.seat l.fn.buffer l.buffer
    × (made l.seat ≤ made l.fn.seat + (4 * l.four + l.part)) × Seeks l.table l.fn.seat l.seat

abbrev pub invariant-loop-index : goal.invariant-loop-index
invariant-loop-index g l =
    IsReading l.held.pin.name l.first l.index l.fn.seat l.seat l.fn.buffer l.buffer
    × (made l.seat ≤ made l.fn.seat + l.index) × Seeks l.table l.fn.seat l.seat
