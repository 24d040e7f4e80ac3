use Rattle.std.proofs.Common.{◌+◌, ◌≤◌}
use Rattle.hcc_rule.specs.Seats.{made}
use Rattle.hcc_table.specs.Seeking.{is_write, GoesOnBy}
use Rattle.hcc_table.specs.Steps.{Adds}
use Rattle.hcc_table.proofs.InsertsWords.{IsWriting}
use Rattle.hcc_table.proofs.build.write_payload.Given as goal

abbrev pub invariant-loop-k : goal.invariant-loop-k
invariant-loop-k g l =
    IsWriting l.value l.k l.fn.seat l.seat × (made l.seat ≤ made l.fn.seat + l.k)
    × Adds l.fn.seat l.seat × GoesOnBy l.table is_write l.fn.seat l.seat
