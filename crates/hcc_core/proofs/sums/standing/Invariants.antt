use Rattle.std.proofs.Common.{◌≡◌, ◌+◌, drop}
use Rattle.hcc_core.specs.Sums.{total}
use Rattle.hcc_core.specs.World.{standing_of}
use Rattle.hcc_core.proofs.sums.standing.Given as goal

abbrev pub invariant-loop-client : goal.invariant-loop-client
invariant-loop-client l = l.sum + total standing_of (drop l.client-index l.clients)
    ≡ total standing_of l.clients
