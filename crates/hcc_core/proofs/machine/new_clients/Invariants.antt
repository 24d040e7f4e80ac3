use Rattle.std.proofs.Common.{◌≡◌, replicate}
use Rattle.hcc_core.specs.Opening.{new_client}
use Rattle.hcc_core.proofs.machine.new_clients.Given as goal

abbrev pub invariant-loop : goal.invariant-loop
invariant-loop l = l.clients.items ≡ replicate l.counter new_client
