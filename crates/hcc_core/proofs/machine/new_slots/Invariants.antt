use Rattle.std.proofs.Common.{◌≡◌, replicate}
use Rattle.hcc_core.specs.Opening.{new_slot}
use Rattle.hcc_core.proofs.machine.new_slots.Given as goal

abbrev pub invariant-loop : goal.invariant-loop
invariant-loop l = l.slots.items ≡ replicate l.counter new_slot
