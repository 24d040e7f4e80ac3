use Rattle.std.proofs.Common.{◌≡◌, ◌++◌, ◌≤◌, ◌<◌, string_bytes, drop, length}
use Rattle.hcc_core.specs.declared.limits.TheConstants.{MOST_SLOTS}
use Rattle.hcc_player.specs.Text.{slots_from}
use Rattle.hcc_player.proofs.print.push_slots.Given as goal

abbrev pub invariant-loop-number : goal.invariant-loop-number
invariant-loop-number l = record {
  few : 0 < l.number → length l.world.slots ≤ MOST_SLOTS;
  within : l.number ≤ length l.world.slots;
  written : string_bytes l.out ++ slots_from l.world l.number (drop l.number l.world.slots)
      ≡ string_bytes l.fn.out ++ slots_from l.world 0 l.world.slots;
}
