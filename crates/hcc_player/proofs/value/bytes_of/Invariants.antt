use Rattle.std.proofs.Common.{◌≡◌, length}
use Rattle.hcc_player.specs.Value.{bytes_of}
use Rattle.hcc_player.proofs.value.bytes_of.Given as goal
use Rattle.hcc_player.proofs.ValueLemmas.{behind}

abbrev pub invariant-loop-rest : goal.invariant-loop-rest
invariant-loop-rest l = behind l.bytes.items (bytes_of l.rest) ≡ bytes_of l.digits

abbrev pub decreases-loop-rest : goal.decreases-loop-rest
decreases-loop-rest l = length l.rest
