use Rattle.std.proofs.Common.{refl}
use Rattle.hcc_core.specs.Opening.{opening_of}
use Rattle.hcc_core.proofs.machine.Machine.opening.Goals as goal

pub returns : goal.returns
unfolding opening_of
returns c = rw (c.in_ok-slots.ensures, c.in_ok-clients.ensures) refl
