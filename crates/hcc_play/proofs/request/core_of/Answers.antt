use Rattle.std.proofs.Common.{refl}
use Rattle.hcc_play.proofs.Asking.{no_core}
use Rattle.hcc_play.proofs.request.core_of.Goals as goal

pub returns-in_err-setup : goal.returns-in_err-setup
returns-in_err-setup c = rw c.from_residual.ensures (no_core _ c.in_err-setup.ensures.given)

pub returns : goal.returns
returns c = (refl, c.in_ok-setup.ensures.given.0, c.in_ok-setup.ensures.given.1)
