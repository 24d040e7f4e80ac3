use Rattle.std.proofs.Common.{refl}
use Rattle.hcc_play.proofs.Asking.{no_run}
use Rattle.hcc_play.proofs.request.calls_of.Goals as goal

pub returns-in_err-config : goal.returns-in_err-config
returns-in_err-config c = rw c.from_residual.ensures (no_run _ c.in_err-config.ensures)

pub returns : goal.returns
returns c = (refl, c.in_ok-config.ensures)
