use Rattle.std.proofs.Common.{refl}
use Rattle.hcc_play.proofs.Asking.{no_blocks}
use Rattle.hcc_play.proofs.request.reads_of.Goals as goal

pub returns-in_default : goal.returns-in_default
returns-in_default c = no_blocks _ c.in_default.ensures

pub returns : goal.returns
returns c = (refl, c.in-Some.ensures, c.in_ok-paths.ensures)
