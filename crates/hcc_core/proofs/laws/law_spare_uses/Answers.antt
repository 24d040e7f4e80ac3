use Rattle.hcc_core.proofs.SpareUses.{clock_spares, use_leaves}
use Rattle.hcc_core.proofs.laws.law_spare_uses.Goals as goal

pub returns-clause-clock : goal.returns-clause-clock
returns-clause-clock c = clock_spares

pub returns-clause-used : goal.returns-clause-used
returns-clause-used c = use_leaves
