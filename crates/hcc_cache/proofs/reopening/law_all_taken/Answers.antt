use Rattle.hcc_cache.proofs.Beginnings.AllComeIn.{roomy_taken}
use Rattle.hcc_cache.proofs.reopening.law_all_taken.Goals as goal

pub returns : goal.returns
returns c = λ config image roomy. roomy_taken config image roomy
