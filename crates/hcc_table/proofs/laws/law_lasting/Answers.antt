use Rattle.hcc_table.proofs.Lasting.{finds_lasting}
use Rattle.hcc_table.proofs.laws.law_lasting.Goals as goal

pub returns : goal.returns
returns g c = λ table key name. finds_lasting g.T.Tag.fits table key name
