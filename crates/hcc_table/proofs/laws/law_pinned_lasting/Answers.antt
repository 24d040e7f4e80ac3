use Rattle.hcc_table.proofs.KeepsLasting.{pins_last}
use Rattle.hcc_table.proofs.laws.law_pinned_lasting.Goals as goal

pub returns : goal.returns
returns g c table name slot room done before after old new did =
    pins_last g.T.Tag.fits table name slot done did
