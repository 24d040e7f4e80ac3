use Rattle.hcc_table.proofs.KeepsLasting.{pins_shown, pins_stay}
use Rattle.hcc_table.proofs.laws.law_pinned_alone.Goals as goal

pub returns-clause-shown : goal.returns-clause-shown
returns-clause-shown g c table name slot room done before after old new one did =
    pins_shown g.T.Tag.fits table name slot one done did

pub returns-clause-stays : goal.returns-clause-stays
returns-clause-stays g c table name slot room done before after old new one did =
    pins_stay g.T.Tag.fits table name slot one done did
