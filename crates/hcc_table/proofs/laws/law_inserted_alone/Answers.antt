use Rattle.hcc_table.proofs.InsertsAlone.{inserts_shown}
use Rattle.hcc_table.proofs.laws.law_inserted_alone.Goals as goal

pub returns : goal.returns
returns g c table key name weight answer before after old new one did =
    inserts_shown table one key g.T.Tag.fits name weight before after old new answer did
