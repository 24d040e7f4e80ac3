use Rattle.hcc_table.proofs.HidesAlone.{hides_shown, settled_keeps}
use Rattle.hcc_table.proofs.laws.law_hidden_alone.Goals as goal

pub returns-clause-hides : goal.returns-clause-hides
returns-clause-hides g c table key name room all before after old new one did =
    hides_shown table one key g.T.Tag.fits name room all before after old new did

pub returns-clause-settles : goal.returns-clause-settles
returns-clause-settles g c table old new one did = settled_keeps table one old new did
