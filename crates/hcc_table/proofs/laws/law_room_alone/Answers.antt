use Rattle.hcc_table.proofs.Full.{never_full}
use Rattle.hcc_table.proofs.laws.law_room_alone.Goals as goal

pub returns : goal.returns
returns g c table key name weight before after old new one began did =
    never_full g.T.Tag.fits table one began key name weight did
