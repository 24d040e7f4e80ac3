use Rattle.hcc_rule.proofs.Seats.StaysShown.{knows_still}
use Rattle.hcc_rule.proofs.laws.law_known_shown.Goals as goal

pub returns : goal.returns
returns g c = knows_still g.T.Tag.fits
