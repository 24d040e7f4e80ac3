use Rattle.hcc_rule.proofs.Seats.StaysShown.{others_took, quiet_shown, states_show, stays_shown, taken_replied}
use Rattle.hcc_rule.proofs.laws.law_shown.Goals as goal

pub returns-clause-stays : goal.returns-clause-stays
returns-clause-stays g c = λ p. stays_shown p g.T.Tag.fits

pub returns-clause-states : goal.returns-clause-states
returns-clause-states g c = states_show g.T.Tag.fits

pub returns-clause-others : goal.returns-clause-others
returns-clause-others g c = others_took

pub returns-clause-replied : goal.returns-clause-replied
returns-clause-replied g c = λ p. taken_replied p

pub returns-clause-quiet : goal.returns-clause-quiet
returns-clause-quiet g c = λ p. quiet_shown p g.T.Tag.fits
