use Rattle.hcc_rule.proofs.Limits.LedgerLimits.{real_limit, usage_real, usage_limit, places_limit, occupancy_limit, standing_limit}
use Rattle.hcc_rule.proofs.laws.law_ledgers.Goals as goal

pub returns-clause-usage : goal.returns-clause-usage
returns-clause-usage g c = usage_real g.T.Tag.fits

pub returns-clause-real : goal.returns-clause-real
returns-clause-real g c = real_limit g.T.Tag.fits

pub returns-clause-usage_low : goal.returns-clause-usage_low
returns-clause-usage_low g c = usage_limit g.T.Tag.fits

pub returns-clause-places : goal.returns-clause-places
returns-clause-places g c = places_limit g.T.Tag.fits

pub returns-clause-occupancy : goal.returns-clause-occupancy
returns-clause-occupancy g c = λ p s h. (h.ledgers.occupancy, occupancy_limit g.T.Tag.fits p s h)

pub returns-clause-standing : goal.returns-clause-standing
returns-clause-standing g c = λ p s h. (h.ledgers.standing, standing_limit g.T.Tag.fits p s h)
