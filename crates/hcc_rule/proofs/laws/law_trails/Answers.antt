use Rattle.hcc_rule.proofs.Limits.TrailLimits.{trail_counted}
use Rattle.hcc_rule.proofs.laws.law_trails.Goals as goal

pub returns : goal.returns
returns g c = trail_counted g.T.Tag.fits
