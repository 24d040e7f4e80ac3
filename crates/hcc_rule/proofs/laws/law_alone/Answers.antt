use Rattle.hcc_rule.proofs.Seats.Runs.{alone_run, alone_world}
use Rattle.hcc_rule.proofs.laws.law_alone.Goals as goal

pub returns-clause-run : goal.returns-clause-run
returns-clause-run g c = alone_run g.T.Tag.fits

pub returns-clause-world : goal.returns-clause-world
returns-clause-world g c = alone_world g.T.Tag.fits
