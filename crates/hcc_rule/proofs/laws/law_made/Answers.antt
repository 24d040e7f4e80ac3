use Rattle.hcc_rule.proofs.Limits.MadeEntries.{records_made}
use Rattle.hcc_rule.proofs.Limits.MadeOnce.{slots_made, taken_made, held_untaken}
use Rattle.hcc_rule.proofs.laws.law_made.Goals as goal

pub returns-clause-slots : goal.returns-clause-slots
returns-clause-slots g c = slots_made g.T.Tag.fits

pub returns-clause-records : goal.returns-clause-records
returns-clause-records g c = records_made g.T.Tag.fits

pub returns-clause-taken : goal.returns-clause-taken
returns-clause-taken g c = taken_made g.T.Tag.fits

pub returns-clause-held : goal.returns-clause-held
returns-clause-held g c = held_untaken g.T.Tag.fits
