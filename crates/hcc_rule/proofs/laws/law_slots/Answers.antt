use Rattle.hcc_rule.proofs.Limits.SlotLimits.{references_are, words_of_records}
use Rattle.hcc_rule.proofs.laws.law_slots.Goals as goal

pub returns-clause-displacement : goal.returns-clause-displacement
returns-clause-displacement g c = λ p s h slot near. h.trails.passed slot near

pub returns-clause-references : goal.returns-clause-references
returns-clause-references g c = references_are g.T.Tag.fits

pub returns-clause-entries : goal.returns-clause-entries
returns-clause-entries g c = words_of_records g.T.Tag.fits
