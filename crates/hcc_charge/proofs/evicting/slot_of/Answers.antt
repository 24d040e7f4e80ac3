use Rattle.hcc_rule.proofs.Probes.ProbeNumbers.{mask_within}
use Rattle.hcc_charge.proofs.evicting.slot_of.Goals as goal

pub returns : goal.returns
returns c = mask_within 16 c.args.slots c.args.number c.requires.power
