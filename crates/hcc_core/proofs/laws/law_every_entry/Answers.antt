use Rattle.hcc_core.proofs.Insertions.{balanced, shown_are_once, freed_are_gone, frees_are_given}
use Rattle.hcc_core.proofs.laws.law_every_entry.Goals as goal

pub returns-clause-balance : goal.returns-clause-balance
returns-clause-balance c world events l = balanced events world l

pub returns-clause-once : goal.returns-clause-once
returns-clause-once c = shown_are_once

pub returns-clause-gone : goal.returns-clause-gone
returns-clause-gone c = freed_are_gone

pub returns-clause-given : goal.returns-clause-given
returns-clause-given c = frees_are_given
