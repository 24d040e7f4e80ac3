use Rattle.std.proofs.Common.{◌∙◌}
use Rattle.hcc_rule.proofs.Limits.Rounds.{due_once}
use Rattle.hcc_rule.proofs.laws.law_hand.Goals as goal

pub returns-clause-hand : goal.returns-clause-hand
returns-clause-hand g c = λ p s h. h.turned ∙ h.turns

pub returns-clause-due : goal.returns-clause-due
returns-clause-due g c = λ p planned hand slot near.
    due_once p.geometry.slots planned.power planned.some_slots slot near hand
