use Rattle.std.proofs.Common.{arith}
use Rattle.hcc_rule.specs.Images.{entries_in}
use Rattle.hcc_rule.proofs.Limits.Beginnings.{entry_shown, slot_cleared}
use Rattle.hcc_rule.proofs.Seats.Openings.{opens_logged}
use Rattle.hcc_rule.proofs.laws.law_opening.Goals as goal

pub returns-clause-opens : goal.returns-clause-opens
returns-clause-opens g c = λ p planned image words begins.
    opens_logged g.T.Tag.fits p record {
      some_slot = omega arith;
      slots = planned.slots;
      some_client = planned.some_client;
      clients = planned.clients;
      capacity = let low = planned.capacity_low in omega arith;
    } image words begins

pub returns-clause-words : goal.returns-clause-words
returns-clause-words g c = λ p s h none. h.begins none

pub returns-clause-shown : goal.returns-clause-shown
returns-clause-shown g c = λ p words begins rising.
    entry_shown p.geometry.slots p.geometry.room (entries_in p.image) words begins rising

pub returns-clause-others : goal.returns-clause-others
returns-clause-others g c = λ p words begins.
    slot_cleared p.geometry.slots p.geometry.room (entries_in p.image) words begins
