use Rattle.hcc_core.proofs.Readable.{few_slots}
use Rattle.hcc_core.proofs.world.World.slot.Goals as goal

pub returns-clause-few : goal.returns-clause-few
returns-clause-few c = rw (← c.self.view_is) (few_slots _ c.self.invariant)
