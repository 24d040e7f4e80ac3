use Rattle.hcc_core.proofs.Opening.{lawful_is, lawful_opening}
use Rattle.hcc_core.proofs.world.World.opening.Goals as goal

pub invariant_of-result : goal.invariant_of-result
invariant_of-result c =
    rw c.in_ok-machine.ensures (lawful_is _ (lawful_opening c.args.setup c.requires))
