use Rattle.hcc_core.proofs.Keeps.{follows_lawful}
use Rattle.hcc_core.proofs.world.World.step.Goals as goal

pub invariant_of-self : goal.invariant_of-self
invariant_of-self c = follows_lawful c.self.inside.machine c.args.event
    c.step.result c.step.new.self c.self.invariant c.step.ensures
