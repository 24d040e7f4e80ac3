use Rattle.std.proofs.Common.{◌∙◌, ap, arith}
use Rattle.hcc_core.specs.World.{State}
use Rattle.hcc_core.proofs.Readable.{occupancy_fits, few_setup}
use Rattle.hcc_core.proofs.machine.Machine.occupancy.Goals as goal

pub occupancy-requires : goal.occupancy-requires
occupancy-requires c =
    let slots = c.deref.ensures.value ∙ ap (λ (w : State). w.slots) c.self.view_is in
    let clients = c.deref-2.ensures.value ∙ ap (λ (w : State). w.clients) c.self.view_is in
    let few = few_setup c.args.self.now c.requires in
    let fits = occupancy_fits c.args.self.now c.requires in
    rw (slots, clients) (omega arith)
