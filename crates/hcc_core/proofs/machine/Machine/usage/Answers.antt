use Rattle.std.proofs.Common.{◌∙◌, ap, arith}
use Rattle.hcc_core.specs.World.{State}
use Rattle.hcc_core.proofs.Readable.{usage_fits}
use Rattle.hcc_core.proofs.machine.Machine.usage.Goals as goal

pub usage-requires : goal.usage-requires
usage-requires c =
    let slots = c.deref.ensures.value ∙ ap (λ (w : State). w.slots) c.self.view_is in
    let clients = c.deref-2.ensures.value ∙ ap (λ (w : State). w.clients) c.self.view_is in
    let fits = usage_fits c.args.self.now c.requires in
    rw (slots, clients) (omega arith)
