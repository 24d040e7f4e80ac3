use Rattle.std.proofs.Common.{◌∙◌, ap, arith}
use Rattle.hcc_core.specs.World.{State}
use Rattle.hcc_core.proofs.Readable.{passed_fits}
use Rattle.hcc_core.proofs.machine.Machine.passed.Goals as goal

pub passed-requires : goal.passed-requires
passed-requires c =
    let slots = c.deref.ensures.value ∙ ap (λ (w : State). w.slots) c.self.view_is in
    let clients = c.deref-2.ensures.value ∙ ap (λ (w : State). w.clients) c.self.view_is in
    let fits = passed_fits c.args.self.now c.requires c.args.slot in
    rw (slots, clients) (omega arith)
