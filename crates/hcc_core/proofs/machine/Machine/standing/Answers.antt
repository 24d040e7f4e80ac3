use Rattle.std.proofs.Common.{◌∙◌, ap, arith}
use Rattle.hcc_core.specs.World.{State}
use Rattle.hcc_core.proofs.Readable.{standing_fits}
use Rattle.hcc_core.proofs.machine.Machine.standing.Goals as goal

pub standing-requires : goal.standing-requires
standing-requires c =
    let clients = c.deref.ensures.value ∙ ap (λ (w : State). w.clients) c.self.view_is in
    let fits = standing_fits c.args.self.now c.requires in
    rw clients (omega arith)
