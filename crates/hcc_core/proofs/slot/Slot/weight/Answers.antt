use Rattle.std.proofs.Common.{◌≡◌, ap, ◌∙◌, arith}
use Rattle.hcc_core.specs.declared.slot.Reference.{Reference}
use Rattle.hcc_core.specs.World.{weight, weight_of}
use Rattle.hcc_core.proofs.SumLemmas.{sum_by_total}
use Rattle.hcc_core.proofs.slot.Slot.weight.Goals as goal

pub weight-requires : goal.weight-requires
weight-requires c =
    let is_total = sum_by_total (λ (r : Reference). r.weight) c.references.result.now in
    let same : weight c.references.result.now ≡ weight_of c.args.self.now =
    ap weight c.references.ensures in
    omega arith

pub returns : goal.returns
returns c =
    c.weight.ensures
    ∙ sum_by_total (λ (r : Reference). r.weight) c.references.result.now
    ∙ ap weight c.references.ensures
