use Rattle.std.proofs.Common.{ap, ◌∙◌, arith}
use Rattle.hcc_core.specs.declared.client.Standalone.{Standalone}
use Rattle.hcc_core.specs.Sums.{total}
use Rattle.hcc_core.proofs.SumLemmas.{sum_by_total}
use Rattle.hcc_core.proofs.client.Client.standing.Goals as goal

pub charges-requires : goal.charges-requires
charges-requires c =
    let is_total = sum_by_total (λ (s : Standalone). s.charge) c.as_slice.result.now in
    let same = ap (total (λ (s : Standalone). s.charge)) c.as_slice.ensures in
    omega arith

pub returns : goal.returns
returns c =
    c.charges.ensures
    ∙ sum_by_total (λ (s : Standalone). s.charge) c.as_slice.result.now
    ∙ ap (total (λ (s : Standalone). s.charge)) c.as_slice.ensures
