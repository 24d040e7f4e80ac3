use Rattle.std.proofs.Common.{refl}
use Rattle.hcc_c.proofs.{Holders.holder, Holders.takes_out, object_session.ObjectSession.TheLaws.the_row_laws}
use Rattle.hcc_c.proofs.object_holders.ObjectClientPlace.whole.{Code.code, Code.unfolded, Statement.statement}
use Rattle.hcc_c.specs.contracts.{object_session.ObjectSession.the_row, object_holders.ObjectClientPlace.the_type}

pub whole_spec : {M : Type 1} → statement M
unfolding code
whole_spec 𝓤 𝓛 𝓜 𝓡 w = takes_out the_row 𝓤 𝓛 𝓜 𝓡 the_row_laws refl (holder the_type
    (λ h. (h.at, h.alloc, h.value)) (λ d. record { at = d.0; alloc = d.1; value = d.2 }) (λ d i. d))
    (λ a p x. refl) _ (unfolded 𝓤 𝓛.H 𝓜 𝓡 w) w.2
