use Rattle.hcc_c.proofs.Holders.{holder, empties}
use Rattle.hcc_c.proofs.object_holders.ObjectClientPlace.none.{Code.unfolded, Statement.statement}
use Rattle.hcc_c.specs.contracts.{object_session.ObjectSession.the_row, object_holders.ObjectClientPlace.the_type}

pub none_spec : {M : Type 1} → statement M
none_spec 𝓤 𝓛 𝓜 𝓡 w = empties the_row 𝓤 𝓛 𝓜 𝓡 (holder the_type (λ h. (h.at, h.alloc, h.value))
    (λ d. record { at = d.0; alloc = d.1; value = d.2 }) (λ d i. d)) (unfolded 𝓤 𝓛.H 𝓜 𝓡 w)
