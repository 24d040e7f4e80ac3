use Rattle.hcc_c.proofs.Holders.{holder, lends}
use Rattle.hcc_c.proofs.object_holders.KeptObjectsAt.kept.{Code.unfolded, Statement.statement}
use Rattle.hcc_c.specs.contracts.{kept_objects.KeptObjects.the_row, object_holders.KeptObjectsAt.the_type}

pub kept_spec : {M : Type 1} → statement M
kept_spec 𝓤 𝓛 𝓜 𝓡 w = lends the_row 𝓤 𝓛 𝓜 𝓡 (holder the_type (λ h. (h.at, h.alloc, h.value))
    (λ d. record { at = d.0; alloc = d.1; value = d.2 }) (λ d i. d)) tt (unfolded 𝓤 𝓛.H 𝓜 𝓡 w)
