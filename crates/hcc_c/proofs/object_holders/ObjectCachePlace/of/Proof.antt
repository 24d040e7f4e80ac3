use Rattle.hcc_c.proofs.Holders.{holder, places}
use Rattle.hcc_c.proofs.object_holders.ObjectCachePlace.of.{Code.unfolded, Statement.statement}
use Rattle.hcc_c.specs.contracts.{object_pool.ObjectPool.the_row, object_holders.ObjectCachePlace.the_type}

pub of_spec : {M : Type 1} → statement M
of_spec 𝓤 𝓛 𝓜 𝓡 w = places the_row 𝓤 𝓛 𝓜 𝓡 (holder the_type (λ h. (h.at, h.alloc, h.value))
    (λ d. record { at = d.0; alloc = d.1; value = d.2 }) (λ d i. d)) (unfolded 𝓤 𝓛.H 𝓜 𝓡 w)
