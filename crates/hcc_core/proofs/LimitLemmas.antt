-- How the limits hang together.
use Rattle.std.proofs.Common.{◌≡◌, ◌+◌, ◌*◌, ◌<◌, ◌^◌, refl, arith}
use Rattle.hcc_core.specs.declared.limits.TheConstants.{MOST_CLIENTS, REFERENCES_PER_CLIENT}
use Rattle.hcc_core.specs.declared.limits.TheConstants.{MOST_REFERENCES}

-- the bound on a slot's references is what the most clients hold together
pub most_references : MOST_REFERENCES ≡ MOST_CLIENTS * REFERENCES_PER_CLIENT
most_references = refl

-- and under it the counters of a slot stay in their 30 bits
pub references_fit : 2 * MOST_REFERENCES + 4 < 2 ^ 29
references_fit = omega arith
