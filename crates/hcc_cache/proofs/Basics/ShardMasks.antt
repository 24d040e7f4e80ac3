-- A mask of shards is a remainder.
use Rattle.std.proofs.Common.{◌≡◌, ℕ, ◌-◌, ◌%◌, bit_and}
use Rattle.hcc_rule.proofs.Probes.ProbeNumbers.{mask_within}
use Rattle.hcc_cache.specs.declared.limits.TheConstants.{MOST_SHARDS}

pub masked_shards : (shards n : ℕ) → MOST_SHARDS % shards ≡ 0 → bit_and n (shards - 1) ≡ n % shards
masked_shards shards n power = mask_within 6 shards n power
