use native.Mathlib.Omega.{arith}
use Rattle.std.proofs.Common.{◌≡◌, ◌*◌, ◌/◌, true, ap, ◌∙◌}
use Rattle.hcc_core.specs.declared.limits.TheConstants.{OCCUPANCY_PERCENT}
use Rattle.hcc_rule.specs.declared.geometry.Geometry.{Geometry}
use Rattle.hcc_shard.specs.Callers.{plan_of}
use Rattle.hcc_cache.specs.Configs.{shard_capacity}
use Rattle.hcc_cache.proofs.laws.law_limits.Goals as goal

pub returns-clause-capacity : goal.returns-clause-capacity
returns-clause-capacity g c = λ config tag s m strict.
    let made = m.cache_is.shards m.number m.shard m.there in
    let planned = m.shard.table.planned in
    let is_strict : (plan_of m.shard).strict ≡ true = planned.2 ∙ made.strict ∙ strict in
    let real = c.law_ledgers.ensures.real (plan_of m.shard) s m.holds is_strict in
    let capacity : (plan_of m.shard).capacity ≡ shard_capacity config =
    planned.1 ∙ made.capacity in
    omega (arith, real, capacity)

pub returns-clause-places : goal.returns-clause-places
returns-clause-places g c = λ config tag s m.
    let made = m.cache_is.shards m.number m.shard m.there in
    let places = c.law_ledgers.ensures.places (plan_of m.shard) s m.holds in
    let limit = ap (λ (x : Geometry). x.slots * OCCUPANCY_PERCENT / 100)
    (m.shard.table.planned.0 ∙ made.geometry) in
    omega (arith, places, limit)
