use Rattle.std.proofs.Common.{◌≡◌, ◌<◌, sym, ap, subst, ◌∙◌}
use Rattle.hcc_rule.specs.declared.geometry.Geometry.{Geometry}
use Rattle.hcc_shard.specs.Callers.{plan_of}
use Rattle.hcc_cache.proofs.laws.law_references.Goals as goal

pub returns-clause-counted : goal.returns-clause-counted
returns-clause-counted g c = λ config tag s m slot low.
    let made = m.cache_is.shards m.number m.shard m.there in
    let slots : (plan_of m.shard).geometry.slots ≡ config.slots =
    ap (λ (x : Geometry). x.slots) (m.shard.table.planned.0 ∙ made.geometry) in
    c.law_slots.ensures.references (plan_of m.shard) s m.holds slot
    (subst (λ n. slot < n) (sym slots) low)

pub returns-clause-entries : goal.returns-clause-entries
returns-clause-entries g c = λ config tag s m.
    c.law_slots.ensures.entries (plan_of m.shard) s m.holds
