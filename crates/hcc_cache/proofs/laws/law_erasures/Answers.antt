use Rattle.std.proofs.Common.{◌≡◌, ap, subst, ◌∙◌, true}
use Rattle.hcc_rule.specs.declared.geometry.Geometry.{Geometry}
use Rattle.hcc_rule.specs.Callers.{clients_of, slots_of, world_at}
use Rattle.hcc_table.specs.Standing.{HidesShown}
use Rattle.hcc_shard.specs.declared.erasing.TheConstants.{IN_FLIGHT}
use Rattle.hcc_cache.specs.Sharding.{key_to}
use Rattle.hcc_cache.proofs.Calm.Hides.{hidden_still}
use Rattle.hcc_cache.proofs.laws.law_erasures.Goals as goal

pub returns : goal.returns
returns g c config tag cache is_of one key hidden old new h =
    let made = is_of.shards _ h.shard h.shard_is in
    let alone : clients_of h.shard.table ≡ 1 =
    ap (λ (x : Geometry). x.clients) made.geometry ∙ one in
    let few : slots_of h.shard.table ≡ config.slots =
    ap (λ (x : Geometry). x.slots) made.geometry in
    let seeded = key_to cache.seed key in
    let was = world_at h.shard.table h.was.seat in
    let is = world_at h.shard.table h.is.seat in
    let hides = c.law_hidden_alone.ensures.hides h.shard.table seeded IN_FLIGHT true h.did.all
    h.was.effort h.is.effort h.was.seat h.did.mid alone h.did.hides in
    let stays = c.law_hidden_alone.ensures.settles h.shard.table h.did.mid h.is.seat alone
    h.did.settles in
    subst (λ n. HidesShown n seeded hidden was is) few
    (subst (λ n. HidesShown (slots_of h.shard.table) seeded n was is) h.did.hidden_is
    (hidden_still (slots_of h.shard.table) seeded h.did.all.hidden was
    (world_at h.shard.table h.did.mid) is hides stays))
