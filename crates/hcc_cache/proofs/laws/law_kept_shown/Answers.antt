use Rattle.std.proofs.Common.{◌≡◌, ap, refl, ◌∙◌}
use Rattle.hcc_rule.specs.declared.geometry.Geometry.{Geometry}
use Rattle.hcc_rule.specs.Callers.{clients_of}
use Rattle.hcc_rule.specs.Events.{occupancy_done, usage_done}
use Rattle.hcc_table.specs.Still.{is_still}
use Rattle.hcc_table.proofs.Seeking.{goes_event}
use Rattle.hcc_shard.specs.Callers.{LoadsOccupancy, view_of}
use Rattle.hcc_shard.specs.Counted.{LoadsUsage}
use Rattle.hcc_cache.proofs.Clients.ShownAfterwards.{each_stays, knows_released, knows_still}
use Rattle.hcc_cache.proofs.Clients.Unerased.{knows_let_go}
use Rattle.hcc_cache.proofs.laws.law_kept_shown.Goals as goal

pub returns-clause-stays : goal.returns-clause-stays
returns-clause-stays g c = λ config tag cache is_of one key old new stays k.
    let made = is_of.shards _ k.shard k.shard_is in
    let alone : clients_of k.shard.table ≡ 1 =
    ap (λ (x : Geometry). x.clients) made.geometry ∙ one in
    knows_still cache key old new k alone stays

pub returns-clause-usage : goal.returns-clause-usage
returns-clause-usage g c = λ cache result old new h.
    each_stays cache LoadsUsage
    (λ shard found a b did. goes_event shard.table is_still (usage_done did.0 (view_of a)) a.seat
    b.seat did.4 refl)
    h.counts old new h.loads

pub returns-clause-occupancy : goal.returns-clause-occupancy
returns-clause-occupancy g c = λ cache result old new h.
    each_stays cache LoadsOccupancy
    (λ shard found a b did. goes_event shard.table is_still (occupancy_done found (view_of a))
    a.seat b.seat did.1 refl)
    h.counts old new h.loads

pub returns-clause-releases : goal.returns-clause-releases
returns-clause-releases g c = λ config tag cache is_of one hold slot used erase freed key
    old new h k kept.
    let made = is_of.shards _ k.shard k.shard_is in
    let alone : clients_of k.shard.table ≡ 1 =
    ap (λ (x : Geometry). x.clients) made.geometry ∙ one in
    knows_released cache key old new k alone hold slot used erase freed h kept

pub returns-clause-unerased : goal.returns-clause-unerased
returns-clause-unerased g c = λ config tag cache is_of one handle useful freed key old new holds
    pinned standing k.
    let made = is_of.shards _ k.shard k.shard_is in
    let alone : clients_of k.shard.table ≡ 1 =
    ap (λ (x : Geometry). x.clients) made.geometry ∙ one in
    knows_let_go cache key old new k alone handle useful freed holds pinned standing
