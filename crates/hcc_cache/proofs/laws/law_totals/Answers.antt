use Rattle.std.proofs.Common.{◌≡◌, ℕ, List, Some, slice_get, ap, ◌∙◌}
use Rattle.std.specs.declared.alloc.Global.{Global}
use Rattle.hcc_core.specs.World.{State}
use Rattle.hcc_rule.specs.declared.geometry.Geometry.{Geometry}
use Rattle.hcc_rule.specs.Callers.{clients_of, world_at}
use Rattle.hcc_shard.specs.declared.seat.ShardSeat.{ShardSeat}
use Rattle.hcc_shard.specs.declared.shard.Shard.{Shard}
use Rattle.hcc_shard.specs.Callers.{LoadsOccupancy, capacity_of, is_strict}
use Rattle.hcc_shard.specs.Counted.{LoadsUsage, within}
use Rattle.hcc_cache.specs.declared.cache.Cache.{Cache}
use Rattle.hcc_cache.specs.declared.client.Client.{Client}
use Rattle.hcc_cache.specs.declared.config.Config.{Config}
use Rattle.hcc_cache.specs.declared.seeded.Seeded.{Seeded}
use Rattle.hcc_cache.specs.Opened.{IsCacheOf}
use Rattle.hcc_cache.specs.Totals.{AtEach, KnowsEach, occupancy_in, usage_in}
use Rattle.hcc_cache.proofs.laws.law_totals.Goals as goal

module _ {T : Type 0} (config : Config) (tag : T) (cache : Cache T)
    (is_of : IsCacheOf config tag cache) (one : config.clients ≡ 1) where
  -- each shard has one client
  alone_at : (s : ℕ) (shard : Shard (Seeded T) Global)
      → slice_get cache.shards.items s ≡ Some shard → clients_of shard.table ≡ 1
  alone_at s shard there =
      ap (λ (x : Geometry). x.clients) (is_of.shards s shard there).geometry ∙ one

  -- What loads find at each shard is what the worlds have that the client knows.
  knows_each : (Did : Shard (Seeded T) Global → (found : ℕ) → (old new : ShardSeat (Seeded T))
      → Type 0) (number : Shard (Seeded T) Global → State → ℕ) (counts : List ℕ)
      (old new : Client T)
      → ((shard : Shard (Seeded T) Global) (found : ℕ) (was is : ShardSeat (Seeded T))
      → clients_of shard.table ≡ 1 → Did shard found was is
      → found ≡ number shard (world_at shard.table was.seat))
      → AtEach cache Did counts old new → KnowsEach cache number counts old
  knows_each Did number counts old new tells h = record {
    count = h.count;
    each = λ s found there.
        let at = h.each s found there in (
          at.shard,
          at.was,
          at.shard_is,
          at.seat_was,
          tells at.shard found at.was at.is (alone_at s at.shard at.shard_is) at.did,
        );
  }

pub returns-clause-usage : goal.returns-clause-usage
returns-clause-usage g c = λ config tag cache is_of one result old new h. (
  h.counts,
  knows_each config tag cache is_of one LoadsUsage usage_in h.counts old new
      (λ shard found was is alone did.
      did.3
      ∙ ap (within (is_strict shard) (capacity_of shard))
      (c.law_told_alone.ensures.usage shard.table did.0 was.seat is.seat alone did.4))
      h.loads,
  h.sum,
)

pub returns-clause-occupancy : goal.returns-clause-occupancy
returns-clause-occupancy g c = λ config tag cache is_of one result old new h. (
  h.counts,
  knows_each config tag cache is_of one LoadsOccupancy occupancy_in h.counts old new
      (λ shard found was is alone did.
      c.law_told_alone.ensures.occupancy shard.table found was.seat is.seat alone did.1)
      h.loads,
  h.sum,
)
