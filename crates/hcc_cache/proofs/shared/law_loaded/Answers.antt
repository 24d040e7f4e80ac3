use Rattle.std.proofs.Common.{ap, ◌∙◌}
use Rattle.hcc_shard.specs.Callers.{LoadsOccupancy, capacity_of, is_strict}
use Rattle.hcc_shard.specs.Counted.{LoadsUsage, within}
use Rattle.hcc_cache.specs.Totals.{occupancy_in, usage_in}
use Rattle.hcc_cache.proofs.Clients.LoadedTotals.{knows_loaded, occupancy_loaded, standing_loaded, usage_loaded}
use Rattle.hcc_cache.proofs.shared.law_loaded.Goals as goal

pub returns-clause-usage : goal.returns-clause-usage
returns-clause-usage g c = λ cache result old new h. (
  h.counts,
  knows_loaded cache LoadsUsage usage_in h.counts old new
      (λ shard found was is did.
      did.3
      ∙ ap (within (is_strict shard) (capacity_of shard))
      (usage_loaded shard.table did.0 was.seat is.seat did.4)) h.loads,
  h.sum,
)

pub returns-clause-occupancy : goal.returns-clause-occupancy
returns-clause-occupancy g c = λ cache result old new h. (
  h.counts,
  knows_loaded cache LoadsOccupancy occupancy_in h.counts old new
      (λ shard found was is did. occupancy_loaded shard.table found was.seat is.seat did.1) h.loads,
  h.sum,
)

pub returns-clause-standing : goal.returns-clause-standing
returns-clause-standing g c = λ shard found was is h.
    standing_loaded shard.table h.standing was.seat h.loaded h.event
