use Rattle.std.proofs.Common.{◌≡◌, ℕ, ◌+◌, ◌*◌, ◌/◌, ◌^◌, ◌≤◌, List, length}
use Rattle.hcc_core.specs.declared.limits.TheConstants.{OCCUPANCY_PERCENT}
use Rattle.hcc_core.specs.Sums.{total}
use Rattle.hcc_rule.specs.Records.{different}
use Rattle.hcc_shard.specs.Callers.{LoadsOccupancy}
use Rattle.hcc_cache.specs.Alones.{AreAlone}
use Rattle.hcc_cache.specs.Calls.{CountsNone}
use Rattle.hcc_cache.specs.Clients.{view_at}
use Rattle.hcc_cache.proofs.Clients.FoundAtEachShard.{FindsEach}
use Rattle.hcc_cache.proofs.Clients.DoneAtAllShards.{GoesThrough, sum_to}
use Rattle.hcc_cache.proofs.cache.Cache.occupancy.Given as goal

abbrev pub invariant-loop-shard : goal.invariant-loop-shard
invariant-loop-shard g l =
    GoesThrough l.self (λ v w. w ≡ v) 1 l.fn.client l.client l.shard
    × (sum_to l.shard (λ s. length (different (view_at s l.fn.client).records)) ≤ l.sum)
    × (l.sum ≤ 2 ^ 33 * l.shard)
    × (l.self.geometry.clients ≡ 1
    → l.sum + sum_to l.shard (λ s. (view_at s l.fn.client).takings)
    ≡ sum_to l.shard (λ s. length (view_at s l.fn.client).made))
    × (l.sum ≤ (l.self.geometry.slots * OCCUPANCY_PERCENT / 100 + l.self.geometry.clients)
    * l.shard)
    × (counts : List ℕ) × FindsEach l.self LoadsOccupancy counts l.fn.client l.client l.shard
    × (l.sum ≡ total (λ n. n) counts)
    × CountsNone l.fn.client l.client
    × AreAlone l.fn.client l.client
