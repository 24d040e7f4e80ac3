use Rattle.std.proofs.Common.{◌≡◌, ℕ, ◌+◌, ◌*◌, ◌-◌, ◌^◌, ◌≤◌, List, min}
use Rattle.hcc_core.specs.Sums.{total}
use Rattle.hcc_table.specs.Searched.{Sought}
use Rattle.hcc_cache.specs.Alones.{AreAlone}
use Rattle.hcc_cache.specs.Clients.{view_at}
use Rattle.hcc_cache.specs.Stays.{Stays}
use Rattle.hcc_cache.specs.Totals.{CountsHeldAt, charge_in}
use Rattle.hcc_cache.proofs.Clients.FoundAtEachShard.{FindsEach}
use Rattle.hcc_cache.proofs.Clients.DoneAtAllShards.{GoesThrough, sum_to}
use Rattle.hcc_cache.proofs.cache.Cache.pinned_usage.Given as goal

abbrev pub invariant-loop-shard : goal.invariant-loop-shard
invariant-loop-shard g l =
    GoesThrough l.self Sought (5 * l.self.geometry.slots + 1) l.fn.client l.client l.shard
    × (min (sum_to l.shard (λ s. charge_in (view_at s l.fn.client))) (2 ^ 64 - 1) ≤ l.sum)
    × (l.self.geometry.clients ≡ 1
    → l.sum ≡ min (sum_to l.shard (λ s. charge_in (view_at s l.fn.client))) (2 ^ 64 - 1))
    × (counts : List ℕ)
    × FindsEach l.self (CountsHeldAt g.T.Tag.fits) counts l.fn.client l.client l.shard
    × (l.sum ≡ min (total (λ n. n) counts) (2 ^ 64 - 1))
    × Stays l.self l.fn.client l.client
    × AreAlone l.fn.client l.client
