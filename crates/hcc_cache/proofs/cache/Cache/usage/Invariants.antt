use Rattle.std.proofs.Common.{◌≡◌, ◌*◌, ◌-◌, ◌^◌, ◌≤◌, min, true, ℕ, List}
use Rattle.hcc_core.specs.Sums.{total}
use Rattle.hcc_rule.specs.ToldLedgers.{after_usage}
use Rattle.hcc_shard.specs.Counted.{LoadsUsage}
use Rattle.hcc_cache.specs.Alones.{AreAlone}
use Rattle.hcc_cache.specs.Calls.{CountsNone}
use Rattle.hcc_cache.specs.Clients.{view_at}
use Rattle.hcc_cache.specs.Totals.{charge_in}
use Rattle.hcc_cache.proofs.Clients.FoundAtEachShard.{FindsEach}
use Rattle.hcc_cache.proofs.Clients.DoneAtAllShards.{GoesThrough, sum_to}
use Rattle.hcc_cache.proofs.cache.Cache.usage.Given as goal

abbrev pub invariant-loop-shard : goal.invariant-loop-shard
invariant-loop-shard g l =
    GoesThrough l.self (λ v w. (used : ℕ) × (w ≡ after_usage used v)) 1 l.fn.client l.client
    l.shard
    × (min (sum_to l.shard (λ s. charge_in (view_at s l.fn.client))) (2 ^ 64 - 1) ≤ l.sum)
    × (l.self.strict ≡ true → l.sum ≤ l.self.capacity * l.shard)
    × (counts : List ℕ) × FindsEach l.self LoadsUsage counts l.fn.client l.client l.shard
    × (l.sum ≡ min (total (λ n. n) counts) (2 ^ 64 - 1))
    × CountsNone l.fn.client l.client
    × AreAlone l.fn.client l.client
