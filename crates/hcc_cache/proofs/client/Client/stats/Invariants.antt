use Rattle.std.proofs.Common.{◌≡◌, drop}
use Rattle.hcc_cache.specs.Totals.{no_stats, stats_over}
use Rattle.hcc_cache.proofs.client.Client.stats.Given as goal

abbrev pub invariant-loop-seat : goal.invariant-loop-seat
invariant-loop-seat g l =
    stats_over l.sum (drop l.seat-index l.self.seats.items)
    ≡ stats_over no_stats l.self.seats.items
