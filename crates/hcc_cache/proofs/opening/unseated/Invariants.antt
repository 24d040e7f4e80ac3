use Rattle.std.proofs.Common.{◌≡◌, ℕ, [], Some, length, slice_get}
use Rattle.hcc_cache.specs.declared.client.Client.{Client}
use Rattle.hcc_cache.specs.Opened.{IsUnused}
use Rattle.hcc_cache.proofs.opening.unseated.Given as goal

abbrev pub invariant-loop-number : goal.invariant-loop-number
invariant-loop-number g l = record {
  count : length l.clients.items ≡ l.number;
  each : (k : ℕ) (client : Client g.row.T.Denot) → slice_get l.clients.items k ≡ Some client
      → IsUnused l.config k client × (client.seats.items ≡ []);
}
