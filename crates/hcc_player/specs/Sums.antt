-- The sums of a closed cache.
use Rattle.std.specs.Prelude.{◌≡◌}
use Rattle.hcc_rule.specs.declared.layout.TheConstants.{OCCUPANCY, USAGE}
use Rattle.hcc_shard.specs.Left.{charges_left, slots_left}
use Rattle.hcc_cache.specs.declared.closed.Closed.{Closed}
use Rattle.hcc_cache.specs.Left.{ledger_of, over_shards}
use Rattle.hcc_player.specs.declared.sums.Sums.{Sums}

-- Charges and slots are counted slot by slot; usage and occupancy are what the ledger words say.
pub record AreSumsOf (closed : Closed) (sums : Sums) : Type 0 where
  pub charges : sums.charges ≡ over_shards closed.shards.items (λ left. charges_left left.table)
  pub occupied : sums.occupied ≡ over_shards closed.shards.items (ledger_of OCCUPANCY)
  pub slots : sums.slots ≡ over_shards closed.shards.items (λ left. slots_left left.table)
  pub usage : sums.usage ≡ over_shards closed.shards.items (ledger_of USAGE)
