-- What the last seat of a shard knows of its history, once all others were joined to it.
use Rattle.std.specs.Prelude.{List, [], ◌∷◌}
use Rattle.hcc_rule.specs.declared.view.Done.{Done}
use Rattle.hcc_rule.specs.Acts.{longer, past}
use Rattle.hcc_shard.specs.declared.seat.ShardSeat.{ShardSeat}

module _ {T : Type 0} where
  -- all that a client of a seat knows of what was done at the shard, in order
  abbrev pub past_of : ShardSeat T → List Done
  past_of seat = past seat.seat

  -- what a seat knows that others were joined to, in this order: what the one of them does that
  -- knows most
  abbrev pub past_with : List Done → List (ShardSeat T) → List Done
  past_with history [] = history
  past_with history (seat ∷ seats) = past_with (longer history (past_of seat)) seats

  -- what the first one does, once all others were joined to it
  abbrev pub past_together : List (ShardSeat T) → List Done
  past_together [] = []
  past_together (seat ∷ seats) = past_with (past_of seat) seats
