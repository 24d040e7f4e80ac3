-- What closing a shard needs, and the view of the last seat, once all others were joined to it.
use Rattle.std.specs.Prelude.{◌≡◌, List, [], ◌∷◌}
use Rattle.hcc_core.specs.Sums.{total}
use Rattle.hcc_rule.specs.declared.view.View.{View}
use Rattle.hcc_rule.specs.Callers.{clients_of}
use Rattle.hcc_rule.specs.Passing.{joined_view, spent_view}
use Rattle.hcc_rule.specs.Seats.{view}
use Rattle.hcc_rule.specs.Views.{Each, named_by}
use Rattle.hcc_shard.specs.declared.seat.ShardSeat.{ShardSeat}
use Rattle.hcc_shard.specs.declared.shard.Shard.{Shard}
use Rattle.hcc_shard.specs.Seated.{Rests}

module _ {T : Type 0} where
  -- the view of a seat that others were joined to, in this order
  abbrev pub joined_with : View T → List (ShardSeat T) → View T
  joined_with v [] = v
  joined_with v (seat ∷ seats) = joined_with (joined_view v (view seat.seat)) seats

  -- the first seat's, once all others were joined to it
  abbrev pub together : List (ShardSeat T) → View T
  together [] = spent_view
  together (seat ∷ seats) = joined_with (view seat.seat) seats

module _ {T A : Type 0} where
  -- a seat at rest whose client holds nothing
  pub record HoldsNothing (shard : Shard T A) (seat : ShardSeat T) : Type 0 where
    pub rests : Rests shard seat
    pub records : (view seat.seat).records ≡ []
    pub standalones : (view seat.seat).work.standalones ≡ []

  -- The seats of all the shard's clients are back, each with nothing held.
  pub record AreBack (shard : Shard T A) (seats : List (ShardSeat T)) : Type 0 where
    pub each : Each (HoldsNothing shard) seats
    pub all : total (λ (s : ShardSeat T). named_by (view s.seat)) seats ≡ clients_of shard.table
