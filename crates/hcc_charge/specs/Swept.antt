-- What visits of the clock did, in numbers.
use Rattle.std.specs.Prelude.{ℕ, ◌+◌, ◌*◌, ◌^◌, ◌≤◌, List, [], ◌∷◌}
use Rattle.std.specs.Int.{from_bool}
use Rattle.hcc_table.specs.declared.visiting.ClockVisit.{ClockVisit}
use Rattle.hcc_table.specs.declared.visiting.ClockVisit.TheVariants as visits
use Rattle.hcc_table.specs.Rises.{Rose}
use Rattle.hcc_charge.specs.declared.swept.Swept.{Swept}
use Rattle.hcc_charge.specs.declared.tally.Tally.{Tally}

-- nothing, and no turn
abbrev pub nothing_swept : Swept
nothing_swept = record { turns = 0; slots = 0; charge = 0; hits = 0; pinned = 0; lost = 0 }

-- a turn of the hand that visited nothing yet
abbrev pub one_turn : Swept
one_turn = record nothing_swept { turns = 1 }

-- one visit
abbrev pub swept_of : ClockVisit → Swept
swept_of visits.Passed = nothing_swept
swept_of visits.Pinned = record nothing_swept { pinned = 1 }
swept_of visits.Counted = nothing_swept
swept_of visits.Lost = record nothing_swept { lost = 1 }
swept_of (visits.Freed charge hit) =
    record nothing_swept { slots = 1; charge = charge; hits = from_bool hit }

-- both in sum
abbrev pub both : Swept → Swept → Swept
both a b = record {
  turns = a.turns + b.turns;
  slots = a.slots + b.slots;
  charge = a.charge + b.charge;
  hits = a.hits + b.hits;
  pinned = a.pinned + b.pinned;
  lost = a.lost + b.lost;
}

-- with these visits, or these turns, behind it
abbrev pub with_visits : Swept → List ClockVisit → Swept
with_visits all [] = all
with_visits all (visit ∷ more) = with_visits (both all (swept_of visit)) more

abbrev pub with_turns : Swept → List Swept → Swept
with_turns all [] = all
with_turns all (turn ∷ more) = with_turns (both all turn) more

-- what so many visits can do at most
pub record IsModest (visits : ℕ) (all : Swept) : Type 0 where
  pub slots : all.slots ≤ visits
  pub charge : all.charge ≤ all.slots * 2 ^ 32
  pub hits : all.hits ≤ all.slots
  pub pinned : all.pinned ≤ visits
  pub lost : all.lost ≤ visits

-- the counts of a client's evictions rose by it
pub record Tallied (all : Swept) (old new : Tally) : Type 0 where
  pub turns : Rose all.turns all.turns old.turns new.turns
  pub evicted : Rose all.slots all.slots old.evicted new.evicted
  pub evicted_hit : Rose all.hits all.hits old.evicted_hit new.evicted_hit
  pub freed : Rose all.charge all.charge old.freed new.freed
