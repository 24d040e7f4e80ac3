-- What is left of a view once amounts and places were given back, and once a standalone entry was
-- made or let go; and by which steps, or events.
use Rattle.std.specs.Prelude.{◌≡◌, ℕ, ◌+◌, ◌<◌, Bool, true, false, nat_lt, [], ◌∷◌, ◌++◌, if◌then◌else◌}
use Rattle.hcc_core.specs.declared.client.Place.{Place}
use Rattle.hcc_core.specs.declared.client.Place.TheVariants as places
use Rattle.hcc_core.specs.Ledgers.{is_standing, place_granted}
use Rattle.hcc_core.specs.Outcomes.{dropped}
use Rattle.hcc_rule.specs.declared.layout.TheConstants.{OCCUPANCY, USAGE}
use Rattle.hcc_rule.specs.declared.table.RuleTable.{RuleTable}
use Rattle.hcc_rule.specs.declared.view.View.{View}
use Rattle.hcc_rule.specs.Addresses.{address_of_ledger}
use Rattle.hcc_rule.specs.Callers.{IsEvent, plan_of}
use Rattle.hcc_rule.specs.Events.{charge_done, quit_done, stand_done, waive_done}
use Rattle.hcc_rule.specs.Rule.{setup_of}
use Rattle.hcc_rule.specs.Seats.{SeatOf, MakesSome, view}
use Rattle.hcc_table.specs.Steps.{MakesNone}

-- the place that is left where so many slots were freed
abbrev pub left_place : (slots : ℕ) → Place → Place
left_place slots place = if nat_lt 0 slots then place_granted place else place

module _ {T : Type 0} where
  -- nothing is needed, and nothing was freed that isn't settled
  abbrev pub HasFreedNothing : View T → Type 0
  HasFreedNothing v = (v.work.needed ≡ 0) × (v.work.freed ≡ 0) × (v.work.freed_slots ≡ 0)

  -- freed slots were given back
  abbrev pub placed_anew : View T → View T
  placed_anew v = record v {
    work = record v.work {
      freed_slots = 0;
      place = left_place v.work.freed_slots v.work.place;
    };
  }

  -- freed charge was given back, and covers what was needed
  abbrev pub paid : View T → View T
  paid v = record v {
    work = record v.work { granted = v.work.granted + v.work.needed; needed = 0; freed = 0 };
  }

  -- both
  abbrev pub settled : View T → View T
  settled v = paid (placed_anew v)

  -- the place was given up, and this much is granted still
  abbrev pub without_place : (granted : ℕ) → View T → View T
  without_place granted v =
      record v { work = record v.work { place = places.Absent; granted = granted } }

  -- a standalone entry was made of what was granted
  abbrev pub stood : (name charge : ℕ) → View T → View T
  stood name charge v = record v {
    work = record v.work {
      granted = 0;
      standalones = v.work.standalones ++ record { name = name; charge = charge } ∷ [];
    };
  }

  -- a standalone entry was let go
  abbrev pub fallen : (name : ℕ) → View T → View T
  fallen name v = record v {
    work = record v.work { standalones = dropped (is_standing name) v.work.standalones };
  }

module _ {T A : Type 0} (table : RuleTable T A) where
  -- One step took this much from a ledger word; none did where it is nothing.
  pub record TakesOff (ledger amount : ℕ) (old new : SeatOf T) : Type 0 where
    pub none : amount ≡ 0 → MakesNone old new
    pub some : 0 < amount → MakesSome (address_of_ledger table ledger) amount 0 old new

  -- What was reserved was given up: the place, and then the charge.
  abbrev pub GivesUp : (old new : SeatOf T) → Type 0
  GivesUp old new =
      (mid : SeatOf T) × IsEvent table (quit_done (view old)) old mid
      × IsEvent table (waive_done (view mid)) mid new

  -- A standalone entry was made of what was granted; where nothing was, the charge was added first.
  abbrev pub StandsBy : (granted : Bool) → (name charge : ℕ) → (old new : SeatOf T) → Type 0
  StandsBy true name charge old new = IsEvent table (stand_done name charge (view old)) old new
  StandsBy false name charge old new =
      (used : ℕ) × (mid : SeatOf T)
      × IsEvent table (charge_done (setup_of (plan_of table)) charge used (view old)) old mid
      × IsEvent table (stand_done name charge (view mid)) mid new

  -- One was made of what was reserved: the place was given up, and the charge stays.
  abbrev pub KeepsAlone : (name charge : ℕ) → (old new : SeatOf T) → Type 0
  KeepsAlone name charge old new =
      (mid : SeatOf T) × IsEvent table (quit_done (view old)) old mid
      × StandsBy true name charge mid new

  -- So many freed slots were taken from the occupancy, and then this charge from the usage.
  abbrev pub Settles : (slots charge : ℕ) → (old new : SeatOf T) → Type 0
  Settles slots charge old new =
      (mid : SeatOf T) × TakesOff OCCUPANCY slots old mid × TakesOff USAGE charge mid new
