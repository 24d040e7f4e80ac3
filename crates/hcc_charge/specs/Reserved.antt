-- What a reservation asks for, why it evicts entries, and what it leaves of a view.
use Rattle.std.specs.Prelude.{◌≡◌, ℕ, ◌+◌, ◌-◌, ◌/◌, min, max, ◌<◌, ◌≤◌, ◌&&◌, ◌||◌, Bool, true, false, nat_le, nat_lt, List, [], ◌∷◌, ◌++◌, Result, Ok, Err, if◌then◌else◌}
use Rattle.hcc_core.specs.declared.client.Owned.TheVariants as owned
use Rattle.hcc_core.specs.declared.client.Place.{Place}
use Rattle.hcc_core.specs.declared.client.Place.TheVariants as places
use Rattle.hcc_core.specs.Sums.{when}
use Rattle.hcc_rule.specs.declared.view.View.{View}
use Rattle.hcc_rule.specs.Gone.{Takes}
use Rattle.hcc_table.specs.Searched.{Grows}
use Rattle.hcc_charge.specs.declared.reserving.Reservation.{Reservation}
use Rattle.hcc_charge.specs.declared.reserving.Reservation.TheVariants.{Reserved, NoPlace}
use Rattle.hcc_charge.specs.declared.reserving.Refused.{Refused}
use Rattle.hcc_charge.specs.declared.reserving.Refused.TheVariants.{TooLarge, CapacityFull, OccupancyFull}
use Rattle.hcc_charge.specs.declared.swept.Swept.{Swept}
use Rattle.hcc_charge.specs.Evicted.{IsSweptFor, sweeping}

-- How much is asked for.

-- the charge doesn't fit beside this usage, and isn't more than all of it
abbrev pub presses : (capacity charge used : ℕ) → Bool
presses capacity charge used = nat_le charge used && nat_lt capacity (used + charge)

-- a little more than the charge, where the usage is above the capacity already
abbrev pub surplus : (capacity used charge : ℕ) → ℕ
surplus capacity used charge =
    if nat_lt capacity used then min (capacity / 1024) charge + 1 else 0

abbrev pub ask_of : (capacity used charge : ℕ) → ℕ
ask_of capacity used charge =
    if presses capacity charge used then charge + surplus capacity used charge else 0

-- what of the charge isn't granted under strict capacity
abbrev pub still_needed : (capacity used charge : ℕ) → ℕ
still_needed capacity used charge = charge - min charge (capacity - min used capacity)

-- at least 1 where a place has to be freed
abbrev pub at_least_one : Bool → ℕ → ℕ
at_least_one full ask = if full then max ask 1 else ask

-- What a reservation finds and asks for, by whether the capacity is strict, whether the shard is
-- full, and the usage before it.

-- what of the charge isn't granted at once
abbrev pub needed_by : (strict : Bool) → (capacity used charge : ℕ) → ℕ
needed_by true capacity used charge = still_needed capacity used charge
needed_by false capacity used charge = 0

-- the charges that so join the tight list
abbrev pub short_of : (needed charge : ℕ) → List ℕ
short_of needed charge = if nat_lt 0 needed then charge ∷ [] else []

-- the usages that are loaded
abbrev pub loaded : (strict : Bool) → (used : ℕ) → List ℕ
loaded true used = []
loaded false used = used ∷ []

-- what it asks eviction for
abbrev pub asked : (strict : Bool) → (capacity charge : ℕ) → (full : Bool) → (used : ℕ) → ℕ
asked true capacity charge full used = at_least_one full (still_needed capacity used charge)
asked false capacity charge full used = at_least_one full (ask_of capacity used charge)

-- Why it evicts entries: the shard was full, not all of the charge was granted at once, or it
-- didn't fit beside the usage that was loaded.
abbrev pub has_cause : (strict : Bool) → (capacity charge : ℕ) → (full : Bool) → (used : ℕ) → Bool
has_cause true capacity charge full used =
    full || nat_lt 0 (still_needed capacity used charge)
has_cause false capacity charge full used = full || presses capacity charge used

-- What a reservation found, and what its eviction did. It evicts just where it has a cause, and the
-- list has room for a turn.
pub record Shortage (had has : Bool) (slots capacity : ℕ) (strict : Bool) (charge : ℕ)
    : Type 0 where
  pub full : Bool
  pub used : ℕ
  pub swept : Swept
  pub cause : nat_lt 0 swept.turns ≡ (had && has_cause strict capacity charge full used)
  pub evicts : IsSweptFor had has slots (asked strict capacity charge full used) swept

module _ {T : Type 0} where
  -- a place was asked for
  abbrev pub entered : (full : Bool) → View T → View T
  entered full v = record v {
    work = record v.work { place = (if full then places.Open else places.Granted) };
    open_places = v.open_places + when full 1;
  }

  -- with this place and this much granted, and all else settled
  abbrev pub settled_as : Place → (granted : ℕ) → View T → View T
  settled_as place granted v = record v {
    work = record v.work {
      place = place;
      granted = granted;
      needed = 0;
      freed = 0;
      freed_slots = 0;
    };
  }

  -- A reservation was tried, and this place and this much charge are granted. Nothing is needed,
  -- and what was freed is settled. It took as many entries as its eviction freed, none of which was
  -- Shown with uses left. All else stays.
  pub record Reserves (had has : Bool) (slots capacity : ℕ) (strict : Bool) (charge : ℕ)
      (place : Place) (granted : ℕ) (v w : View T) : Type 0 where
    pub shortage : Shortage had has slots capacity strict charge
    pub same : w ≡ record v {
      work = record v.work {
        looked = w.work.looked;
        owned = owned.Nothing;
        trail = [];
        place = place;
        granted = granted;
        needed = 0;
        freed = 0;
        freed_slots = 0;
        dead = w.work.dead;
      };
      written = w.written;
      takings = v.takings + shortage.swept.slots;
      gone = w.gone;
      open_places = v.open_places + when shortage.full 1;
      turns = v.turns + shortage.swept.turns;
      seen = v.seen ++ loaded strict shortage.used;
      tight = v.tight ++ short_of (needed_by strict capacity shortage.used charge) charge;
    }
    pub dead : Grows v.work.dead w.work.dead
    -- which entries its eviction freed
    pub taken : Takes shortage.swept.slots shortage.swept.charge v w

  -- The view after a reservation, by its answer.
  abbrev pub ReservedBy : (had has : Bool) → (slots capacity : ℕ) → (strict : Bool)
      → (charge : ℕ) → Result Reservation Refused → View T → View T → Type 0
  ReservedBy had has slots capacity strict charge (Ok Reserved) v w =
      (r : Reserves had has slots capacity strict charge places.Granted charge v w)
      × (r.shortage.full ≡ true → 0 < r.shortage.swept.slots)
      × (needed_by strict capacity r.shortage.used charge ≤ r.shortage.swept.charge)
  ReservedBy had has slots capacity strict charge (Ok NoPlace) v w =
      Reserves had has slots capacity strict charge places.Absent 0 v w × (strict ≡ false)
      × (v.open_places < w.open_places) × (w.takings ≡ v.takings)
  ReservedBy had has slots capacity strict charge (Err TooLarge) v w =
      (strict ≡ true) × (capacity < charge) × (w ≡ v)
  ReservedBy had has slots capacity strict charge (Err CapacityFull) v w =
      (r : Reserves had has slots capacity strict charge places.Absent 0 v w) × (strict ≡ true)
      × (w.tight ≡ v.tight ++ charge ∷ [])
      × (r.shortage.swept.charge < still_needed capacity r.shortage.used charge)
  ReservedBy had has slots capacity strict charge (Err OccupancyFull) v w =
      Reserves had has slots capacity strict charge places.Absent 0 v w × (strict ≡ true)
      × (v.open_places < w.open_places) × (w.takings ≡ v.takings) × (w.tight ≡ v.tight)

  -- the most atomic steps of the turns that a view counts between, by what they took
  abbrev pub sweeping_between : (slots : ℕ) → View T → View T → ℕ
  sweeping_between slots v w = sweeping slots (w.turns - v.turns) (w.takings - v.takings)
