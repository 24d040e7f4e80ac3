-- What a reservation found, and what it evicted for that, told of its atomic steps and its events.
use Rattle.std.specs.Prelude.{◌≡◌, ℕ, ◌+◌, ◌<◌, ◌≤◌, Bool, true, false, nat_le, List, length, Result, Ok, Err, if◌then◌else◌}
use Rattle.hcc_core.specs.Sums.{when}
use Rattle.hcc_core.specs.World.{limit_of, standing_of}
use Rattle.hcc_rule.specs.declared.key.Key.{Key}
use Rattle.hcc_rule.specs.declared.layout.TheConstants.{OCCUPANCY, USAGE}
use Rattle.hcc_rule.specs.declared.table.RuleTable.{RuleTable}
use Rattle.hcc_rule.specs.declared.view.View.{View}
use Rattle.hcc_rule.specs.Callers.{capacity_of, clients_of, is_strict, plan_of, slots_of, IsEvent}
use Rattle.hcc_rule.specs.Addresses.{address_of_ledger}
use Rattle.hcc_rule.specs.Events.{charge_done, enter_done, usage_done}
use Rattle.hcc_rule.specs.Gone.{Takes}
use Rattle.hcc_rule.specs.Rule.{setup_of}
use Rattle.hcc_rule.specs.Seats.{SeatOf, Makes, MakesSome, view}
use Rattle.hcc_rule.specs.Views.{charge_made}
use Rattle.hcc_table.specs.declared.efforts.Effort.{Effort}
use Rattle.hcc_table.specs.Efforts.{Lost}
use Rattle.hcc_table.specs.Seeking.{GoesOnBy, is_booking}
use Rattle.hcc_charge.specs.declared.reserving.Reservation.{Reservation}
use Rattle.hcc_charge.specs.declared.reserving.Reservation.TheVariants.{Reserved, NoPlace}
use Rattle.hcc_charge.specs.declared.reserving.Refused.{Refused}
use Rattle.hcc_charge.specs.declared.reserving.Refused.TheVariants.{TooLarge, CapacityFull, OccupancyFull}
use Rattle.hcc_charge.specs.declared.swept.Swept.{Swept}
use Rattle.hcc_charge.specs.declared.tally.Tally.{Tally}
use Rattle.hcc_charge.specs.Evicted.{EvictsFor, IsSweptFor}
use Rattle.hcc_charge.specs.Reserved.{asked, needed_by}
use Rattle.hcc_charge.specs.Settled.{Settles, TakesOff}
use Rattle.hcc_charge.specs.Swept.{Tallied}

-- what the step that finds the usage adds to it: the charge under strict capacity, else nothing
abbrev pub added : (strict : Bool) → (charge : ℕ) → ℕ
added strict charge = if strict then charge else 0

-- No turn was made, no entry taken, and no open place asked for.
pub record EvictsNothing {T : Type 0} (v w : View T) : Type 0 where
  pub turns : w.turns ≡ v.turns
  pub takings : w.takings ≡ v.takings
  pub gone : w.gone ≡ v.gone
  pub opened : w.open_places ≡ v.open_places

module _ {T A : Type 0} (table : RuleTable T A) where
  -- no place was left where so many were taken
  abbrev pub is_full : (taken : ℕ) → Bool
  is_full taken = nat_le (limit_of (setup_of (plan_of table))) taken

  -- what of the charge wasn't granted at once, where this usage was found
  abbrev pub lacked : (charge used : ℕ) → ℕ
  lacked charge used = needed_by (is_strict table) (capacity_of table) used charge

  -- A place was asked for, and so many were found taken.
  abbrev pub Enters : (taken : ℕ) → SeatOf T → SeatOf T → Type 0
  Enters = Makes (address_of_ledger table OCCUPANCY) 1 0

  -- The usage was found by a load, or under strict capacity by the addition of the charge: by the
  -- event of that.
  abbrev pub FindsBy : (strict : Bool) → (charge used : ℕ) → SeatOf T → SeatOf T → Type 0
  FindsBy true charge used old new =
      IsEvent table (charge_done (setup_of (plan_of table)) charge used (view old)) old new
  FindsBy false charge used old new = IsEvent table (usage_done used (view old)) old new

  -- What was freed was settled, and the charge is granted: without strict capacity it was added
  -- between the two.
  abbrev pub Grants : (strict : Bool) → (charge : ℕ) → Swept → SeatOf T → SeatOf T → Type 0
  Grants true charge swept old new = Settles table swept.slots swept.charge old new
  Grants false charge swept old new =
      (a : SeatOf T) × (b : SeatOf T) × TakesOff table OCCUPANCY swept.slots old a
      × MakesSome (address_of_ledger table USAGE) charge 0 a b
      × TakesOff table USAGE swept.charge b new

  -- The place and the charge were given back, with the slots and the charge that were freed.
  abbrev pub GivesAllBack : (charge : ℕ) → Swept → SeatOf T → SeatOf T → Type 0
  GivesAllBack charge swept old new =
      (mid : SeatOf T)
      × MakesSome (address_of_ledger table OCCUPANCY) (1 + swept.slots) 0 old mid
      × MakesSome (address_of_ledger table USAGE) (charge + swept.charge) 0 mid new

module _ {T A : Type 0} (fits : T → Key → List ℕ → Type 0) (table : RuleTable T A) (charge : ℕ)
    (had has : Bool) where
  -- A reservation found so many places taken, and this usage, and evicted exactly for what it
  -- asks for then, which left the seat c. The client's view counts the turns, what they took and
  -- the open place, its tally all that they did, and its effort the exchanges that they lost. The
  -- steps before the eviction are told by their events, too. The list had room for a turn before
  -- it, and has room behind it, or not. Behind it the client keeps what it reserved, or gives it
  -- back, and does nothing else.
  pub record EvictsAsAsked (before after : Tally) (effort counted : Effort) (a d : SeatOf T)
      : Type 0 where
    pub taken : ℕ
    pub used : ℕ
    pub swept : Swept
    pub u : SeatOf T
    pub b : SeatOf T
    pub c : SeatOf T
    pub enters : Enters table taken a u
    pub finds : Makes (address_of_ledger table USAGE) (added (is_strict table) charge) 0 used u b
    pub enters_by : IsEvent table (enter_done (setup_of (plan_of table)) taken (view a)) a u
    pub finds_by : FindsBy table (is_strict table) charge used u b
    pub evicts : EvictsFor fits table had has
        (asked (is_strict table) (capacity_of table) charge (is_full table taken) used) swept b c
    pub within : IsSweptFor had has (slots_of table)
        (asked (is_strict table) (capacity_of table) charge (is_full table taken) used) swept
    pub turns : (view d).turns ≡ (view a).turns + swept.turns
    pub takings : (view d).takings ≡ (view a).takings + swept.slots
    -- the entries that were taken are those that it freed, of that charge
    pub gone : Takes swept.slots swept.charge (view a) (view d)
    pub opened : (view d).open_places ≡ (view a).open_places + when (is_full table taken) 1
    pub tallied : Tallied swept before after
    pub lost : Lost swept.lost swept.lost effort counted
    pub behind : GoesOnBy table is_booking c d
    -- A client that is alone made all that it found: the places taken are for what it made and
    -- didn't take,
    pub taken_alone : clients_of table ≡ 1
        → taken + (view a).takings ≡ length (view a).made
    -- and the usage is at most the charges of all that it made, with what stands for it.
    pub used_alone : clients_of table ≡ 1
        → used ≤ standing_of (view a).work + charge_made (view a)

  -- What a reservation found and evicted, by its answer: what was lacked was freed, and a slot
  -- where the shard was full; no slot was freed in a full shard; or less charge was than was
  -- lacked. The steps behind its eviction settle or give back exactly what that freed.
  abbrev pub EvictsBy : Result Reservation Refused → (before after : Tally)
      → (effort counted : Effort) → (a d : SeatOf T) → Type 0
  EvictsBy (Ok Reserved) before after effort counted a d =
      (e : EvictsAsAsked before after effort counted a d)
      × (is_full table e.taken ≡ true → 0 < e.swept.slots)
      × (lacked table charge e.used ≤ e.swept.charge)
      × Grants table (is_strict table) charge e.swept e.c d
  EvictsBy (Ok NoPlace) before after effort counted a d =
      (e : EvictsAsAsked before after effort counted a d) × (is_full table e.taken ≡ true)
      × (e.swept.slots ≡ 0)
      × MakesSome (address_of_ledger table OCCUPANCY) 1 0 e.c d
  EvictsBy (Err TooLarge) before after effort counted a d =
      (after ≡ before) × (counted ≡ effort) × (d ≡ a) × (capacity_of table < charge)
  EvictsBy (Err CapacityFull) before after effort counted a d =
      (e : EvictsAsAsked before after effort counted a d)
      × (e.swept.charge < lacked table charge e.used)
      × GivesAllBack table charge e.swept e.c d
  EvictsBy (Err OccupancyFull) before after effort counted a d =
      (e : EvictsAsAsked before after effort counted a d) × (is_full table e.taken ≡ true)
      × (e.swept.slots ≡ 0)
      × (lacked table charge e.used ≡ 0) × GivesAllBack table charge e.swept e.c d
