-- What turns of the hand leave of a view, and when an eviction ends.
use Rattle.std.specs.Prelude.{◌≡◌, ℕ, ◌+◌, ◌*◌, ◌/◌, ◌%◌, ◌==◌, ◌<◌, ◌≤◌, ◌&&◌, ◌||◌, Option, Bool, true, false, nat_le, nat_lt, List, [], ◌∷◌, ◌++◌, length}
use Rattle.hcc_core.specs.declared.client.Owned.TheVariants as owned
use Rattle.hcc_core.specs.declared.limits.TheConstants.{SLOTS_PER_TURN}
use Rattle.hcc_rule.specs.declared.key.Key.{Key}
use Rattle.hcc_rule.specs.declared.layout.TheConstants.{HAND}
use Rattle.hcc_rule.specs.declared.table.RuleTable.{RuleTable}
use Rattle.hcc_rule.specs.declared.view.View.{View}
use Rattle.hcc_rule.specs.Callers.{room_of, slots_of}
use Rattle.hcc_rule.specs.Addresses.{address_of_ledger, address_of_meta}
use Rattle.hcc_rule.specs.Gone.{Takes}
use Rattle.hcc_rule.specs.Seats.{SeatOf, Makes, view}
use Rattle.hcc_rule.specs.ToldLedgers.{after_turn}
use Rattle.hcc_table.specs.declared.visiting.ClockVisit.{ClockVisit}
use Rattle.hcc_table.specs.Lists.{Shelf, has_room}
use Rattle.hcc_table.specs.Searched.{Grows}
use Rattle.hcc_table.specs.Visited.{Visited}
use Rattle.hcc_charge.specs.declared.evicting.TheConstants.{PINNED_PER_SLOT}
use Rattle.hcc_charge.specs.declared.swept.Swept.{Swept}
use Rattle.hcc_charge.specs.Swept.{IsModest, both, nothing_swept, one_turn, swept_of, with_turns, with_visits}

-- the most turns that one eviction makes
abbrev pub most_turns : ℕ → ℕ
most_turns slots = 3 * slots / 4 + 1

-- the most entries that it frees
abbrev pub most_freed : ℕ → ℕ
most_freed slots = SLOTS_PER_TURN * most_turns slots

-- the most atomic steps of so many turns that freed so many slots: one that moves the hand and two
-- for each of the four slots, and for a slot that is freed those that give its trail back and empty
-- it
abbrev pub sweeping : (slots turns freed : ℕ) → ℕ
sweeping slots turns freed = 9 * turns + (slots + 4) * freed

-- of an eviction, whatever it frees, where so many loads put an entry on the list
abbrev pub evicting : (slots loads : ℕ) → ℕ
evicting slots loads = sweeping (slots + loads) (most_turns slots) (most_freed slots)

-- of a reservation, beside those of its eviction: it asks for a place and for the charge, and tells
-- the ledgers what it got or gives back
abbrev pub asking : ℕ
asking = 5

-- and of a reservation, whatever it frees
abbrev pub reserving : (slots loads : ℕ) → ℕ
reserving slots loads = evicting slots loads + asking

-- as much charge was freed as was asked for, or too many visits found an entry that is held
abbrev pub is_enough : ℕ → Swept → Bool
is_enough ask all =
    nat_le ask all.charge || nat_le ((all.slots + 1) * PINNED_PER_SLOT) all.pinned

-- or all turns were made
abbrev pub has_ended : (slots ask : ℕ) → Swept → Bool
has_ended slots ask all = is_enough ask all || all.turns == most_turns slots

-- whether a list has room for what a turn may free
abbrev pub turn_room : Option Shelf → Bool
turn_room = has_room SLOTS_PER_TURN

-- An eviction that asked for this much did this: it made turns until it ended, or the list of what
-- is freed had no room for another. Where nothing is asked for, or there was no room before the
-- first, none is made. The list had room for a turn before it, and has room behind it.
pub record IsSweptFor (had has : Bool) (slots ask : ℕ) (all : Swept) : Type 0 where
  pub few : all.turns ≤ most_turns slots
  pub modest : IsModest (4 * all.turns) all
  pub made : nat_lt 0 all.turns ≡ (had && nat_lt 0 ask)
  pub ends : 0 < ask → has ≡ true → has_ended slots ask all ≡ true

-- after none of these turns it was enough
abbrev pub GoesOn : (ask : ℕ) → Swept → List Swept → Type 0
GoesOn ask all [] = Unit {0}
GoesOn ask all (turn ∷ more) =
    (is_enough ask (both all turn) ≡ false) × GoesOn ask (both all turn) more

module _ {T A : Type 0} (table : RuleTable T A) where
  -- The hand was moved on by four slots, and was found there.
  pub record Moved (hand : ℕ) (a b : SeatOf T) : Type 0 where
    pub step : Makes (address_of_ledger table HAND) SLOTS_PER_TURN 0 hand a b
    pub view : view b ≡ after_turn (view a)

module _ {T A : Type 0} (fits : T → Key → List ℕ → Type 0) (table : RuleTable T A) where
  -- the clock visited this slot
  abbrev pub VisitedAt : (slot : ℕ) → ClockVisit → SeatOf T → SeatOf T → Type 0
  VisitedAt slot =
      Visited fits (slots_of table) (room_of table) (address_of_meta table slot) slot

  -- The clock visited as many slots as these answers, one after the other, and behind the last slot
  -- the first.
  abbrev pub Visits : (from : ℕ) → List ClockVisit → SeatOf T → SeatOf T → Type 0
  Visits from [] a c = c ≡ a
  Visits from (visit ∷ more) a c =
      (b : SeatOf T) × VisitedAt (from % slots_of table) visit a b × Visits (from + 1) more b c

  -- a visit of a slot that did this
  pub record VisitedBy (slot : ℕ) (done : Swept) (a b : SeatOf T) : Type 0 where
    pub answer : ClockVisit
    pub visited : VisitedAt slot answer a b
    pub is : done ≡ swept_of answer

  -- a turn of the hand that did this: it visits the four slots from where the hand was found
  pub record Turned (turn : Swept) (a c : SeatOf T) : Type 0 where
    pub hand : ℕ
    pub b : SeatOf T
    pub moved : Moved table hand a b
    pub answers : List ClockVisit
    pub four : length answers ≡ SLOTS_PER_TURN
    pub visits : Visits (hand % slots_of table) answers b c
    pub sum : turn ≡ with_visits one_turn answers

  -- such turns, one after the other
  abbrev pub Turns : List Swept → SeatOf T → SeatOf T → Type 0
  Turns [] a c = c ≡ a
  Turns (turn ∷ more) a c = (b : SeatOf T) × Turned turn a b × Turns more b c

  -- An eviction that asked for this much charge did this: it made turns up to the first after which
  -- it was enough or the list had no room for another, or to the last that it may make.
  pub record Evicts (has : Bool) (ask : ℕ) (all : Swept) (a b : SeatOf T) : Type 0 where
    pub before : List Swept
    pub last : Swept
    pub turns : Turns (before ++ last ∷ []) a b
    pub sum : all ≡ with_turns nothing_swept (before ++ last ∷ [])
    pub goes_on : GoesOn ask nothing_swept before
    pub ends : has ≡ true → has_ended (slots_of table) ask all ≡ true

  -- An eviction was made just where something is asked for and the list has room for a turn, and
  -- for that; else nothing was done.
  pub record EvictsFor (had has : Bool) (ask : ℕ) (all : Swept) (a b : SeatOf T)
      : Type 0 where
    pub none : ask ≡ 0 → (all ≡ nothing_swept) × (b ≡ a)
    pub full : had ≡ false → (all ≡ nothing_swept) × (b ≡ a)
    pub some : 0 < ask → had ≡ true → Evicts has ask all a b

module _ {T : Type 0} where
  -- The client made so many turns of the hand, and took so many entries with this charge in sum,
  -- none of which was Shown with uses left. Their places and charges are its to settle. It may have
  -- looked at slots, seen entries dead, and have other words in a slot of its own. All else stays.
  pub record Sweeps (turns slots charge : ℕ) (v w : View T) : Type 0 where
    pub same : w ≡ record v {
      work = record v.work {
        looked = w.work.looked;
        owned = owned.Nothing;
        trail = [];
        freed = v.work.freed + charge;
        freed_slots = v.work.freed_slots + slots;
        dead = w.work.dead;
      };
      written = w.written;
      takings = v.takings + slots;
      gone = w.gone;
      turns = v.turns + turns;
    }
    pub dead : Grows v.work.dead w.work.dead
    -- which entries these were
    pub taken : Takes slots charge v w
