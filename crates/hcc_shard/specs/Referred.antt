-- What a release and an erasure leave of a view.
use Rattle.std.specs.Prelude.{◌≡◌, ℕ, ◌+◌, ◌≤◌, ◌++◌, ◌&&◌, not, Bool, true, false, List, replicate}
use Rattle.hcc_word.specs.declared.layout.TheConstants.{CONSTRUCTION_WORD}
use Rattle.hcc_word.specs.Word.{is_shareable, refs_of}
use Rattle.hcc_core.specs.Outcomes.{dropped}
use Rattle.hcc_core.specs.Sums.{when}
use Rattle.hcc_rule.specs.declared.key.Key.{Key}
use Rattle.hcc_rule.specs.declared.view.Atomic.{Atomic}
use Rattle.hcc_rule.specs.declared.view.View.{View}
use Rattle.hcc_rule.specs.Gone.{Takes}
use Rattle.hcc_rule.specs.Seats.{SeatOf, Makes, atomic}
use Rattle.hcc_rule.specs.Views.{is_called}
use Rattle.hcc_table.specs.declared.efforts.Effort.{Effort}
use Rattle.hcc_table.specs.Efforts.{Lost}
use Rattle.hcc_table.specs.Freed.{is_due, left_of}
use Rattle.hcc_table.specs.Searched.{Grows, times_met}
use Rattle.hcc_table.specs.Steps.{BeginsWithTwo, MakesTwo, amount_of}

-- the step that gives one reference back, as a use or not
abbrev pub giving : (address : ℕ) → (used : Bool) → (found : ℕ) → Atomic
giving address used found = atomic address (amount_of used 1) 0 found

-- the exchange that takes the entry of the word that is left, by what it finds
abbrev pub taking : (address : ℕ) → (used : Bool) → (found other : ℕ) → Atomic
taking address used found other = atomic address (left_of used 1 found) CONSTRUCTION_WORD other

-- how many exchanges lost: one that was due, where no entry was freed
abbrev pub lost_of : (due freed : Bool) → ℕ
lost_of due freed = when (due && not freed) 1

module _ {T : Type 0} where
  -- The record of this name is gone and no other, and an entry was freed or not: one that was Shown
  -- with uses left only where that was asked for. The client may have looked at slots, had glimpses
  -- of them, seen an entry dead, and have other words in a slot of its own. All else stays.
  pub record IsReleased (name : ℕ) (erase freed : Bool) (v w : View T) : Type 0 where
    pub warm : ℕ
    pub same : w ≡ record v {
      work = record v.work { looked = w.work.looked; dead = w.work.dead };
      records = dropped (is_called name) v.records;
      written = w.written;
      takings = v.takings + when freed 1;
      gone = w.gone;
      warm = v.warm + warm;
      glimpse = w.glimpse;
    }
    pub dead : Grows v.work.dead w.work.dead
    pub few : warm ≤ when freed 1
    pub cold : erase ≡ false → warm ≡ 0
    -- which entry was freed, if one was
    pub taken : (charge : ℕ) × Takes (when freed 1) charge v w

  -- So many visible entries of the key were hidden, and the client holds what it held. It freed no
  -- more entries than it met of the key, none with uses left.
  pub record IsErasedAll (key : Key) (hidden : ℕ) (v w : View T) : Type 0 where
    pub freed : ℕ
    pub met : List Key
    pub same : w ≡ record v {
      work = record v.work { looked = w.work.looked; dead = w.work.dead };
      written = w.written;
      hidden = v.hidden ++ replicate hidden key;
      takings = v.takings + freed;
      gone = w.gone;
      met = v.met ++ met;
      glimpse = w.glimpse;
    }
    pub dead : Grows v.work.dead w.work.dead
    pub few : freed ≤ times_met key met
    -- which entries it freed
    pub taken : (charge : ℕ) × Takes freed charge v w

  -- The first step of a release gave its reference back, as a use or not, and found the word of an
  -- entry with references. Where nobody held the entry then, it was hidden or to be erased, and the
  -- list of what is freed had room, the next step was the exchange that takes it: that won just
  -- where an entry was freed, and else one that lost is counted. Else the release made no other
  -- step.
  pub record GivesBack (address : ℕ) (room used erase freed : Bool) (before after : Effort)
      (old new : SeatOf T) : Type 0 where
    pub found : ℕ
    pub entry : is_shareable found ≡ true
    pub enough : 1 ≤ refs_of found
    pub kept : (room && is_due erase (left_of used 1 found)) ≡ false
        → (freed ≡ false) × Makes address (amount_of used 1) 0 found old new
    pub lost : (room && is_due erase (left_of used 1 found)) ≡ true → freed ≡ false
        → (other : ℕ) × ¬ (other ≡ left_of used 1 found)
        × MakesTwo (giving address used found) (taking address used found other) old new
    pub won : (room && is_due erase (left_of used 1 found)) ≡ true → freed ≡ true
        → BeginsWithTwo (giving address used found)
        (taking address used found (left_of used 1 found)) old new
    pub counted : Lost (lost_of (room && is_due erase (left_of used 1 found)) freed)
        (lost_of (room && is_due erase (left_of used 1 found)) freed) before after
