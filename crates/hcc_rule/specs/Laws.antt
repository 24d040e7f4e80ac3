-- The words of a state, by their names, for what holds of every state that keeps the rule.
use Rattle.std.specs.Prelude.{◌≡◌, ℕ, zero, suc, ◌+◌, ◌%◌, ◌^◌, ◌<◌, Bool, true, List, [], ◌++◌, Some, map, slice_get, slice_index, length}
use Rattle.std.specs.List.{range_with_len}
use Rattle.atomic_table.specs.Table as table
use Rattle.hcc_word.specs.Word.{is_shareable, refs_of}
use Rattle.hcc_core.specs.declared.limits.TheConstants.{SLOTS_PER_TURN}
use Rattle.hcc_core.specs.declared.slot.Entry.{Entry}
use Rattle.hcc_core.specs.declared.slot.Stamp.{Stamp}
use Rattle.hcc_core.specs.References.{is_stamp}
use Rattle.hcc_core.specs.Sums.{total, when}
use Rattle.hcc_rule.specs.declared.key.Key.{Key}
use Rattle.hcc_rule.specs.declared.layout.TheConstants.{META, DISPLACEMENT, DATA}
use Rattle.hcc_rule.specs.declared.rule.Plan.{Plan}
use Rattle.hcc_rule.specs.declared.view.Gone.{Gone}
use Rattle.hcc_rule.specs.declared.view.Logged.{Logged}
use Rattle.hcc_rule.specs.declared.view.Made.{Made}
use Rattle.hcc_rule.specs.declared.view.Record.{Record}
use Rattle.hcc_rule.specs.declared.view.View.{View}
use Rattle.hcc_rule.specs.Closing.{IsKept, list_by, over_entries}
use Rattle.hcc_rule.specs.Rule.{taken_weigh}
use Rattle.hcc_rule.specs.ToldOwners.{IsDataWord}
use Rattle.hcc_rule.specs.Views.{names, Each}
use Rattle.hcc_rule.specs.Records.{weight_on}
use Rattle.hcc_rule.specs.Words.{entry_of, field_at, ledger_at}

-- the words of a shard and the views of all seats, without their logs
abbrev pub StateOf : Type 0 → Type 0
StateOf T = table.State (Unit {0}) (View T)

-- and with them
abbrev pub LoggedStateOf : Type 0 → Type 0
LoggedStateOf T = table.State (Unit {0}) (Logged T)

module _ {T : Type 0} (p : Plan T) (s : StateOf T) where
  abbrev pub ledger_word : ℕ → ℕ
  ledger_word ledger = slice_index s.words (ledger_at p.geometry.slots p.geometry.room ledger)

  abbrev pub meta_word : (slot : ℕ) → ℕ
  meta_word slot = slice_index s.words (field_at p.geometry.room slot META)

  abbrev pub displacement_word : (slot : ℕ) → ℕ
  displacement_word slot = slice_index s.words (field_at p.geometry.room slot DISPLACEMENT)

  abbrev pub data_word : (slot index : ℕ) → ℕ
  data_word slot index = slice_index s.words (field_at p.geometry.room slot (DATA + index))

  -- whether a slot's word is an entry's, and how many references it counts: acquires less releases
  abbrev pub has_entry : (slot : ℕ) → Bool
  has_entry slot = is_shareable (meta_word slot)

  abbrev pub references_counted : (slot : ℕ) → ℕ
  references_counted slot = refs_of (meta_word slot)

  -- the references that all views hold on a slot
  abbrev pub references_held : (slot : ℕ) → ℕ
  references_held slot = total (λ (v : View T). weight_on slot v.records) s.views

  -- a slot's data words are the entry's, but for the serial
  abbrev pub HasWordsOf : (slot : ℕ) → Entry → Type 0
  HasWordsOf slot entry = (index : ℕ) → IsDataWord entry index (data_word slot index)

  -- so they are of each record of the view that is on the slot
  abbrev pub HasWordsOfRecords : (slot : ℕ) → View T → Type 0
  HasWordsOfRecords slot v = Each (λ (r : Record). r.slot ≡ slot → HasWordsOf slot r.entry)
      v.records

-- Where what was shown is.

-- a weighing of stamps that finds this one
abbrev pub one_of : Stamp → Stamp → ℕ
one_of stamp other = when (is_stamp other stamp) 1

module _ {T : Type 0} (s : StateOf T) where
  -- how often views took the entry of this stamp
  abbrev pub times_taken : Stamp → ℕ
  times_taken stamp = total (λ (v : View T). taken_weigh (one_of stamp) v.gone) s.views

  -- this was shown under this stamp: a view of the state names that client, and its list has it as
  -- the member of the stamp's number
  pub record IsListed (stamp : Stamp) (made : Made) : Type 0 where
    pub number : ℕ
    pub maker : View T
    pub seen : slice_get s.views number ≡ Some maker
    pub named : names stamp.client maker ≡ 1
    pub listed : slice_get (list_by maker stamp.client) stamp.number ≡ Some made

  -- what a view took is as many entries as it counts, and each was shown
  pub record AreTaken (v : View T) : Type 0 where
    pub count : length v.gone ≡ v.takings
    pub each : Each (λ (g : Gone). IsListed g.stamp g.made) v.gone

  -- nobody took the entry of any of its records
  abbrev pub HoldsNothingTaken : View T → Type 0
  HoldsNothingTaken v = Each (λ (r : Record). times_taken r.entry.stamp ≡ 0) v.records

module _ {T : Type 0} (fits : T → Key → List ℕ → Type 0) (p : Plan T) (s : StateOf T) where
  -- In this slot stands what its maker made under this stamp: a view of the state names that
  -- client, and its list has a member of the stamp's number, whose data words are the slot's, the
  -- serial among them.
  pub record IsMade (slot : ℕ) (stamp : Stamp) : Type 0 where
    pub number : ℕ
    pub maker : View T
    pub seen : slice_get s.views number ≡ Some maker
    pub named : names stamp.client maker ≡ 1
    pub kept : IsKept fits p.tag p.geometry.room s.words maker slot stamp

  -- In each slot with an entry stands what was made, and no two have the same.
  pub record AreMade : Type 0 where
    pub stamp_at : ℕ → Stamp
    pub made : (slot : ℕ) → slot < p.geometry.slots → has_entry p s slot ≡ true
        → IsMade slot (stamp_at slot)
    pub apart : (i j : ℕ) → i < p.geometry.slots → j < p.geometry.slots
        → has_entry p s i ≡ true → has_entry p s j ≡ true
        → stamp_at i ≡ stamp_at j → i ≡ j
    -- what was shown stands in one slot and nobody took it, or one view took it once and it stands
    -- in none
    pub once : (stamp : Stamp) (made : Made) → IsListed s stamp made
        → over_entries p.geometry.room s.words p.geometry.slots
        (λ slot. one_of stamp (stamp_at slot)) + times_taken s stamp ≡ 1

  -- the entry of a record is what was made that stands in its slot
  pub record IsOfMade (r : Record) : Type 0 where
    pub made : IsMade r.slot r.entry.stamp
    pub same : r.entry ≡ entry_of r.entry.stamp made.kept.made

  abbrev pub AreOfMade : View T → Type 0
  AreOfMade v = Each IsOfMade v.records

-- The slots of turns.

-- those of a turn that finds the hand at this number
abbrev pub due_at : (slots hand : ℕ) → List ℕ
due_at slots hand = map (λ i. (hand + i) % slots) (range_with_len 0 SLOTS_PER_TURN)

-- those of so many turns, of which the first finds the hand there, and each other where the one
-- before it left it
abbrev pub due_in : (slots hand turns : ℕ) → List ℕ
due_in slots hand zero = []
due_in slots hand (suc turns) =
    due_at slots hand ++ due_in slots ((hand + SLOTS_PER_TURN) % 2 ^ 64) turns
