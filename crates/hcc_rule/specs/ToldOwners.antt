-- What the steps of owners tell their seat: those that take a slot, write it, show it, free it and
-- empty it.
use Rattle.std.specs.Prelude.{◌≡◌, ◌≢◌, ℕ, true, false, ◌+◌, ◌-◌, ◌^◌, ◌<◌, ◌≤◌, ◌==◌, List, [], ◌∷◌, ◌++◌, Option, Some, None, is_some, IfSome, IsSomeAnd, Bool, ◌&&◌, nat_lt, length, slice_index, if◌then◌else◌}
use Rattle.std.specs.Int.{from_bool}
use Rattle.atomic_table.specs.Table.{Step}
use Rattle.hcc_word.specs.declared.layout.TheConstants.{VISIBLE}
use Rattle.hcc_word.specs.Word.{is_empty, is_visible, refs_of, releases_of, word_of}
use Rattle.hcc_core.specs.declared.limits.TheConstants.{REFERENCES_PER_CLIENT, STAMPS_PER_CLIENT, MOST_COUNTDOWN}
use Rattle.hcc_core.specs.declared.client.Place.TheVariants as places
use Rattle.hcc_core.specs.Outcomes.{dropped}
use Rattle.hcc_core.specs.References.{joined}
use Rattle.hcc_core.specs.Entries.{client_shown}
use Rattle.hcc_core.specs.declared.client.Owned.TheVariants as owned
use Rattle.hcc_core.specs.declared.slot.Entry.{Entry}
use Rattle.hcc_core.specs.declared.slot.Stamp.{Stamp}
use Rattle.hcc_core.specs.Sums.{when}
use Rattle.hcc_rule.specs.declared.key.Key.{Key}
use Rattle.hcc_rule.specs.declared.layout.TheConstants.{KEY1, STAMP}
use Rattle.hcc_rule.specs.declared.steps.shows.Draft.{Draft}
use Rattle.hcc_rule.specs.declared.rule.Plan.{Plan}
use Rattle.hcc_rule.specs.declared.view.Made.{Made}
use Rattle.hcc_rule.specs.declared.view.Record.{Record}
use Rattle.hcc_rule.specs.declared.view.Done.{Done}
use Rattle.hcc_rule.specs.declared.view.View.{View}
use Rattle.hcc_rule.specs.Views.{is_called, load_of}
use Rattle.hcc_rule.specs.Records.{record_in}
use Rattle.hcc_rule.specs.Probes.{trail_to}
use Rattle.hcc_rule.specs.Rule.{IsRight}
use Rattle.hcc_rule.specs.Words.{key_of, entry_of, made_words}
use Rattle.hcc_rule.specs.Told.{Held}
use Rattle.hcc_rule.specs.Looked.{Backs, after_look, found_dead}
use Rattle.hcc_rule.specs.Events.{show_done, empty_done, free_done, occupy_done, read_done, write_done}

-- the data words of an entry, but for the serial in its stamp word
abbrev pub entry_words : Entry → List ℕ
entry_words entry = made_words entry.stamp.client record {
  serial = 0;
  key = key_of entry;
  value = entry.value;
  charge = entry.charge;
}

-- this is the entry's data word of this index
abbrev pub IsDataWord : Entry → (index word : ℕ) → Type 0
IsDataWord entry index word =
    index ≢ STAMP → index < length (entry_words entry)
    → word ≡ slice_index (entry_words entry) index

-- An entry that was got as Shown is met once its second key word was read.
abbrev pub with_met : Option Record → List Key → List Key
with_met None keys = keys
with_met (Some r) keys = if r.shown then keys ++ key_of r.entry ∷ [] else keys

-- the record that a client keeps of the entry that it shows
abbrev pub first_records : (slot : ℕ) → Option ℕ → Entry → List Record
first_records slot None entry = []
first_records slot (Some name) entry =
    record { slot = slot; name = name; weight = 1; counting = true; shown = false; entry = entry }
    ∷ []

-- that entry, by the client's count of stamps
abbrev pub shown_entry : {T : Type 0} → View T → Made → Entry
shown_entry v made = entry_of (record { client = v.client; number = v.work.stamps }) made

-- the word that an entry is shown with: its countdown in both counters, but one release less where
-- its maker keeps a reference
abbrev pub first_word : Draft → ℕ
first_word draft =
    word_of draft.countdown (draft.countdown - from_bool (is_some draft.name)) false VISIBLE

-- what a draft makes of these bytes
abbrev pub made_of : Draft → List ℕ → Made
made_of draft value = record {
  serial = draft.serial;
  key = draft.key;
  value = value;
  charge =
      draft.charge;
}

-- the records without that of a name, if there is one
abbrev pub records_left : Option ℕ → List Record → List Record
records_left None records = records
records_left (Some name) records = dropped (is_called name) records

-- the word of an entry that is Shown and has uses left
abbrev pub is_warm : ℕ → Bool
is_warm word = is_visible word && nat_lt 0 (releases_of word)

-- one more record is kept where the client has a name for one
abbrev pub room_for : Option ℕ → ℕ
room_for None = 0
room_for (Some name) = 1

-- What a client has that shows an entry: a slot that it builds, with the entry's words written, its
-- place and its charge granted, the trail to that slot, and a free name for the reference that it
-- keeps, if any.
pub record MayShow {T : Type 0} (fits : T → Key → List ℕ → Type 0) (p : Plan T) (slot countdown : ℕ)
    (name : Option ℕ) (made : Made) (v : View T) : Type 0 where
  pub builds : v.work.owned ≡ owned.ForBuilding slot
  pub written : v.written ≡ made_words v.client made
  pub right : IsRight fits p.tag p.geometry.room made
  pub word0 : made.key.w0 < 2 ^ 64
  pub word1 : made.key.w1 < 2 ^ 64
  pub place : v.work.place ≡ places.Granted
  pub needed : v.work.needed ≡ 0
  pub paid : made.charge ≤ v.work.granted
  pub some : 1 ≤ countdown
  pub few : countdown ≤ MOST_COUNTDOWN
  pub fresh : IfSome name (λ x. (x < 2 ^ 64) × (record_in x v.records ≡ None))
  pub room : load_of v.records + room_for name ≤ REFERENCES_PER_CLIENT
  pub stamps : length v.made < STAMPS_PER_CLIENT
  pub trail : v.work.trail ≡ trail_to p.geometry.slots made.key slot

module _ {T : Type 0} where
  -- Occupy: an empty slot is the client's to build, and any other is looked at.
  abbrev pub after_occupy : (slot word : ℕ) → View T → View T
  after_occupy slot word v =
      if is_empty word
      then record v { work = record v.work { owned = owned.ForBuilding slot }; written = [] }
      else record (after_look slot word v) { saw = v.saw + 1 }

  abbrev pub occupies : (slot : ℕ) → Step (Unit {0}) → Held T → ℕ → Held T → Option Done → Type 0
  occupies slot step me word after act =
      (after.1 ≡ me.1) × (after.0 ≡ after_occupy slot word me.0) × Backs slot word me.0
      × (act ≡ Some (occupy_done slot word me.0))

  -- Empty: the slot that was taken to be freed is given back.
  abbrev pub after_empty : View T → View T
  after_empty v = record v { work = record v.work { owned = owned.Nothing }; written = [] }

  abbrev pub empties : Step (Unit {0}) → Held T → ℕ → Held T → Option Done → Type 0
  empties step me word after act = (after.1 ≡ me.1) × (after.0 ≡ after_empty me.0)
      × (act ≡ Some (empty_done me.0))

  -- Write: one more data word.
  abbrev pub after_write : (word : ℕ) → View T → View T
  after_write word v = record v { written = v.written ++ word ∷ [] }

  abbrev pub writes : Step (Unit {0}) → Held T → ℕ → Held T → Option Done → Type 0
  writes step me word after act = (after.1 ≡ me.1) × (after.0 ≡ after_write step.first me.0)
      × (act ≡ Some (write_done me.0))

  -- Read: a data word of the entry that a record is on.
  abbrev pub after_read : (name index : ℕ) → View T → View T
  after_read name index v =
      if index == KEY1 then record v { met = with_met (record_in name v.records) v.met } else v

  abbrev pub reads : (name index : ℕ) → Step (Unit {0}) → Held T → ℕ → Held T → Option Done → Type 0
  reads name index step me word after act =
      (after.1 ≡ me.1) × (after.0 ≡ after_read name index me.0)
      × IfSome (record_in name me.0.records) (λ r. IsDataWord r.entry index word)
      × IfSome (record_in name me.0.records) (λ r. act ≡ Some (read_done name r.entry me.0))

  -- Read of the slot that the client owns: the word that stands there.
  abbrev pub reads_own : (index : ℕ) → Step (Unit {0}) → Held T → ℕ → Held T → Option Done → Type 0
  reads_own index step me word after act =
      (after.1 ≡ me.1) × (after.0 ≡ me.0)
      × (index < length me.0.written → word ≡ slice_index me.0.written index)
      × (act ≡ None)

  -- Show: the entry whose words were written is the newest that the client made; it keeps a
  -- reference on it where it has a name for one.
  abbrev pub after_show : (slot : ℕ) → Option ℕ → Made → View T → View T
  after_show slot name made v = record v {
    work = client_shown made.charge v.work;
    written = [];
    made = v.made ++ made ∷ [];
    records = v.records ++ first_records slot name (shown_entry v made);
  }

  abbrev pub shows : (slot countdown : ℕ) → Option ℕ → Made → Step (Unit {0}) → Held T → ℕ
      → Held T → Option Done → Type 0
  shows slot countdown name made step me word after act =
      (after.1 ≡ me.1) × (after.0 ≡ after_show slot name made me.0)
      × (act ≡ Some (show_done countdown name made me.0))

  -- Free: the entry of a slot with no reference, or with the client's last one, is taken.

  -- that reference is the last one, by the word of the slot
  abbrev pub IsLast : (slot word : ℕ) → Option ℕ → View T → Type 0
  IsLast slot word None v = refs_of word ≡ 0
  IsLast slot word (Some name) v =
      (name < 2 ^ 64) × (refs_of word ≡ 1)
      × IsSomeAnd (record_in name v.records) (λ r. (r.slot ≡ slot) × (r.weight ≡ 1))

  -- The view once it took the entry that is made so: all that was in the slot is the client's to
  -- take back, the entry's charge and its place are freed, and its words stand there still.
  abbrev pub after_free : (slots slot word : ℕ) → Option ℕ → Stamp → Made → View T → View T
  after_free slots slot word name stamp made v = record v {
    work = record v.work {
      owned = owned.ForFreeing slot;
      trail = trail_to slots made.key slot;
      freed = v.work.freed + made.charge;
      freed_slots = v.work.freed_slots + 1;
      dead = joined v.work.dead (found_dead slot word v);
    };
    written = made_words stamp.client made;
    records = records_left name v.records;
    takings = v.takings + 1;
    warm = v.warm + when (is_warm word) 1;
    gone = v.gone ++ record { stamp = stamp; made = made } ∷ [];
  }

  -- what is told of a taken entry: it is one that its maker was right to show, and the one on
  -- record
  pub record IsTaken (fits : T → Key → List ℕ → Type 0) (room : ℕ) (name : Option ℕ) (v : View T)
      (stamp : Stamp) (made : Made) : Type 0 where
    pub right : IfSome v.tag (λ tag. IsRight fits tag room made)
    pub same : IfSome name (λ x. IfSome (record_in x v.records)
        (λ r. r.entry ≡ entry_of stamp made))

  -- the exchange took the slot, or found another word and was a look
  pub record Freed (fits : T → Key → List ℕ → Type 0) (slots room slot old word : ℕ)
      (name : Option ℕ) (v new : View T) : Type 0 where
    pub won : (word == old) ≡ true
        → (stamp : Stamp) × (made : Made) × IsTaken fits room name v stamp made
        × (new ≡ after_free slots slot word name stamp made v)
    pub lost : (word == old) ≡ false → new ≡ after_look slot word v

  abbrev pub frees : (T → Key → List ℕ → Type 0) → (slots room slot : ℕ) → Option ℕ
      → Step (Unit {0}) → Held T → ℕ → Held T → Option Done → Type 0
  frees fits slots room slot name step me word after act =
      (after.1 ≡ me.1) × Freed fits slots room slot step.first word name me.0 after.0
      × (act ≡ Some (free_done slot name step.first word
      (after.0.work.freed - me.0.work.freed) me.0))
