-- What the steps of references tell their seat: acquire, give and release, hide, mark, clock and
-- correct.
use Rattle.std.specs.Prelude.{◌≡◌, ℕ, ◌*◌, ◌/◌, ◌^◌, ◌<◌, ◌≤◌, ◌==◌, ◌||◌, Bool, true, false, List, [], ◌∷◌, ◌++◌, Option, Some, None, IfSome, length, if◌then◌else◌, option_map}
use Rattle.std.specs.List.{list_any}
use Rattle.atomic_table.specs.Table.{Step}
use Rattle.hcc_word.specs.declared.layout.TheConstants.{ONE_RELEASE}
use Rattle.hcc_word.specs.Word.{refs_of, is_counting, is_shareable, is_visible}
use Rattle.hcc_core.specs.declared.slot.Entry.{Entry}
use Rattle.hcc_core.specs.Outcomes.{dropped}
use Rattle.hcc_core.specs.References.{joined, looks_at}
use Rattle.hcc_core.specs.Lawful.{is_in}
use Rattle.hcc_rule.specs.declared.key.Key.{Key}
use Rattle.hcc_rule.specs.declared.view.Record.{Record}
use Rattle.hcc_rule.specs.declared.view.Done.{Done}
use Rattle.hcc_rule.specs.declared.view.View.{View}
use Rattle.hcc_rule.specs.Words.{key_of}
use Rattle.hcc_rule.specs.Views.{is_on, is_called, Each}
use Rattle.hcc_rule.specs.Records.{record_in}
use Rattle.hcc_rule.specs.Told.{Held}
use Rattle.hcc_rule.specs.Looked.{after_look, noticing, Backs}
use Rattle.hcc_rule.specs.Events.{acquire_done, clock_done, correct_done, mark_done, give_done, hide_done, spend_done}

-- the record of an acquire of an entry, by the word that it found
abbrev pub record_of : (slot weight name word : ℕ) → Entry → Record
record_of slot weight name word entry = record {
  slot = slot;
  name = name;
  weight = weight;
  counting = is_counting word;
  shown = is_visible word;
  entry = entry;
}

-- the word is that of an entry with so many references
pub record IsReferenced (weight word : ℕ) : Type 0 where
  pub entry : is_shareable word ≡ true
  pub enough : weight ≤ refs_of word

-- the entry of the record of this name
abbrev pub entry_called : (name : ℕ) → List Record → Option Entry
entry_called name records = option_map (λ (r : Record). r.entry) (record_in name records)

-- its key, behind these
abbrev pub with_key : List Key → Option Entry → List Key
with_key keys None = keys
with_key keys (Some entry) = keys ++ key_of entry ∷ []

module _ {T : Type 0} where
  -- Acquire.

  -- the client looked at the slot, or holds a reference there
  abbrev pub may_reach : (slot : ℕ) → View T → Bool
  may_reach slot v = looks_at v.work slot || list_any (is_on slot) v.records

  -- the view once an acquire found no entry
  abbrev pub after_stray : View T → View T
  after_stray v = record v { work = record v.work { looked = None } }

  -- and once it found this one: it holds a record of it, and has seen it dead where it is hidden
  abbrev pub after_acquire : (slot weight name word : ℕ) → Entry → View T → View T
  after_acquire slot weight name word entry v = record v {
    work = record v.work {
      looked = None;
      dead = joined v.work.dead (if is_visible word then None else Some entry.stamp);
    };
    records = v.records ++ record_of slot weight name word entry ∷ [];
  }

  -- What is told of the entry: its value is right for its key, it fits, it is none that the client
  -- saw dead, and it is the one that the client held there before.
  pub record IsMet (fits : T → Key → List ℕ → Type 0) (room slot word : ℕ) (v : View T)
      (entry : Entry) : Type 0 where
    pub right : IfSome v.tag (λ tag. fits tag (key_of entry) entry.value)
    pub short : length entry.value ≤ 8 * room
    pub small : entry.charge < 2 ^ 32
    pub bytes : Each (λ b. b < 256) entry.value
    pub alive : is_visible word ≡ true → is_in entry.stamp v.work.dead ≡ false
    pub same : Each (λ r. r.slot ≡ slot → r.entry ≡ entry) v.records

  -- the view after an acquire, by the word that it found
  pub record Acquired (fits : T → Key → List ℕ → Type 0) (room slot weight name word : ℕ)
      (v new : View T) : Type 0 where
    pub backs : Backs slot word v
    pub stray : is_shareable word ≡ false → new ≡ after_stray v
    pub got : is_shareable word ≡ true
        → (entry : Entry) × IsMet fits room slot word v entry
        × (new ≡ after_acquire slot weight name word entry v)

  abbrev pub acquires : (T → Key → List ℕ → Type 0) → (room slot name : ℕ) → Step (Unit {0})
      → Held T → ℕ → Held T → Option Done → Type 0
  acquires fits room slot name step me word after act =
      (after.1 ≡ me.1) × Acquired fits room slot step.first name word me.0 after.0
      × (act ≡ Some (acquire_done slot step.first name word me.0))

  -- Give and release.

  -- the view without the record of this name
  abbrev pub after_give : (slot name word : ℕ) → View T → View T
  after_give slot name word v =
      record (noticing slot word v) { records = dropped (is_called name) v.records }

  abbrev pub gives : (slot name : ℕ) → Step (Unit {0}) → Held T → ℕ → Held T → Option Done → Type 0
  gives slot name step me word after act =
      (after.1 ≡ me.1) × (after.0 ≡ after_give slot name word me.0) × IsReferenced step.first word
      × (act ≡ Some (give_done step.first name word me.0))

  abbrev pub spends : (slot name : ℕ) → Step (Unit {0}) → Held T → ℕ → Held T → Option Done → Type 0
  spends slot name step me word after act =
      (after.1 ≡ me.1) × (after.0 ≡ after_give slot name word me.0)
      × IsReferenced (step.first / ONE_RELEASE) word
      × (act ≡ Some (spend_done (step.first / ONE_RELEASE) name word me.0))

  -- Hide.

  -- the view once its client hid the entry of this name, or found it hidden
  abbrev pub after_hide : (name word : ℕ) → View T → View T
  after_hide name word v = record v {
    work = record v.work {
      dead = joined v.work.dead (option_map (λ (e : Entry). e.stamp) (entry_called name v.records));
    };
    hidden = (if is_visible word then with_key v.hidden (entry_called name v.records) else
        v.hidden);
  }

  abbrev pub hides : (name : ℕ) → Step (Unit {0}) → Held T → ℕ → Held T → Option Done → Type 0
  hides name step me word after act =
      (after.1 ≡ me.1) × (after.0 ≡ after_hide name word me.0) × (is_shareable word ≡ true)
      × (act ≡ Some (hide_done name word me.0))

  -- Mark.

  abbrev pub marks : (slot name : ℕ) → Step (Unit {0}) → Held T → ℕ → Held T → Option Done → Type 0
  marks slot name step me word after act =
      (after.1 ≡ me.1) × (after.0 ≡ noticing slot word me.0) × (is_shareable word ≡ true)
      × (act ≡ Some (mark_done name me.0))

  -- Clock and correct: an exchange that found another word is a look.

  abbrev pub after_clock : (slot old word : ℕ) → View T → View T
  after_clock slot old word v = if word == old then v else after_look slot word v

  abbrev pub clocks : (slot : ℕ) → Step (Unit {0}) → Held T → ℕ → Held T → Option Done → Type 0
  clocks slot step me word after act =
      (after.1 ≡ me.1) × (after.0 ≡ after_clock slot step.first word me.0)
      × (act ≡ Some (clock_done slot step.first step.second word me.0))

  abbrev pub after_correct : (slot old word : ℕ) → View T → View T
  after_correct slot old word v =
      if word == old then noticing slot word v else after_look slot word v

  abbrev pub corrects : (slot name : ℕ) → Step (Unit {0}) → Held T → ℕ → Held T
      → Option Done → Type 0
  corrects slot name step me word after act =
      (after.1 ≡ me.1) × (after.0 ≡ after_correct slot step.first word me.0)
      × (act ≡ Some (correct_done slot name step.first word me.0))
