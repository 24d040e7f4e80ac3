-- What a search leaves of a view, and what it tells.
use Rattle.std.specs.Prelude.{◌≡◌, ℕ, ◌*◌, ◌≤◌, ◌^◌, ◌<◌, true, false, List, [], ◌∷◌, ◌++◌, IfSome, length, ◌==◌, ◌&&◌, Bool}
use Rattle.hcc_word.specs.Word.{is_visible, is_shareable, refs_of}
use Rattle.hcc_core.specs.declared.slot.Entry.{Entry}
use Rattle.hcc_core.specs.declared.slot.Stamp.{Stamp}
use Rattle.hcc_core.specs.Lawful.{is_in}
use Rattle.hcc_rule.specs.declared.key.Key.{Key}
use Rattle.hcc_rule.specs.declared.view.Record.{Record}
use Rattle.hcc_rule.specs.declared.view.View.{View}
use Rattle.hcc_rule.specs.Probes.{probe_slot}
use Rattle.hcc_rule.specs.ToldReferences.{IsMet, record_of}
use Rattle.hcc_rule.specs.Views.{Each}
use Rattle.hcc_rule.specs.Records.{weight_on}
use Rattle.hcc_rule.specs.Words.{key_of}
use Rattle.hcc_core.specs.Sums.{when, total}

-- what stands in the first list stands in the second
abbrev pub Grows : List Stamp → List Stamp → Type 0
Grows old new = (stamp : Stamp) → is_in stamp old ≡ true → is_in stamp new ≡ true

-- whether two keys are equal
abbrev pub is_key : Key → Key → Bool
is_key a b = (a.w0 == b.w0) && (a.w1 == b.w1)

-- how often a key stands in a list
abbrev pub times_met : Key → List Key → ℕ
times_met key = total (λ k. when (is_key key k) 1)

-- the slot is one of the first so many probes of the key
abbrev pub IsBefore : (slots : ℕ) → Key → (i : ℕ) → ℕ → Type 0
IsBefore slots key i slot = (j : ℕ) × (j < i) × (probe_slot slots key j ≡ slot)

module _ {T : Type 0} where
  -- Looks, acquires, loads of data words and gives leave this: the client may have looked at slots,
  -- had glimpses of them, seen entries dead, met keys, and holds other records than before. The
  -- rest stays.
  pub record Searched (v w : View T) : Type 0 where
    pub same : w ≡ record v {
      work = record v.work { looked = w.work.looked; dead = w.work.dead };
      records = w.records;
      met = w.met;
      glimpse = w.glimpse;
    }
    pub dead : Grows v.work.dead w.work.dead
    pub met : (more : List Key) × (w.met ≡ v.met ++ more)

  -- the same, and it holds what it held
  pub record Sought (v w : View T) : Type 0 where
    pub searched : Searched v w
    pub records : w.records ≡ v.records

  -- each entry of the key that the client held before, on a slot of which P holds, is dead to it
  -- after
  abbrev pub Buried : Key → (ℕ → Type 0) → View T → View T → Type 0
  Buried key P v w =
      Each (λ (r : Record). key_of r.entry ≡ key → P r.slot
      → is_in r.entry.stamp w.work.dead ≡ true) v.records

  -- each entry of the key that the client held before is dead to it after
  abbrev pub AllDead : Key → View T → View T → Type 0
  AllDead key v w =
      Each (λ (r : Record). key_of r.entry ≡ key → is_in r.entry.stamp w.work.dead ≡ true) v.records

  -- Nothing was found: it holds what it held, and each entry of the key that it holds is dead to
  -- it.
  pub record IsMissed (key : Key) (v w : View T) : Type 0 where
    pub sought : Sought v w
    pub dead : AllDead key v w

  -- The view after references were acquired, by the word that was found.
  pub record Reached (fits : T → Key → List ℕ → Type 0) (room slot weight name word : ℕ)
      (v w : View T) : Type 0 where
    pub searched : Searched v w
    pub stray : is_shareable word ≡ false → w.records ≡ v.records
    pub got : is_shareable word ≡ true
        → (entry : Entry) × IsMet fits room slot word v entry
        × (w.records ≡ v.records ++ record_of slot weight name word entry ∷ [])
        × (is_visible word ≡ false → is_in entry.stamp w.work.dead ≡ true)
    pub held : Each (λ (r : Record). r.slot ≡ slot → is_shareable word ≡ true) v.records
    pub enough : 0 < weight_on slot v.records → weight_on slot v.records ≤ refs_of word

  -- One record more: of a visible entry, which the client had not seen dead. All that it held on
  -- that slot is on this entry.
  pub record IsFoundOn (fits : T → Key → List ℕ → Type 0) (room slot name : ℕ) (v w : View T)
      (r : Record) : Type 0 where
    pub searched : Searched v w
    pub records : w.records ≡ v.records ++ r ∷ []
    pub on : r.slot ≡ slot
    pub called : r.name ≡ name
    pub single : r.weight ≡ 1
    pub shown : r.shown ≡ true
    pub right : IfSome v.tag (λ tag. fits tag (key_of r.entry) r.entry.value)
    pub short : length r.entry.value ≤ 8 * room
    pub bytes : Each (λ b. b < 256) r.entry.value
    pub small : r.entry.charge < 2 ^ 32
    pub alive : is_in r.entry.stamp v.work.dead ≡ false
    pub one : Each (λ (q : Record). q.slot ≡ slot → q.entry ≡ r.entry) v.records

  -- One record more: of a visible entry of the key, which the client had not seen dead. All that it
  -- held on that slot is on this entry.
  pub record IsFound (fits : T → Key → List ℕ → Type 0) (room slot name : ℕ) (key : Key)
      (v w : View T) (r : Record) : Type 0 where
    pub searched : Searched v w
    pub records : w.records ≡ v.records ++ r ∷ []
    pub on : r.slot ≡ slot
    pub called : r.name ≡ name
    pub single : r.weight ≡ 1
    pub shown : r.shown ≡ true
    pub asked : key_of r.entry ≡ key
    pub right : IfSome v.tag (λ tag. fits tag key r.entry.value)
    pub short : length r.entry.value ≤ 8 * room
    pub bytes : Each (λ b. b < 256) r.entry.value
    pub small : r.entry.charge < 2 ^ 32
    pub alive : is_in r.entry.stamp v.work.dead ≡ false
    pub one : Each (λ (q : Record). q.slot ≡ slot → q.entry ≡ r.entry) v.records
    pub met : (more : List Key) × (w.met ≡ v.met ++ more) × (1 ≤ times_met key more)
