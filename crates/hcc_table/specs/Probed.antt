-- What a search finds at each probe of a key, step by step.
use Rattle.std.specs.Prelude.{◌≡◌, ◌⊎◌, ℕ, ◌+◌, Bool, true, false, List, [], ◌∷◌, ◌++◌, Option, Some, None, IsSomeAnd, length}
use Rattle.hcc_word.specs.declared.layout.TheConstants.{HIT_BIT, OCCUPIED_BIT}
use Rattle.hcc_word.specs.Word.{hit_of, is_counting, is_empty, is_visible}
use Rattle.hcc_rule.specs.declared.key.Key.{Key}
use Rattle.hcc_rule.specs.declared.layout.TheConstants.{KEY0, KEY1}
use Rattle.hcc_rule.specs.declared.table.RuleTable.{RuleTable}
use Rattle.hcc_rule.specs.Callers.{room_of, slots_of, IsEvent}
use Rattle.hcc_rule.specs.Events.{count_done, look_done, mark_done, occupy_done}
use Rattle.hcc_rule.specs.Addresses.{address_of_data, address_of_displacement, address_of_meta}
use Rattle.hcc_rule.specs.Probes.{probe_slot}
use Rattle.hcc_rule.specs.Seats.{SeatOf, Makes, MakesSome, atomic, view}
use Rattle.hcc_rule.specs.Looked.{after_look}
use Rattle.hcc_rule.specs.ToldOwners.{after_occupy}
use Rattle.hcc_rule.specs.Views.{Each}
use Rattle.hcc_rule.specs.Records.{record_in}
use Rattle.hcc_rule.specs.Words.{key_of}
use Rattle.hcc_table.specs.declared.efforts.Effort.{Effort}
use Rattle.hcc_table.specs.declared.pins.Pin.{Pin}
use Rattle.hcc_table.specs.Efforts.{VisitedSlots}
use Rattle.hcc_table.specs.Searched.{Reached, Sought}
use Rattle.hcc_table.specs.Seeking.{ReachesBy, Seeks}
use Rattle.hcc_table.specs.Steps.{Acquires, AddsUnmarked, Among, Corrects, MakesNone, MakesTwo}

-- What was found at one probe: the meta word of its slot, as the add of a reference found it where
-- there was one, else as the first step there did; and its displacement word.
pub record Probe : Type 0 where
  pub word : ℕ
  pub displacement : ℕ

-- At each of these probes a trail went on: no displacement word was 0.
abbrev pub TrailsGoOn : List Probe → Type 0
TrailsGoOn = Each (λ (p : Probe). ¬ (p.displacement ≡ 0))

module _ {T P : Type 0} (slots : ℕ) (key : Key)
    (At : (slot : ℕ) → P → Effort → Effort → SeatOf T → SeatOf T → Type 0) where
  -- This was found at so many probes of the key, one after the other, from this one on.
  abbrev pub AtProbes : (i : ℕ) → List P → (before after : Effort) → (old new : SeatOf T) → Type 0
  AtProbes i [] before after old new = (after ≡ before) × (new ≡ old)
  AtProbes i (p ∷ ps) before after old new =
      (between : Effort) × (mid : SeatOf T)
      × At (probe_slot slots key i) p before between old mid
      × AtProbes (i + 1) ps between after mid new

module _ {T A : Type 0} (table : RuleTable T A) where
  -- The first step of a search at a slot: it loaded this meta word.
  abbrev pub Looks : (slot seen : ℕ) → SeatOf T → SeatOf T → Type 0
  Looks slot seen old new =
      Makes (address_of_meta table slot) 0 0 seen old new
      × (view new ≡ after_look slot seen (view old))
      × IsEvent table (look_done slot seen (view old)) old new

  -- The first step of an insertion at a slot that was taken: it set the occupied bit of this word.
  abbrev pub FindsTaken : (slot seen : ℕ) → SeatOf T → SeatOf T → Type 0
  FindsTaken slot seen old new =
      Makes (address_of_meta table slot) OCCUPIED_BIT 0 seen old new
      × (view new ≡ after_occupy slot seen (view old)) × (is_empty seen ≡ false)
      × IsEvent table (occupy_done slot seen (view old)) old new

  -- a load of this data word of a slot found another than this
  abbrev pub LoadsNot : (slot index half : ℕ) → SeatOf T → SeatOf T → Type 0
  LoadsNot slot index half old new =
      (found : ℕ) × ¬ (found ≡ half)
      × Among (atomic (address_of_data table slot index) 0 0 found) old new

  -- a load of one half of a slot's key found another than that of this key
  abbrev pub LoadsOther : Key → (slot : ℕ) → SeatOf T → SeatOf T → Type 0
  LoadsOther key slot old new =
      LoadsNot slot KEY0 key.w0 old new ⊎ LoadsNot slot KEY1 key.w1 old new

  -- loads of both halves of a slot's key found this key
  abbrev pub LoadsKey : Key → (slot : ℕ) → SeatOf T → SeatOf T → Type 0
  LoadsKey key slot =
      MakesTwo (atomic (address_of_data table slot KEY0) 0 0 key.w0)
      (atomic (address_of_data table slot KEY1) 0 0 key.w1)

module _ {T A : Type 0} (fits : T → Key → List ℕ → Type 0) (table : RuleTable T A) (name : ℕ) where
  -- References of this weight were acquired on a slot, under the name: the add found this word.
  pub record Reaches (slot weight word : ℕ) (before after : Effort) (old new : SeatOf T)
      : Type 0 where
    pub reached : Reached fits (room_of table) slot weight name word (view old) (view new)
    pub acquires : Acquires (address_of_meta table slot) weight word old new
    pub corrects : Corrects (address_of_meta table slot) weight word before after old new
    pub by : ReachesBy table slot weight name word old new

module _ {T A : Type 0} (fits : T → Key → List ℕ → Type 0) (table : RuleTable T A) (key : Key)
    (name : ℕ) where
  -- References were acquired on a slot, and it was passed: the add found a word that isn't visible,
  -- or that of an entry of another key, and a load of a half of its key told so. They were given
  -- back, and nothing was marked.
  pub record PassesEntry (slot weight word : ℕ) (before after : Effort) (old new : SeatOf T)
      : Type 0 where
    pub mid : SeatOf T
    pub reaches : Reaches fits table name slot weight word before after old mid
    pub adds : AddsUnmarked mid new
    pub seeks : Seeks table mid new
    pub kept : Sought (view old) (view new)
    pub other : is_visible word ≡ true → IsSomeAnd (record_in name (view mid).records)
        (λ r. (r.slot ≡ slot) × ¬ (key_of r.entry ≡ key))
    pub loads : is_visible word ≡ true → LoadsOther table key slot mid new

  -- A slot was passed: it was found not visible, by the first step there or by the add that came
  -- next, or with an entry of another key. The add found this word, or else the first step.
  pub record Passes (First : (seen : ℕ) → SeatOf T → SeatOf T → Type 0) (slot weight word : ℕ)
      (before after : Effort) (old new : SeatOf T) : Type 0 where
    pub seen : ℕ
    pub mid : SeatOf T
    pub first : First seen old mid
    pub unshown : is_visible seen ≡ false → (word ≡ seen) × (after ≡ before) × (new ≡ mid)
    pub shown : is_visible seen ≡ true → PassesEntry slot weight word before after mid new

  -- References were acquired on a slot, and kept: the first step there and the add found it
  -- visible, with an entry of the key, and loads of both halves of its key told so.
  pub record Catches (First : (seen : ℕ) → SeatOf T → SeatOf T → Type 0) (slot weight word : ℕ)
      (before after : Effort) (old new : SeatOf T) : Type 0 where
    pub seen : ℕ
    pub looked : SeatOf T
    pub first : First seen old looked
    pub shown : is_visible seen ≡ true
    pub mid : SeatOf T
    pub reaches : Reaches fits table name slot weight word before after looked mid
    pub visible : is_visible word ≡ true
    pub same : IsSomeAnd (record_in name (view mid).records)
        (λ r. (r.slot ≡ slot) × (key_of r.entry ≡ key))
    pub loads : LoadsKey table key slot mid new
    pub seeks : Seeks table mid new
    pub kept : Sought (view mid) (view new)

  -- A search passed this slot, and found this there.
  pub record Probed (slot : ℕ) (p : Probe) (before after : Effort) (old new : SeatOf T)
      : Type 0 where
    pub mid : SeatOf T
    pub passes : Passes (Looks table slot) slot 1 p.word before after old mid
    pub counts : Makes (address_of_displacement table slot) 0 0 p.displacement mid new
    pub event : IsEvent table (count_done slot p.displacement (view mid)) mid new
    pub kept : view new ≡ view mid

  -- the first so many probes, as a search passed them
  abbrev pub Probes : List Probe → (before after : Effort) → (old new : SeatOf T) → Type 0
  Probes = AtProbes (slots_of table) key Probed 0

  -- A search passed at least one slot, and found no visible entry of the key: at the last slot no
  -- trail went on, or it was that of the last probe.
  pub record Misses (before after : Effort) (old new : SeatOf T) : Type 0 where
    pub earlier : List Probe
    pub last : Probe
    pub between : Effort
    pub probes : Probes (earlier ++ last ∷ []) before between old new
    pub goes_on : TrailsGoOn earlier
    pub ends : (last.displacement ≡ 0) ⊎ (length earlier + 1 ≡ slots_of table)
    pub visited : VisitedSlots (length earlier + 1) between after

  -- A search passed some slots, or none, and kept a reference at the next probe, where the add
  -- found this word. It marked the entry where that was asked for and the word had no mark.
  pub record Finds (marks : Bool) (slot word : ℕ) (before after : Effort) (old new : SeatOf T)
      : Type 0 where
    pub earlier : List Probe
    pub between : Effort
    pub mid : SeatOf T
    pub probes : Probes earlier before between old mid
    pub goes_on : TrailsGoOn earlier
    pub probe : slot ≡ probe_slot (slots_of table) key (length earlier)
    pub later : Effort
    pub held : SeatOf T
    pub catches : Catches (Looks table slot) slot 1 word between later mid held
    pub visited : VisitedSlots (length earlier + 1) later after
    pub marked : marks ≡ true → hit_of word ≡ false
        → MakesSome (address_of_meta table slot) HIT_BIT 0 held new
    pub hit : hit_of word ≡ true → MakesNone held new
    pub unasked : marks ≡ false → MakesNone held new
    pub by : (new ≡ held) ⊎ IsEvent table (mark_done name (view held)) held new
    pub kept : Sought (view held) (view new)

  -- What a search found at each probe of the key, by its answer.
  abbrev pub Searches : (marks : Bool) → Option Pin → (before after : Effort)
      → (old new : SeatOf T) → Type 0
  Searches marks None before after old new = Misses before after old new
  Searches marks (Some pin) before after old new =
      (word : ℕ) × Finds marks pin.slot word before after old new
      × (pin.counting ≡ is_counting word)
