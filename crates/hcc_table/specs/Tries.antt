-- What an insertion finds at each probe of its key, step by step.
use Rattle.std.specs.Prelude.{◌≡◌, ℕ, ◌+◌, true, List, Option, IsSomeAnd, length}
use Rattle.hcc_word.specs.declared.layout.TheConstants.{OCCUPIED_BIT}
use Rattle.hcc_word.specs.Word.{is_counting, is_empty, is_visible}
use Rattle.hcc_rule.specs.declared.key.Key.{Key}
use Rattle.hcc_rule.specs.declared.table.RuleTable.{RuleTable}
use Rattle.hcc_rule.specs.Callers.{slots_of, IsEvent}
use Rattle.hcc_rule.specs.Addresses.{address_of_displacement, address_of_meta}
use Rattle.hcc_rule.specs.declared.view.Made.{Made}
use Rattle.hcc_rule.specs.Events.{occupy_done, pass_done}
use Rattle.hcc_rule.specs.Probes.{probe_slot}
use Rattle.hcc_rule.specs.Seats.{SeatOf, Makes, MakesSome, atomic, view}
use Rattle.hcc_rule.specs.ToldTrails.{after_pass}
use Rattle.hcc_rule.specs.Records.{record_in}
use Rattle.hcc_rule.specs.Words.{key_of}
use Rattle.hcc_table.specs.declared.efforts.Effort.{Effort}
use Rattle.hcc_table.specs.declared.inserting.Insertion.{Insertion}
use Rattle.hcc_table.specs.declared.inserting.Insertion.TheVariants.{Placed, Matched, NoSlot}
use Rattle.hcc_table.specs.Efforts.{VisitedSlots}
use Rattle.hcc_table.specs.Freed.{release_done}
use Rattle.hcc_table.specs.Probed.{AtProbes, FindsTaken, LoadsKey, Passes, Reaches}
use Rattle.hcc_table.specs.Seeking.{Builds, GoesOnBy, Seeks, is_unpass}
use Rattle.hcc_table.specs.Steps.{Adds, Begins, MakesAtMost, amount_of}

module _ {T A : Type 0} (table : RuleTable T A) where
  -- An insertion found a slot empty, and took it by the step that set its occupied bit.
  abbrev pub FindsEmpty : (slot : ℕ) → SeatOf T → SeatOf T → Type 0
  FindsEmpty slot old new =
      (word : ℕ) × (is_empty word ≡ true)
      × Begins (atomic (address_of_meta table slot) OCCUPIED_BIT 0 word) old new

module _ {T A : Type 0} (fits : T → Key → List ℕ → Type 0) (table : RuleTable T A) (key : Key)
    (name weight : ℕ) where
  -- References of the weight were acquired on a slot: the add found it visible, with an entry of
  -- the key, and loads of both halves of its key told so. They were released as uses where they
  -- count, else given back.
  pub record UsesEntry (slot word : ℕ) (before after : Effort) (old new : SeatOf T)
      : Type 0 where
    pub mid : SeatOf T
    pub reaches : Reaches fits table name slot weight word before after old mid
    pub visible : is_visible word ≡ true
    pub same : IsSomeAnd (record_in name (view mid).records)
        (λ r. (r.slot ≡ slot) × (key_of r.entry ≡ key))
    pub held : SeatOf T
    pub loads : LoadsKey table key slot mid held
    pub left : ℕ
    pub gives : Makes (address_of_meta table slot) (amount_of (is_counting word) weight) 0 left
        held new
    pub seeks : Seeks table mid held
    pub by : (other : ℕ)
        × IsEvent table (release_done (is_counting word) weight name other (view held)) held new

  -- The same of a slot that an insertion found taken and visible.
  pub record MatchesAt (slot : ℕ) (before after : Effort) (old new : SeatOf T) : Type 0 where
    pub seen : ℕ
    pub mid : SeatOf T
    pub first : FindsTaken table slot seen old mid
    pub shown : is_visible seen ≡ true
    pub word : ℕ
    pub uses : UsesEntry slot word before after mid new

  -- An entry of the key was shown in a slot that was found empty: the slot was taken, and the entry
  -- built there.
  pub record ShowsBy (slot : ℕ) (old new : SeatOf T) : Type 0 where
    pub word : ℕ
    pub empty : is_empty word ≡ true
    pub took : SeatOf T
    pub takes : IsEvent table (occupy_done slot word (view old)) old took
    pub same : (view took).client ≡ (view old).client
    pub made : Made
    pub asked : made.key ≡ key
    pub called : Option ℕ
    pub builds : Builds table weight called made took new

  -- What the try of one slot found and did, by the answer. No slot: it was taken, and passed.
  abbrev pub TriesAt : (slot : ℕ) → Insertion → (before after : Effort) → (old new : SeatOf T)
      → Type 0
  TriesAt slot (Placed there) before after old new =
      (there ≡ slot) × (after ≡ before) × FindsEmpty table slot old new × ShowsBy slot old new
  TriesAt slot Matched before after old new = MatchesAt slot before after old new
  TriesAt slot NoSlot before after old new =
      (word : ℕ) × Passes fits table key name (FindsTaken table slot) slot weight word before after
      old new

  -- A slot was taken, and passed: it was counted first, and then its displacement word grew.
  pub record PassesTaken (slot word : ℕ) (before after : Effort) (old new : SeatOf T)
      : Type 0 where
    pub between : Effort
    pub visited : VisitedSlots 1 before between
    pub mid : SeatOf T
    pub passes : Passes fits table key name (FindsTaken table slot) slot weight word between after
        old mid
    pub step : MakesSome (address_of_displacement table slot) 1 0 mid new
    pub passed : view new ≡ after_pass slot (view mid)
    pub event : IsEvent table (pass_done slot (view mid)) mid new

  -- An insertion passed some slots, or none, each of which was taken and not visible with the key.
  -- At the next probe it ended: there it placed its entry, or met a visible one of the key, or the
  -- slot was passed too, as that of the last probe. Where nothing was placed, displacements were
  -- taken back behind that, by no more steps than slots were passed; else nothing came behind it.
  pub record Inserts (answer : Insertion) (before after : Effort) (old new : SeatOf T)
      : Type 0 where
    pub earlier : List ℕ
    pub between : Effort
    pub mid : SeatOf T
    pub probes : AtProbes (slots_of table) key PassesTaken 0 earlier before between old mid
    pub counted : Effort
    pub visited : VisitedSlots 1 between counted
    pub done : SeatOf T
    pub tries : TriesAt (probe_slot (slots_of table) key (length earlier)) answer counted after
        mid done
    pub all : answer ≡ NoSlot → length earlier + 1 ≡ slots_of table
    pub placed : (there : ℕ) → answer ≡ Placed there → new ≡ done
    pub adds : Adds done new
    pub rest : GoesOnBy table is_unpass done new
    pub few : MakesAtMost (length earlier) done new
