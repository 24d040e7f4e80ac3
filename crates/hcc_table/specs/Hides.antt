-- What hiding the entries of a key does at each of its probes, step by step.
use Rattle.std.specs.Prelude.{◌≡◌, ◌⊎◌, ℕ, ◌+◌, ◌==◌, ◌&&◌, not, Bool, true, List, [], ◌∷◌, ◌++◌, Option, None, Some, IfSome, IfNone, IsSomeAnd, length, bit_and}
use Rattle.std.specs.Int.{from_bool}
use Rattle.hcc_word.specs.declared.layout.TheConstants.{HIDING_MASK}
use Rattle.hcc_word.specs.Word.{is_shareable, is_visible, refs_of}
use Rattle.hcc_core.specs.declared.slot.Stamp.{Stamp}
use Rattle.hcc_core.specs.Lawful.{is_in}
use Rattle.hcc_core.specs.Sums.{total}
use Rattle.hcc_rule.specs.declared.key.Key.{Key}
use Rattle.hcc_rule.specs.declared.table.RuleTable.{RuleTable}
use Rattle.hcc_rule.specs.Callers.{slots_of, IsEvent}
use Rattle.hcc_rule.specs.Addresses.{address_of_displacement, address_of_meta}
use Rattle.hcc_rule.specs.Events.{count_done, give_done, hide_done}
use Rattle.hcc_rule.specs.Records.{record_in}
use Rattle.hcc_rule.specs.Seats.{SeatOf, Makes, view}
use Rattle.hcc_rule.specs.ToldReferences.{after_hide}
use Rattle.hcc_rule.specs.Views.{Each}
use Rattle.hcc_rule.specs.Words.{key_of}
use Rattle.hcc_table.specs.declared.efforts.Effort.{Effort}
use Rattle.hcc_table.specs.declared.hiding.Erased.{Erased}
use Rattle.hcc_table.specs.Efforts.{VisitedSlots}
use Rattle.hcc_table.specs.Freed.{TakesByWhereDue, TriedWhereDue}
use Rattle.hcc_table.specs.Probed.{AtProbes, Catches, Looks, Passes, Probe}

-- whether this is the word of a hidden entry with one reference
abbrev pub is_alone : (left : ℕ) → Bool
is_alone left = is_shareable left && not (is_visible left) && (refs_of left == 1)

abbrev pub nothing_erased : Erased
nothing_erased = record { hidden = 0; slots = 0; charge = 0 }

-- What was found at one probe of a key, and what was done there: which entry was hidden, if any,
-- and whether the list of what is freed had room then.
pub record HideProbe : Type 0 where
  pub found : Probe
  pub room : Bool
  pub caught : Option Stamp
  pub done : Erased

-- the entry that was hidden there, if any was, stands in this dead list
abbrev pub IsDeadIn : List Stamp → HideProbe → Type 0
IsDeadIn dead p = IfSome p.caught (λ stamp. is_in stamp dead ≡ true)

-- At each of these probes a trail went on: no displacement word was 0.
abbrev pub HidingGoesOn : List HideProbe → Type 0
HidingGoesOn = Each (λ (p : HideProbe). ¬ (p.found.displacement ≡ 0))

module _ {T A : Type 0} (table : RuleTable T A) where
  -- The entry of the reference of a name was hidden by one step, and counts as hidden where that
  -- found it visible. To take the entry was tried where the reference was left alone there and the
  -- list had room: it was freed, or one exchange more lost. Where it wasn't freed the reference was
  -- given back.
  pub record HidesHeld (slot name : ℕ) (room : Bool) (done : Erased) (before after : Effort)
      (old new : SeatOf T) : Type 0 where
    pub found : ℕ
    pub hid : SeatOf T
    pub hides : Makes (address_of_meta table slot) HIDING_MASK 0 found old hid
    pub event : IsEvent table (hide_done name found (view old)) old hid
    pub told : view hid ≡ after_hide name found (view old)
    pub hidden : done.hidden ≡ from_bool (is_visible found)
    pub freed : Option ℕ
    pub tried : SeatOf T
    pub tries : TriedWhereDue (address_of_meta table slot) (bit_and found HIDING_MASK)
        (room && is_alone (bit_and found HIDING_MASK)) freed before after hid tried
    pub takes : TakesByWhereDue table slot (bit_and found HIDING_MASK) (Some name)
        (room && is_alone (bit_and found HIDING_MASK)) freed hid tried
    pub won : IfSome freed (λ charge.
        (new ≡ tried) × (done.slots ≡ 1) × (done.charge ≡ charge))
    pub given : IfNone freed ((left : ℕ)
        × Makes (address_of_meta table slot) 1 0 left tried new
        × (done.slots ≡ 0) × (done.charge ≡ 0)
        × IsEvent table (give_done 1 name left (view tried)) tried new)

module _ {T A : Type 0} (fits : T → Key → List ℕ → Type 0) (table : RuleTable T A) (key : Key)
    (name : ℕ) where
  -- The slot was found visible with an entry of the key, and that was hidden: the caught one.
  pub record Hides (room : Bool) (slot word : ℕ) (caught : Option Stamp) (done : Erased)
      (before after : Effort) (old new : SeatOf T) : Type 0 where
    pub between : Effort
    pub held : SeatOf T
    pub catches : Catches fits table key name (Looks table slot) slot 1 word before between old held
    pub holds : IsSomeAnd (record_in name (view held).records)
        (λ r. (r.slot ≡ slot) × (key_of r.entry ≡ key))
    pub entry : IsSomeAnd (record_in name (view held).records)
        (λ r. caught ≡ Some r.entry.stamp)
    pub hides : HidesHeld table slot name room done between after held new

  -- it was passed, and nothing was done, or its entry was hidden
  abbrev pub PassesOrHides : (room : Bool) → (slot word : ℕ) → (caught : Option Stamp)
      → (done : Erased) → (before after : Effort) → (old new : SeatOf T) → Type 0
  PassesOrHides room slot word caught done before after old new =
      (Passes fits table key name (Looks table slot) slot 1 word before after old new
      × (done ≡ nothing_erased) × (caught ≡ None))
      ⊎ Hides room slot word caught done before after old new

  -- one slot of the key's probes, which was counted first
  pub record HidAt (slot : ℕ) (p : HideProbe) (before after : Effort) (old new : SeatOf T)
      : Type 0 where
    pub between : Effort
    pub visited : VisitedSlots 1 before between
    pub mid : SeatOf T
    pub does : PassesOrHides p.room slot p.found.word p.caught p.done between after old mid
    pub counts : Makes (address_of_displacement table slot) 0 0 p.found.displacement mid new
    pub event : IsEvent table (count_done slot p.found.displacement (view mid)) mid new
    pub kept : view new ≡ view mid

  -- Each slot that was visited and found visible with the key was hidden, and each other one was
  -- passed. There was at least one; at the last no trail went on, or it was that of the last probe.
  -- All that was done is the sum of what was done at each. Each entry that was hidden is dead to
  -- the client, held before or not. The list had room at each, where it has room in the end.
  pub record HidesAll (room : Bool) (all : Erased) (before after : Effort) (old new : SeatOf T) :
      Type 0 where
    pub earlier : List HideProbe
    pub last : HideProbe
    pub probes : AtProbes (slots_of table) key HidAt 0 (earlier ++ last ∷ []) before after old new
    pub goes_on : HidingGoesOn earlier
    pub ends : (last.found.displacement ≡ 0) ⊎ (length earlier + 1 ≡ slots_of table)
    pub hidden : all.hidden ≡ total (λ (p : HideProbe). p.done.hidden) (earlier ++ last ∷ [])
    pub slots : all.slots ≡ total (λ (p : HideProbe). p.done.slots) (earlier ++ last ∷ [])
    pub charge : all.charge ≡ total (λ (p : HideProbe). p.done.charge) (earlier ++ last ∷ [])
    pub dead : Each (IsDeadIn (view new).work.dead) (earlier ++ last ∷ [])
    pub roomy : Each (λ (p : HideProbe). room ≡ true → p.room ≡ true) (earlier ++ last ∷ [])
