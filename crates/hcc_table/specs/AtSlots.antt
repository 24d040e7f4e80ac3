-- What a walk finds and does at a slot, step by step.
use Rattle.std.specs.Prelude.{◌≡◌, ℕ, ◌+◌, ◌^◌, ◌<◌, ◌&&◌, Bool, true, false, List, [], Option, None, Some, IsSomeAnd, is_some}
use Rattle.hcc_word.specs.Word.{is_counting, is_shareable, is_visible}
use Rattle.hcc_core.specs.declared.slot.Entry.{Entry}
use Rattle.hcc_core.specs.Runs.{held_at}
use Rattle.hcc_core.specs.World.{State}
use Rattle.hcc_rule.specs.declared.key.Key.{Key}
use Rattle.hcc_rule.specs.declared.table.RuleTable.{RuleTable}
use Rattle.hcc_rule.specs.declared.view.Record.{Record}
use Rattle.hcc_rule.specs.declared.view.View.{View}
use Rattle.hcc_rule.specs.Acts.{Leads}
use Rattle.hcc_rule.specs.Addresses.{address_of_meta}
use Rattle.hcc_rule.specs.Callers.{HasOn, IsEvent, plan_of, world_at}
use Rattle.hcc_rule.specs.Events.{give_done}
use Rattle.hcc_rule.specs.Looked.{Backs, HoldsAll, is_hidden}
use Rattle.hcc_rule.specs.Records.{record_in, weight_on}
use Rattle.hcc_rule.specs.Rule.{setup_of}
use Rattle.hcc_rule.specs.Seats.{SeatOf, Makes, view}
use Rattle.hcc_table.specs.declared.efforts.Effort.{Effort}
use Rattle.hcc_table.specs.declared.keeping.AtSlot.{AtSlot}
use Rattle.hcc_table.specs.declared.keeping.AtSlot.TheVariants.{Nothing, Held, Freed}
use Rattle.hcc_table.specs.declared.pins.Pin.{Pin}
use Rattle.hcc_table.specs.Erased.{Erases}
use Rattle.hcc_table.specs.Freed.{TakesByWhereDue, TriedWhereDue, free_event, is_due}
use Rattle.hcc_table.specs.Lists.{Shelf, has_room}
use Rattle.hcc_table.specs.Pins.{IsOf}
use Rattle.hcc_table.specs.Probed.{Looks, Reaches}
use Rattle.hcc_table.specs.Searched.{IsFoundOn, Sought}
use Rattle.hcc_table.specs.Seeking.{Empties}
use Rattle.hcc_table.specs.Standing.{IsMomentOf, ShowsOnce, shown_at}
use Rattle.hcc_table.specs.Steps.{freeing}

-- the pin of what is held, if any is
abbrev pub held_there : AtSlot → Option Pin
held_there Nothing = None
held_there (Held pin) = Some pin
held_there (Freed charge) = None

-- the charge of what was freed, if any was
abbrev pub freed_there : AtSlot → Option ℕ
freed_there Nothing = None
freed_there (Held pin) = None
freed_there (Freed charge) = Some charge

-- whether what is freed is put on a list, and that has room for one more
abbrev pub takes_one : Option Shelf → Bool
takes_one shelf = is_some shelf && has_room 1 shelf

-- the most steps, by the answer, where so many loads put an entry on the list
abbrev pub keeping : (slots loads : ℕ) → AtSlot → ℕ
keeping slots loads Nothing = 4
keeping slots loads (Held pin) = 3
keeping slots loads (Freed charge) = freeing slots + loads + 1

-- What the client has afterwards, by the answer: what it held; one record more, which is that of
-- the pin; or what it held, and an entry that it freed, of a slot where it held nothing.
abbrev pub IsKeptBy : {T : Type 0} → (fits : T → Key → List ℕ → Type 0) → (room slot name : ℕ)
    → AtSlot → View T → View T → Type 0
IsKeptBy fits room slot name Nothing v w = Sought v w
IsKeptBy fits room slot name (Held pin) v w =
    (pin.slot ≡ slot) × (pin.name ≡ name)
    × (r : Record) × IsFoundOn fits room slot name v w r × IsOf pin r
IsKeptBy fits room slot name (Freed charge) v w =
    (charge < 2 ^ 32) × Erases [] 1 charge v w × (w.records ≡ v.records)
    × (weight_on slot v.records ≡ 0)

module _ {T A : Type 0} (table : RuleTable T A) where
  -- To take the entry of a hidden word was tried where nobody held it and the list took one: it was
  -- freed, or one exchange more lost. Else nothing was done.
  pub record Frees (slot word : ℕ) (room : Bool) (freed : Option ℕ) (before after : Effort)
      (old new : SeatOf T) : Type 0 where
    pub tries : TriedWhereDue (address_of_meta table slot) word (room && is_due false word) freed
        before after old new
    pub takes : TakesByWhereDue table slot word None (room && is_due false word) freed old new

module _ {T A : Type 0} (fits : T → Key → List ℕ → Type 0) (table : RuleTable T A) (name : ℕ) where
  -- A reference was acquired on a slot. Where the add found a visible entry it was kept: the pin is
  -- that of it. Where it found a hidden one, the reference was given back, by one subtraction: it
  -- was no use. Where it found no entry, nothing more was done.
  pub record HoldsShown (slot : ℕ) (held : Option Pin) (before after : Effort)
      (old new : SeatOf T) : Type 0 where
    pub word : ℕ
    pub mid : SeatOf T
    pub reaches : Reaches fits table name slot 1 word before after old mid
    pub shown : is_visible word ≡ true
        → (held ≡ Some (record { name = name; slot = slot; counting = is_counting word }))
        × (new ≡ mid) × HasOn slot name (view mid)
    pub unshown : is_visible word ≡ false → held ≡ None
    pub hidden : is_hidden word ≡ true
        → (left : ℕ) × Makes (address_of_meta table slot) 1 0 left mid new
        × IsEvent table (give_done 1 name left (view mid)) mid new
    pub stray : is_shareable word ≡ false → new ≡ mid

  -- A slot was looked at, and what the client holds there shows in the word. Where that was found
  -- visible, a reference was acquired, and kept or not. Else none was, and to take the entry was
  -- tried where it was due.
  pub record PinsAt (slot : ℕ) (room : Bool) (done : AtSlot) (before after : Effort)
      (old new : SeatOf T) : Type 0 where
    pub seen : ℕ
    pub looked : SeatOf T
    pub looks : Looks table slot seen old looked
    pub backs : Backs slot seen (view old)
    pub all : HoldsAll (setup_of (plan_of table)) slot seen (view old)
    pub shown : is_visible seen ≡ true
        → HoldsShown slot (held_there done) before after looked new × (freed_there done ≡ None)
    pub unshown : is_visible seen ≡ false
        → (held_there done ≡ None)
        × Frees table slot seen room (freed_there done) before after looked new

-- What follows of that.

-- What is held there is what a slot shows, and else it shows nothing.
abbrev pub IsShownBy : {T : Type 0} → Option Entry → (name : ℕ) → AtSlot → View T → Type 0
IsShownBy shown name Nothing w = shown ≡ None
IsShownBy shown name (Held pin) w =
    IsSomeAnd (record_in name w.records) (λ r. shown ≡ Some r.entry)
IsShownBy shown name (Freed charge) w = shown ≡ None

module _ {T A : Type 0} (table : RuleTable T A) where
  -- at some moment of the call the shard shows nothing in this slot
  abbrev pub ShowsNoneOnce : (slot : ℕ) → (old new : SeatOf T) → Type 0
  ShowsNoneOnce slot old new =
      (moment : SeatOf T) × IsMomentOf table moment old new
      × (shown_at (world_at table moment) slot ≡ None)

  -- The entry of a slot was taken, and the slot freed. Right before that no client held a reference
  -- there.
  pub record TakesUnheld (slot charge : ℕ) (old new : SeatOf T) : Type 0 where
    pub took : SeatOf T
    pub event : IsEvent table (free_event slot None charge (view old)) old took
    pub world : State
    pub leads : Leads world (free_event slot None charge (view old)) (world_at table took)
    pub unheld : (client name : ℕ) → held_at world client name slot ≡ None
    pub rest : Empties table (view old).client took new

  -- A walk that held nothing at a slot: the slot showed nothing once. One that held an entry: that
  -- very entry was shown there once. One that freed an entry: the slot showed nothing once, and
  -- then an entry was taken there that nobody held.
  abbrev pub PinsLasting : (slot name : ℕ) → AtSlot → (old new : SeatOf T) → Type 0
  PinsLasting slot name Nothing old new = ShowsNoneOnce slot old new
  PinsLasting slot name (Held pin) old new =
      IsSomeAnd (record_in name (view new).records) (λ r. ShowsOnce table slot r.entry old new)
  PinsLasting slot name (Freed charge) old new =
      (looked : SeatOf T) × ShowsNoneOnce slot old looked × TakesUnheld slot charge looked new
