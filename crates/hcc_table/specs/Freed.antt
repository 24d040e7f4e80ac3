-- What a client has once it freed an entry.
use Rattle.std.specs.Prelude.{◌≡◌, ℕ, ◌+◌, ◌-◌, ◌*◌, ◌%◌, ◌^◌, ◌<◌, ◌≤◌, ◌==◌, ◌&&◌, ◌||◌, not, Bool, true, false, List, [], ◌∷◌, ◌++◌, Option, IfSome, IfNone, length, slice_index, if◌then◌else◌}
use Rattle.hcc_word.specs.declared.layout.TheConstants.{ONE_RELEASE}
use Rattle.hcc_word.specs.Word.{is_shareable, is_visible, refs_of}
use Rattle.hcc_core.specs.declared.client.Owned.TheVariants as owned
use Rattle.hcc_core.specs.declared.event.Event.TheVariants as events
use Rattle.hcc_core.specs.declared.event.Reply.TheVariants as replies
use Rattle.hcc_core.specs.declared.slot.Stamp.{Stamp}
use Rattle.hcc_core.specs.Sums.{when}
use Rattle.hcc_rule.specs.declared.key.Key.{Key}
use Rattle.hcc_rule.specs.declared.layout.TheConstants.{KEY0, KEY1, PAYLOAD}
use Rattle.hcc_rule.specs.declared.table.RuleTable.{RuleTable}
use Rattle.hcc_rule.specs.declared.view.Done.{Done}
use Rattle.hcc_rule.specs.declared.view.Made.{Made}
use Rattle.hcc_rule.specs.declared.view.View.{View}
use Rattle.hcc_rule.specs.Acts.{did}
use Rattle.hcc_rule.specs.Addresses.{address_of_meta}
use Rattle.hcc_rule.specs.Callers.{HasOn, IsEvent}
use Rattle.hcc_rule.specs.Events.{give_done, look_done, spend_done}
use Rattle.hcc_rule.specs.Probes.{trail_to}
use Rattle.hcc_rule.specs.Seats.{SeatOf, Makes, view}
use Rattle.hcc_rule.specs.ToldOwners.{IsTaken, after_free, is_warm}
use Rattle.hcc_rule.specs.ToldReferences.{after_give}
use Rattle.hcc_table.specs.declared.efforts.Effort.{Effort}
use Rattle.hcc_table.specs.declared.lists.Freed.{Freed}
use Rattle.hcc_table.specs.declared.pins.Pin.{Pin}
use Rattle.hcc_table.specs.Efforts.{Lost}
use Rattle.hcc_table.specs.Searched.{Grows}
use Rattle.hcc_table.specs.Seeking.{Empties}
use Rattle.hcc_table.specs.Steps.{MakesNone, TriesToTake, amount_of}

-- what a release of so many references, as uses or not, leaves of a word
abbrev pub left_of : Bool → (weight found : ℕ) → ℕ
left_of used weight found =
    (if used then found + weight * ONE_RELEASE else found + (2 ^ 64 - weight)) % 2 ^ 64

-- whether this is the word of an entry that nobody holds, and that is hidden or is to be erased
abbrev pub is_due : (erase : Bool) → (left : ℕ) → Bool
is_due erase left = is_shareable left && (refs_of left == 0) && (erase || not (is_visible left))

module _ {T : Type 0} where
  -- the key of the entry whose words stand in the slot that the client owns
  abbrev pub owned_key : View T → Key
  owned_key v = record { w0 = slice_index v.written KEY0; w1 = slice_index v.written KEY1 }

  -- the entry there, as a list has it
  abbrev pub owned_freed : View T → Freed
  owned_freed v = record { key = owned_key v; word = slice_index v.written PAYLOAD }

  -- its value has a word
  abbrev pub HasWord : (room : ℕ) → View T → Type 0
  HasWord room v = (PAYLOAD < length v.written) × (0 < room)

  -- The client took the slot's entry: its words are known, and its trail is the client's.
  pub record HasTaken (slots slot : ℕ) (v : View T) : Type 0 where
    pub owns : v.work.owned ≡ owned.ForFreeing slot
    pub words : PAYLOAD ≤ length v.written
    pub trail : v.work.trail ≡ trail_to slots (owned_key v) slot

  -- the view once the trail was taken back and the slot was emptied
  abbrev pub emptied : View T → View T
  emptied v = record v {
    work = record v.work { owned = owned.Nothing; trail = [] };
    written = [];
  }

  -- The client freed an entry whose slot had this word: its charge and its place are the client's
  -- to settle. Where the client had the last reference, it was on that entry.
  pub record IsFreed (fits : T → Key → List ℕ → Type 0) (room word : ℕ) (last : Option ℕ)
      (charge : ℕ) (v w : View T) : Type 0 where
    pub stamp : Stamp
    pub made : Made
    pub taken : IsTaken fits room last v stamp made
    pub charged : charge ≡ made.charge
    pub dead : Grows v.work.dead w.work.dead
    pub same : w ≡ record v {
      work = record v.work {
        looked = w.work.looked;
        owned = owned.Nothing;
        trail = [];
        freed = v.work.freed + charge;
        freed_slots = v.work.freed_slots + 1;
        dead = w.work.dead;
      };
      written = [];
      records = w.records;
      takings = v.takings + 1;
      warm = v.warm + when (is_warm word) 1;
      gone = v.gone ++ record { stamp = stamp; made = made } ∷ [];
    }

  -- The same, of the entry that was in this slot: the exchange that found its word took it, and
  -- then its trail was taken back and its slot emptied.
  pub record TakenAt (fits : T → Key → List ℕ → Type 0) (slots room slot word : ℕ) (last : Option ℕ)
      (charge : ℕ) (v w : View T) : Type 0 where
    pub stamp : Stamp
    pub made : Made
    pub taken : IsTaken fits room last v stamp made
    pub charged : charge ≡ made.charge
    pub is : w ≡ emptied (after_free slots slot word last stamp made v)

  -- References of this name and weight were given back by one step, as uses or not, and this word
  -- is left of the one that it found.
  pub record IsLeft (address slot weight name : ℕ) (used : Bool) (left : ℕ) (old new : SeatOf T)
      : Type 0 where
    pub found : ℕ
    pub step : Makes address (amount_of used weight) 0 found old new
    pub entry : is_shareable found ≡ true
    pub enough : weight ≤ refs_of found
    pub is : left ≡ left_of used weight found
    pub view : view new ≡ after_give slot name found (view old)

  -- what the step is that takes the entry of a slot, of this charge
  abbrev pub free_event : (slot : ℕ) → Option ℕ → (charge : ℕ) → View T → Done
  free_event slot name charge v = did (events.Free v.client slot name) (replies.Freed charge)

  -- what a release of references is that finds this word
  abbrev pub release_done : (used : Bool) → (weight name word : ℕ) → View T → Done
  release_done used weight name word v =
      if used then spend_done weight name word v else give_done weight name word v

  -- The same release, by its event: the word that was found has as many references, and the client
  -- has those of this name on this slot.
  abbrev pub IsLeftBy : {A : Type 0} → RuleTable T A → (slot weight name : ℕ) → (used : Bool)
      → (left : ℕ) → (old new : SeatOf T) → Type 0
  IsLeftBy table slot weight name used left old new =
      (found : ℕ) × (left ≡ left_of used weight found)
      × IsEvent table (release_done used weight name found (view old)) old new
      × (weight ≤ refs_of found) × HasOn slot name (view old)

  -- The reference of a pin was given back by one step, as a use where it is useful and counts.
  abbrev pub GivesOnce : {A : Type 0} → RuleTable T A → Pin → (useful : Bool)
      → (old new : SeatOf T) → Type 0
  GivesOnce table pin useful old new =
      (left : ℕ) × IsLeft (address_of_meta table pin.slot) pin.slot 1 pin.name
      (useful && pin.counting) left old new
      × IsLeftBy table pin.slot 1 pin.name (useful && pin.counting) left old new

  -- To take the entry of the word that was left was tried where it was due: it was freed, or one
  -- exchange more lost. Where it wasn't due no step was made.
  pub record TriedWhereDue (address left : ℕ) (due : Bool) (freed : Option ℕ)
      (before after : Effort) (old new : SeatOf T) : Type 0 where
    pub won : IfSome freed (λ _. (due ≡ true) × (after ≡ before))
    pub lost : IfNone freed (due ≡ true → Lost 1 1 before after)
    pub same : due ≡ false → after ≡ before
    pub tried : due ≡ true → TriesToTake address left freed old new
    pub passed : due ≡ false → MakesNone old new

  -- The same try, by its event: where it lost, a look that found another word; where it won, that
  -- the entry was taken, and its charge, behind which came what frees the slot.
  pub record TakesBy {A : Type 0} (table : RuleTable T A) (slot word : ℕ) (name : Option ℕ)
      (freed : Option ℕ) (old new : SeatOf T) : Type 0 where
    pub lost : IfNone freed ((found : ℕ) × ¬ (found ≡ word)
        × IsEvent table (look_done slot found (view old)) old new)
    pub won : IfSome freed (λ charge. (mid : SeatOf T)
        × IsEvent table (free_event slot name charge (view old)) old mid
        × Empties table (view old).client mid new)

  -- the same, where it was due
  abbrev pub TakesByWhereDue : {A : Type 0} → RuleTable T A → (slot word : ℕ) → Option ℕ
      → (due : Bool) → (freed : Option ℕ) → (old new : SeatOf T) → Type 0
  TakesByWhereDue table slot word name due freed old new =
      (due ≡ true → TakesBy table slot word name freed old new)
      × (due ≡ false → new ≡ old)
