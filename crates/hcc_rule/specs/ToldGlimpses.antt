-- What the loads of a client that reads without a reference tell its seat.
use Rattle.std.specs.Prelude.{◌≡◌, ◌≢◌, ◌⊎◌, ℕ, ◌*◌, ◌<◌, ◌≤◌, ◌^◌, true, false, List, Option, Some, None, IfSome, length}
use Rattle.atomic_table.specs.Table.{Step}
use Rattle.hcc_word.specs.Word.{is_visible}
use Rattle.hcc_core.specs.declared.slot.Entry.{Entry}
use Rattle.hcc_core.specs.declared.slot.Stamp.{Stamp}
use Rattle.hcc_core.specs.Lawful.{is_in}
use Rattle.hcc_rule.specs.declared.key.Key.{Key}
use Rattle.hcc_rule.specs.declared.view.Done.{Done}
use Rattle.hcc_rule.specs.declared.view.Glimpse.{Glimpse}
use Rattle.hcc_rule.specs.declared.view.Record.{Record}
use Rattle.hcc_rule.specs.declared.view.Stood.{Stood}
use Rattle.hcc_rule.specs.declared.view.Stood.TheVariants as stood
use Rattle.hcc_rule.specs.declared.view.View.{View}
use Rattle.hcc_rule.specs.Events.{peek_done}
use Rattle.hcc_rule.specs.Told.{Held}
use Rattle.hcc_rule.specs.ToldOwners.{IsDataWord}
use Rattle.hcc_rule.specs.Views.{Each}
use Rattle.hcc_rule.specs.Words.{key_of}

-- An entry as each insertion makes it: its value is right for its key, is of bytes and fits its
-- slot.
pub record IsRightEntry {T : Type 0} (fits : T → Key → List ℕ → Type 0) (tag : T) (room : ℕ)
    (entry : Entry) : Type 0 where
  pub right : fits tag (key_of entry) entry.value
  pub short : length entry.value ≤ 8 * room
  pub bytes : Each (λ b. b < 256) entry.value
  pub small : entry.charge < 2 ^ 32

-- what stood in a slot at each look, once this entry was found shown there: it, if nothing else did
-- and the stamp word is its own
abbrev pub GoesOn : (stamp : Stamp) → (before after : Stood) → Type 0
GoesOn stamp stood.Unseen after = (after ≡ stood.Entry stamp) ⊎ (after ≡ stood.Another)
GoesOn stamp (stood.Entry first) after =
    ((after ≡ stood.Entry stamp) × (stamp ≡ first)) ⊎ (after ≡ stood.Another)
GoesOn stamp stood.Another after = after ≡ stood.Another

module _ {T : Type 0} where
  -- A load of a slot's data word. Where the client holds references there, it is their entry's.
  abbrev pub peeks : (slot index : ℕ) → Step (Unit {0}) → Held T → ℕ → Held T → Option Done → Type 0
  peeks slot index step me word after act =
      (after.1 ≡ me.1) × (after.0 ≡ me.0)
      × Each (λ (r : Record). r.slot ≡ slot → IsDataWord r.entry index word) me.0.records
      × ((stamp : Option Stamp) × (act ≡ Some (peek_done slot stamp me.0)))

  -- the first load of its stamp word
  abbrev pub after_glimpse : (slot word : ℕ) → View T → View T
  after_glimpse slot word v = record v {
    glimpse = Some (record { slot = slot; word = word; stood = stood.Unseen });
  }

  abbrev pub glimpses : (slot : ℕ) → Step (Unit {0}) → Held T → ℕ → Held T → Option Done → Type 0
  glimpses slot step me word after act =
      (after.1 ≡ me.1) × (after.0 ≡ after_glimpse slot word me.0)
      × ((stamp : Option Stamp) × (act ≡ Some (peek_done slot stamp me.0)))

  -- what a look of that client tells: none is shown, or this entry is, which the client didn't see
  -- dead, and what stood there then
  abbrev pub Glanced : (word : ℕ) → Option Stamp → Glimpse → (v new : View T) → Type 0
  Glanced word None g v new = (is_visible word ≡ false) × (new ≡ v)
  Glanced word (Some stamp) g v new =
      (is_visible word ≡ true) × (is_in stamp v.work.dead ≡ false)
      × ((now : Stood) × GoesOn stamp g.stood now
      × (new ≡ record v { glimpse = Some (record g { stood = now }) }))

  -- a load of its meta word
  abbrev pub glances : (slot : ℕ) → Step (Unit {0}) → Held T → ℕ → Held T → Option Done → Type 0
  glances slot step me word after act =
      (after.1 ≡ me.1)
      × ((stamp : Option Stamp) × IfSome me.0.glimpse (λ g. Glanced word stamp g me.0 after.0)
      × (act ≡ Some (peek_done slot stamp me.0)))

  -- the last load of its stamp word: it isn't the first one's, if another entry stood there since
  abbrev pub rechecks : (slot : ℕ) → Step (Unit {0}) → Held T → ℕ → Held T → Option Done → Type 0
  rechecks slot step me word after act =
      (after.1 ≡ me.1) × (after.0 ≡ me.0)
      × IfSome me.0.glimpse (λ g. g.stood ≡ stood.Another → word ≢ g.word)
      × ((stamp : Option Stamp) × (act ≡ Some (peek_done slot stamp me.0)))
