-- What a look at a slot tells its seat: the view after it, by the word that it found.
use Rattle.std.specs.Prelude.{◌≡◌, ℕ, true, ◌<◌, ◌≤◌, Bool, ◌&&◌, not, Option, Some, None, if◌then◌else◌}
use Rattle.atomic_table.specs.Table.{Step}
use Rattle.hcc_word.specs.Word.{is_shareable, is_visible, refs_of}
use Rattle.hcc_core.specs.declared.setup.Setup.{Setup}
use Rattle.hcc_core.specs.declared.slot.Stamp.{Stamp}
use Rattle.hcc_core.specs.References.{joined}
use Rattle.hcc_rule.specs.declared.view.Done.{Done}
use Rattle.hcc_rule.specs.declared.view.View.{View}
use Rattle.hcc_rule.specs.Views.{Each}
use Rattle.hcc_rule.specs.Records.{stamp_on, weight_on}
use Rattle.hcc_rule.specs.declared.view.Record.{Record}
use Rattle.hcc_rule.specs.Told.{Held}
use Rattle.hcc_rule.specs.Events.{look_done}

-- the word of an entry that was hidden
abbrev pub is_hidden : ℕ → Bool
is_hidden word = is_shareable word && not (is_visible word)

module _ {T : Type 0} where
  -- the stamp of the entry that a step found hidden while the client holds a reference on it
  abbrev pub found_dead : (slot word : ℕ) → View T → Option Stamp
  found_dead slot word v = if is_hidden word then stamp_on slot v.records else None

  -- the view once its client noticed that
  abbrev pub noticing : (slot word : ℕ) → View T → View T
  noticing slot word v =
      record v { work = record v.work { dead = joined v.work.dead (found_dead slot word v) } }

  -- Load of the meta word: the client looks at a slot that has an entry.
  abbrev pub after_look : (slot word : ℕ) → View T → View T
  after_look slot word v = record v {
    work = record v.work {
      looked = (if is_shareable word then Some slot else None);
      dead = joined v.work.dead (found_dead slot word v);
    };
  }

  -- What a client holds on a slot shows in its word: it is an entry's, with that many references.
  -- All that it holds there is of one entry.
  pub record Backs (slot word : ℕ) (v : View T) : Type 0 where
    pub entry : Each (λ (r : Record). r.slot ≡ slot → is_shareable word ≡ true) v.records
    pub enough : 0 < weight_on slot v.records → weight_on slot v.records ≤ refs_of word
    pub one : Each (λ (r : Record). r.slot ≡ slot → stamp_on slot v.records ≡ Some r.entry.stamp)
        v.records

  -- Where the shard has one client, it holds all references there are.
  abbrev pub HoldsAll : Setup → (slot word : ℕ) → View T → Type 0
  HoldsAll setup slot word v =
      setup.clients ≡ 1 → is_shareable word ≡ true → refs_of word ≡ weight_on slot v.records

  abbrev pub looks : Setup → ℕ → Step (Unit {0}) → Held T → ℕ → Held T → Option Done → Type 0
  looks setup slot step me word after act =
      (after.1 ≡ me.1) × (after.0 ≡ after_look slot word me.0) × Backs slot word me.0
      × HoldsAll setup slot word me.0
      × (act ≡ Some (look_done slot word me.0))
