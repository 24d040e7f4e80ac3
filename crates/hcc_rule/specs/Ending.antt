-- What the words of a closed shard are, by the world that its last seat knows.
use Rattle.std.specs.Prelude.{◌≡◌, ℕ, ◌<◌, true, false, List, Some, length, slice_get, slice_index}
use Rattle.hcc_word.specs.Word.{hit_of, is_visible, refs_of, releases_of}
use Rattle.hcc_core.specs.declared.slot.Resident.{Resident}
use Rattle.hcc_core.specs.declared.slot.Slot.{Slot}
use Rattle.hcc_core.specs.declared.slot.Slot.TheVariants as slots
use Rattle.hcc_core.specs.Sums.{total}
use Rattle.hcc_core.specs.World.{State, charge_of, taken_by_slot, times, trail_of, weight}
use Rattle.hcc_rule.specs.declared.geometry.Geometry.{Geometry}
use Rattle.hcc_rule.specs.declared.key.Key.{Key}
use Rattle.hcc_rule.specs.declared.layout.TheConstants.{DISPLACEMENT, USAGE, OCCUPANCY, STANDING, HAND}
use Rattle.hcc_rule.specs.declared.view.View.{View}
use Rattle.hcc_rule.specs.Closing.{has_entry, meta_at, IsKept}
use Rattle.hcc_rule.specs.Rule.{Coded}
use Rattle.hcc_rule.specs.Words.{entry_of, field_at, ledger_at}

module _ {T : Type 0} (fits : T → Key → List ℕ → Type 0) (tag : T) (room : ℕ) (words : List ℕ)
    (v : View T) where
  -- In the slot stands this entry: its meta word has the counts and marks of the entry, and its
  -- data words are those of the entry, which a client that the view names made.
  pub record TellsEntry (s : ℕ) (e : Resident) : Type 0 where
    pub has : has_entry room words s ≡ true
    pub shown : is_visible (meta_at room words s) ≡ e.shown
    pub uses : releases_of (meta_at room words s) ≡ e.uses
    pub references : refs_of (meta_at room words s) ≡ weight e.references
    pub hit : hit_of (meta_at room words s) ≡ e.hit
    pub kept : IsKept fits tag room words v s e.entry.stamp
    pub same : e.entry ≡ entry_of e.entry.stamp kept.made

  -- the slot's meta word is its strays
  pub record TellsStrays (s strays : ℕ) : Type 0 where
    pub none : has_entry room words s ≡ false
    pub word : meta_at room words s ≡ strays

  -- the slot's words tell what the world has there; nobody builds or frees in it
  abbrev pub TellsSlot : (s : ℕ) → Slot → Type 0
  TellsSlot s (slots.Empty strays) = TellsStrays s strays
  TellsSlot s (slots.Building client strays) = ⊥
  TellsSlot s (slots.Shareable e) = TellsEntry s e

-- The words are those of this world, in which nothing stands for a client: the words of each slot
-- tell what the world has there, the ledger words and the displacement words are sums over the
-- world's slots, and the hand is the world's.
pub record ShowsWorld {T : Type 0} (fits : T → Key → List ℕ → Type 0) (tag : T)
    (geometry : Geometry) (words : List ℕ) (v : View T) (world : State) : Type 0 where
  pub size : length world.slots ≡ geometry.slots
  pub coded : Coded geometry.room world.slots words
  pub told : (s : ℕ) (slot : Slot) → slice_get world.slots s ≡ Some slot
      → TellsSlot fits tag geometry.room words v s slot
  pub passed : (s : ℕ) → s < geometry.slots
      → slice_index words (field_at geometry.room s DISPLACEMENT)
      ≡ total (λ slot. times s (trail_of slot)) world.slots
  pub usage : slice_index words (ledger_at geometry.slots geometry.room USAGE)
      ≡ total charge_of world.slots
  pub occupancy : slice_index words (ledger_at geometry.slots geometry.room OCCUPANCY)
      ≡ total taken_by_slot world.slots
  pub standing : slice_index words (ledger_at geometry.slots geometry.room STANDING) ≡ 0
  pub hand : slice_index words (ledger_at geometry.slots geometry.room HAND) ≡ world.hand
