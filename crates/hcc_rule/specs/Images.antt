-- The entries with which a shard begins: what its slots are then, and its words.
use Rattle.std.specs.Prelude.{◌≡◌, ℕ, ◌+◌, ◌<◌, true, false, List, [], ◌∷◌, Option, Some, None, length, replicate, slice_get, slice_index, slice_set}
use Rattle.std.specs.declared.alloc.Global.{Global}
use Rattle.std.specs.declared.snapshot.Snapshot.{Snapshot}
use Rattle.std.specs.declared.vec.Vec.{Vec}
use Rattle.hcc_core.specs.declared.slot.Slot.{Slot}
use Rattle.hcc_core.specs.declared.slot.Slot.TheVariants as slots
use Rattle.hcc_core.specs.Opening.{new_slot}
use Rattle.hcc_core.specs.Sums.{total}
use Rattle.hcc_core.specs.World.{times}
use Rattle.hcc_rule.specs.declared.image.ImageEntry.{ImageEntry}
use Rattle.hcc_rule.specs.declared.layout.TheConstants.{DISPLACEMENT, DATA, USAGE, OCCUPANCY, STANDING, HAND}
use Rattle.hcc_rule.specs.declared.view.Made.{Made}
use Rattle.hcc_rule.specs.declared.view.Other.{Other}
use Rattle.hcc_rule.specs.Probes.{trail_to}
use Rattle.hcc_rule.specs.Rule.{Coded}
use Rattle.hcc_rule.specs.Words.{field_at, ledger_at, Lies, entry_of, made_words}
use Rattle.hcc_rule.specs.ImageLimits.{charges_of}

-- the entries of an image, if there is one
abbrev pub entries_in : Option (Snapshot (Vec ImageEntry Global)) → List ImageEntry
entries_in None = []
entries_in (Some image) = image.value.items

-- What client 0 made.

-- the entry, made under this serial
abbrev pub made_of_entry : (serial : ℕ) → ImageEntry → Made
made_of_entry serial e =
    record { serial = serial; key = e.key; value = e.value.items; charge = e.charge }

-- all of them, from this serial on
abbrev pub made_from : (serial : ℕ) → List ImageEntry → List Made
made_from serial [] = []
made_from serial (e ∷ es) = made_of_entry serial e ∷ made_from (serial + 1) es

-- the client that made them, and did nothing else
abbrev pub maker_of : List ImageEntry → Other
maker_of es = record { client = 0; made = made_from 0 es; dead = [] }

-- What callers keep.

-- The slots.

-- an entry in its slot: shown, with its trail and its uses, with no references and no hit bit
abbrev pub resident_of : (size number : ℕ) → ImageEntry → Slot
resident_of size number e = slots.Shareable record {
  shown = true;
  entry = entry_of (record { client = 0; number = number }) (made_of_entry number e);
  trail = trail_to size e.key e.slot;
  references = [];
  uses = e.uses;
  hit = false;
}

-- these slots with the entries in theirs, numbered from this one on
abbrev pub filled : (size number : ℕ) → List ImageEntry → List Slot → List Slot
filled size number [] all = all
filled size number (e ∷ es) all =
    filled size (number + 1) es (slice_set all e.slot (resident_of size number e))

-- all slots of a table of this size; those of no entry are empty
abbrev pub slots_with : (size : ℕ) → List ImageEntry → List Slot
slots_with size es = filled size 0 es (replicate size new_slot)

-- The words.

-- The words of a shard that begins with these entries: each meta word is the code of its slot, the
-- data words of each entry are its own, under serials from 0 on, and all sums are the entries'.
pub record BeginsWith (slots room : ℕ) (es : List ImageEntry) (words : List ℕ) : Type 0 where
  pub coded : Coded room (slots_with slots es) words
  pub entries : (number : ℕ) (e : ImageEntry) → slice_get es number ≡ Some e
      → Lies words (field_at room e.slot DATA) (made_words 0 (made_of_entry number e))
  pub passed : (s : ℕ) → s < slots
      → slice_index words (field_at room s DISPLACEMENT)
      ≡ total (λ (e : ImageEntry). times s (trail_to slots e.key e.slot)) es
  pub usage : slice_index words (ledger_at slots room USAGE) ≡ charges_of es
  pub occupancy : slice_index words (ledger_at slots room OCCUPANCY) ≡ length es
  pub standing : slice_index words (ledger_at slots room STANDING) ≡ 0
  pub hand : slice_index words (ledger_at slots room HAND) ≡ 0
