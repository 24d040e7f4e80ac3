-- An entry is put into words.
use Rattle.std.specs.Prelude.{◌≡◌, ◌≢◌, ℕ, ◌+◌, ◌^◌, ◌<◌, List, length, slice_index}
use Rattle.hcc_core.specs.World.{times}
use Rattle.hcc_rule.specs.declared.image.ImageEntry.{ImageEntry}
use Rattle.hcc_rule.specs.declared.layout.TheConstants.{META, DISPLACEMENT, DATA, PAYLOAD, USAGE, OCCUPANCY}
use Rattle.hcc_rule.specs.Probes.{trail_to}
use Rattle.hcc_rule.specs.Words.{field_at, ledger_at, word_count, Lies, code_of, made_words}
use Rattle.hcc_rule.specs.Images.{made_of_entry, resident_of}

-- An entry was put into words, under this number: its slot's meta word and data words are its own,
-- the slots of its trail are passed once more, and the usage and the occupancy have grown by it. No
-- other word has changed.
pub record Puts (slots room number : ℕ) (e : ImageEntry) (old new : List ℕ) : Type 0 where
  pub wide : length new ≡ length old
  pub meta : slice_index new (field_at room e.slot META) ≡ code_of (resident_of slots number e)
  pub entry : Lies new (field_at room e.slot DATA) (made_words 0 (made_of_entry number e))
  pub passed : (s : ℕ) → s < slots → slice_index new (field_at room s DISPLACEMENT)
      ≡ slice_index old (field_at room s DISPLACEMENT)
      + times s (trail_to slots e.key e.slot)
  pub usage : slice_index new (ledger_at slots room USAGE)
      ≡ slice_index old (ledger_at slots room USAGE) + e.charge
  pub occupancy : slice_index new (ledger_at slots room OCCUPANCY)
      ≡ slice_index old (ledger_at slots room OCCUPANCY) + 1
  pub others : (a : ℕ) → (field_at room e.slot META ≢ a)
      → ((k : ℕ) → k < PAYLOAD + room → field_at room e.slot DATA + k ≢ a)
      → ((s : ℕ) → s < slots → field_at room s DISPLACEMENT ≢ a)
      → (ledger_at slots room USAGE ≢ a) → (ledger_at slots room OCCUPANCY ≢ a)
      → slice_index new a ≡ slice_index old a

-- Words where an entry may be put: no word of a sum is near its end.
pub record HaveSpace (slots room : ℕ) (words : List ℕ) : Type 0 where
  pub wide : length words ≡ word_count slots room
  pub passed : (s : ℕ) → s < slots → slice_index words (field_at room s DISPLACEMENT) < 2 ^ 63
  pub usage : slice_index words (ledger_at slots room USAGE) < 2 ^ 63
  pub occupancy : slice_index words (ledger_at slots room OCCUPANCY) < 2 ^ 63
