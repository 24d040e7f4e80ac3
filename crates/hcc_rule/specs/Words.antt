-- Where the words of a shard stand, and what the words of a slot and of an entry are.
use Rattle.std.specs.Prelude.{◌≡◌, ℕ, ◌+◌, ◌*◌, ◌/◌, ◌<◌, List, ◌∷◌, length, map, take, drop, slice_index}
use Rattle.std.specs.Int.{from_le_bytes}
use mir.Syntax.{w64}
use Rattle.std.specs.List.{range_with_len}
use Rattle.hcc_word.specs.Code.{code_of_empty, code_of_building, code_of_shareable}
use Rattle.hcc_core.specs.declared.limits.TheConstants.{STAMPS_PER_CLIENT}
use Rattle.hcc_core.specs.declared.slot.Entry.{Entry}
use Rattle.hcc_core.specs.declared.slot.Stamp.{Stamp}
use Rattle.hcc_core.specs.declared.slot.Slot.{Slot}
use Rattle.hcc_core.specs.declared.slot.Slot.TheVariants as slots
use Rattle.hcc_core.specs.World.{weight}
use Rattle.hcc_rule.specs.declared.layout.TheConstants.{SLOT_HEAD, LEDGER_WORDS}
use Rattle.hcc_rule.specs.declared.key.Key.{Key}
use Rattle.hcc_rule.specs.declared.view.Made.{Made}

-- the address of a slot's word, by its field
abbrev pub field_at : (room slot field : ℕ) → ℕ
field_at room slot field = slot * (room + SLOT_HEAD) + field

-- the address of a ledger word
abbrev pub ledger_at : (slots room ledger : ℕ) → ℕ
ledger_at slots room ledger = slots * (room + SLOT_HEAD) + ledger

-- how many words there are
abbrev pub word_count : (slots room : ℕ) → ℕ
word_count slots room = slots * (room + SLOT_HEAD) + LEDGER_WORDS

-- these words stand from an address on
abbrev pub Lies : List ℕ → ℕ → List ℕ → Type 0
Lies words base xs = (k : ℕ) → k < length xs → slice_index words (base + k) ≡ slice_index xs k

-- The meta word.

-- the code of a slot: its uses in both counters, its references in the first, its hit bit and its
-- state; the strays of a slot that has no entry
abbrev pub code_of : Slot → ℕ
code_of (slots.Empty strays) = code_of_empty strays
code_of (slots.Building client strays) = code_of_building strays
code_of (slots.Shareable r) = code_of_shareable r.uses (weight r.references) r.hit r.shown

-- The data words.

-- how many words a value of so many bytes takes
abbrev pub words_for : ℕ → ℕ
words_for bytes = (bytes + 7) / 8

-- a payload word: eight bytes, the first lowest, and 0 where there are fewer
abbrev pub payload_word : List ℕ → ℕ → ℕ
payload_word value k = from_le_bytes w64 (take 8 (drop (8 * k) value))

abbrev pub payload : List ℕ → List ℕ
payload value = map (payload_word value) (range_with_len 0 (words_for (length value)))

-- which entry it is: the client that showed it, and the serial that the client gave it
abbrev pub stamp_word : (client serial : ℕ) → ℕ
stamp_word client serial = client * STAMPS_PER_CLIENT + serial

-- the data words of what a client made
abbrev pub made_words : ℕ → Made → List ℕ
made_words client made =
    made.key.w0 ∷ made.key.w1 ∷ made.charge ∷ stamp_word client made.serial ∷ length made.value
    ∷ payload made.value

-- the entry that it is in the world
abbrev pub entry_of : Stamp → Made → Entry
entry_of stamp made = record {
  key0 = made.key.w0;
  key1 = made.key.w1;
  stamp = stamp;
  value = made.value;
  charge = made.charge;
}

abbrev pub key_of : Entry → Key
key_of entry = record { w0 = entry.key0; w1 = entry.key1 }
