-- What a record tells of the value that is read by it, and a buffer that it's copied to.
use Rattle.std.specs.Prelude.{◌≡◌, ℕ, zero, suc, ◌+◌, ◌*◌, ◌/◌, ◌%◌, ◌<◌, ◌≤◌, List, ◌++◌, length, take, drop, slice_index}
use Rattle.hcc_rule.specs.declared.view.Record.{Record}
use Rattle.hcc_rule.specs.Views.{Each}
use Rattle.hcc_rule.specs.Words.{payload_word, words_for}
use Rattle.hcc_table.specs.declared.optimistic.Got.{Got}
use Rattle.hcc_table.specs.declared.optimistic.Got.TheVariants.{Hit, Miss, Short}

-- The value of a record's entry can be read as bytes: it fits its slot, and it is of bytes.
pub record IsReadable (room : ℕ) (r : Record) : Type 0 where
  pub short : length r.entry.value ≤ 8 * room
  pub bytes : Each (λ b. b < 256) r.entry.value

-- a buffer with bytes of a value in place of its own, from the same byte on
abbrev pub put_in : (at count : ℕ) → (value buffer : List ℕ) → List ℕ
put_in at count value buffer =
    take at buffer ++ (take count (drop at value) ++ drop (at + count) buffer)

-- a buffer with four words of a value in place of its own, each eight words behind the one before
abbrev pub put_turn : (at : ℕ) → (value buffer : List ℕ) → List ℕ
put_turn at value buffer =
    put_in (8 * (at + 24)) 8 value (put_in (8 * (at + 16)) 8 value
    (put_in (8 * (at + 8)) 8 value (put_in (8 * at) 8 value buffer)))

-- a buffer with so many bytes of a value, from an offset on, in place of its own first ones
abbrev pub part_in : (offset count : ℕ) → (value buffer : List ℕ) → List ℕ
part_in offset count value buffer = take count (drop offset value) ++ drop count buffer

-- how many words of a value have bytes of such a part
abbrev pub words_across : (offset count : ℕ) → ℕ
words_across offset zero = 0
words_across offset (suc more) = (offset % 8 + suc more + 7) / 8

-- these words begin with those of a value
abbrev pub HasWords : (words value : List ℕ) → Type 0
HasWords words value =
    (j : ℕ) → 8 * j < length value → slice_index words j ≡ payload_word value j

-- what is in a buffer once a value was read into it, or was too long for it
abbrev pub CopiesOut : Got → (value before after : List ℕ) → Type 0
CopiesOut Miss value before after = ⊥
CopiesOut (Hit count) value before after =
    (count ≡ length value) × (count ≤ length before) × (after ≡ value ++ drop count before)
CopiesOut (Short count) value before after =
    (count ≡ length value) × (length before < count) × (after ≡ before)

-- how many loads read a value, by what came of it: one for its length, and where it is copied one
-- for each of its words
abbrev pub loads_of : Got → ℕ
loads_of Miss = 0
loads_of (Hit count) = words_for count + 1
loads_of (Short count) = 1
