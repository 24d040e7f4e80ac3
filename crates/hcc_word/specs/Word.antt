-- The fields of a meta word, by division and remainder.
use Rattle.std.specs.Prelude.{ℕ, ◌+◌, ◌-◌, ◌*◌, ◌/◌, ◌%◌, ◌^◌, ◌==◌, Bool, not, nat_lt, nat_le}
use Rattle.std.specs.Int.{from_bool}
use Rattle.hcc_word.specs.declared.layout.TheConstants.{COUNTER_BITS, HIT_PLACE, STATE_PLACE, EMPTY}
use Rattle.hcc_word.specs.declared.layout.TheConstants.{INVISIBLE, VISIBLE, NEAR}

-- how many acquires the word counts
unfoldable pub acquires_of : ℕ → ℕ
acquires_of word = word % 2 ^ COUNTER_BITS

-- how many releases it counts
unfoldable pub releases_of : ℕ → ℕ
releases_of word = word / 2 ^ COUNTER_BITS % 2 ^ COUNTER_BITS

-- acquires less releases, round the size of a counter
unfoldable pub refs_of : ℕ → ℕ
refs_of word = (acquires_of word + (2 ^ COUNTER_BITS - releases_of word)) % 2 ^ COUNTER_BITS

-- the hit bit
unfoldable pub hit_of : ℕ → Bool
hit_of word = word / 2 ^ HIT_PLACE % 2 == 1

-- the state
unfoldable pub state_of : ℕ → ℕ
state_of word = word / 2 ^ STATE_PLACE

-- the word with these four fields
unfoldable pub word_of : (acquires releases : ℕ) → Bool → (state : ℕ) → ℕ
word_of acquires releases hit state =
    acquires + releases * 2 ^ COUNTER_BITS + from_bool hit * 2 ^ HIT_PLACE + state * 2 ^ STATE_PLACE

-- what a word that was found tells
abbrev pub is_empty : ℕ → Bool
is_empty word = state_of word == EMPTY

abbrev pub is_visible : ℕ → Bool
is_visible word = state_of word == VISIBLE

-- visible or invisible
abbrev pub is_shareable : ℕ → Bool
is_shareable word = nat_le INVISIBLE (state_of word)

abbrev pub is_referenced : ℕ → Bool
is_referenced word = not (refs_of word == 0)

-- whether references that an acquire got here are counting
abbrev pub is_counting : ℕ → Bool
is_counting word = nat_lt (releases_of word) NEAR
