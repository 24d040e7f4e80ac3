-- The code of a slot: the word of a slot in each of its phases, as a sum of fields.
use Rattle.std.specs.Prelude.{ℕ, ◌+◌, ◌*◌, ◌^◌, Bool, if◌then◌else◌}
use Rattle.std.specs.Int.{from_bool}
use Rattle.hcc_word.specs.declared.layout.TheConstants.{COUNTER_BITS, HIT_PLACE, STATE_PLACE}
use Rattle.hcc_word.specs.declared.layout.TheConstants.{OCCUPIED_BIT, INVISIBLE, VISIBLE}

-- an empty slot: the acquires that strayed there
unfoldable pub code_of_empty : (strays : ℕ) → ℕ
code_of_empty strays = strays

-- a slot under construction: the same, and the occupied bit
unfoldable pub code_of_building : (strays : ℕ) → ℕ
code_of_building strays = strays + OCCUPIED_BIT

-- the state of a slot with an entry
abbrev pub entry_state : (visible : Bool) → ℕ
entry_state visible = if visible then VISIBLE else INVISIBLE

-- a slot with an entry: its uses in both counters and its references in the first, the hit bit,
-- and the state
unfoldable pub code_of_shareable : (uses refs : ℕ) (hit visible : Bool) → ℕ
code_of_shareable uses refs hit visible =
    (uses + refs) + uses * 2 ^ COUNTER_BITS + from_bool hit * 2 ^ HIT_PLACE
    + entry_state visible * 2 ^ STATE_PLACE
