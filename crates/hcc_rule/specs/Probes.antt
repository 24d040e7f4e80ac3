-- Where a key is looked for: its probes, and the trail to a slot.
use Rattle.std.specs.Prelude.{ℕ, ◌+◌, ◌*◌, ◌%◌, ◌==◌, List, [], ◌∷◌, map, bit_or, if◌then◌else◌}
use Rattle.std.specs.List.{range_with_len}
use Rattle.hcc_rule.specs.declared.key.Key.{Key}

-- the slot of probe i of a key: from its second word on, by steps of its first one, made odd
abbrev pub probe_slot : (slots : ℕ) → Key → (i : ℕ) → ℕ
probe_slot slots key i = (key.w1 + i * bit_or key.w0 1) % slots

-- the slots of all its probes, in order: in a table of a power of two, each slot once
abbrev pub probe_slots : (slots : ℕ) → Key → List ℕ
probe_slots slots key = map (probe_slot slots key) (range_with_len 0 slots)

-- what stands in front of the first such number
abbrev pub before : ℕ → List ℕ → List ℕ
before n [] = []
before n (x ∷ xs) = if x == n then [] else x ∷ before n xs

-- the slots that are passed on the way to a key's entry in this slot
abbrev pub trail_to : (slots : ℕ) → Key → (slot : ℕ) → List ℕ
trail_to slots key slot = before slot (probe_slots slots key)
