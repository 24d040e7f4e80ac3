-- How a count rises: it never falls.
use Rattle.std.specs.Prelude.{ℕ, ◌+◌, ◌^◌, ◌<◌, ◌≤◌}

-- The count rose by so much, at least and at most. Less is told of one that came to its end.
abbrev pub Rose : (least most old new : ℕ) → Type 0
Rose least most old new =
    (old ≤ new) × (new + 1 < 2 ^ 64 → old + least ≤ new) × (new ≤ old + most)
