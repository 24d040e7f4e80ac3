-- What is read of a source, and what it counts.
use Rattle.std.specs.Prelude.{◌≡◌, ◌⊎◌, ℕ, ◌+◌, ◌-◌, ◌^◌, ◌<◌, ◌≤◌, nat_lt, List, Option, Some, None, length, take, drop, slice_get, IfSome, option_map, if◌then◌else◌}

-- the greatest number of a counter
abbrev pub top : ℕ
top = 2 ^ 64 - 1

-- a failure was counted, or no more can be
abbrev pub Fails : (old new : ℕ) → Type 0
Fails old new = (old < new) ⊎ (new ≡ top)

-- a file of the list has these bytes
abbrev pub HasBytes : List (List ℕ) → (file from count : ℕ) → Type 0
HasBytes files file from count =
    IfSome (slice_get files file) (λ bytes. from + count ≤ length bytes)

-- so many bytes of a file of the list, from this one on
abbrev pub bytes_at : List (List ℕ) → (file from count : ℕ) → Option (List ℕ)
bytes_at files file from count =
    option_map (λ bytes. take count (drop from bytes)) (slice_get files file)

-- Of a source that fails once, after so many reads more; it failed where none stands here.

-- how often it failed
abbrev pub failures_of : Option ℕ → ℕ
failures_of None = 1
failures_of (Some before) = 0

-- how many reads come before the one that fails, once a read was made
abbrev pub after_read : Option ℕ → Option ℕ
after_read None = None
after_read (Some before) = if nat_lt 0 before then Some (before - 1) else None
