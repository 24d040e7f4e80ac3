-- What is read of a reader.
use Rattle.std.specs.Prelude.{◌≡◌, ℕ, ◌<◌, ◌≤◌, List, Option, length, IfSome}
use Rattle.hcc_player.specs.declared.limits.TheConstants.{MOST_INPUT}
use Rattle.hcc_player.specs.declared.fault.PlayError.{PlayError}
use Rattle.hcc_player.specs.declared.fault.PlayError.TheVariants as plays

-- these bytes are not too many, and all that the reader had left
abbrev pub IsWhole : Option (List ℕ) → List ℕ → Type 0
IsWhole known bytes = (length bytes ≤ MOST_INPUT) × IfSome known (λ text. bytes ≡ text)

-- why a part was not read
abbrev pub FailsInPart : PlayError → Type 0
FailsInPart plays.ReadFailed = Unit {0}
FailsInPart plays.OutOfMemory = Unit {0}
FailsInPart other = ⊥

-- why nothing was read of what a reader had left
abbrev pub FailsToRead : PlayError → Option (List ℕ) → Type 0
FailsToRead plays.ReadFailed known = Unit {0}
FailsToRead plays.TooLarge known = IfSome known (λ text. MOST_INPUT < length text)
FailsToRead plays.OutOfMemory known = Unit {0}
FailsToRead other known = ⊥
