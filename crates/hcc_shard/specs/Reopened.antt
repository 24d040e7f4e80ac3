-- Which entries a shard may be opened with.
use Rattle.std.specs.Prelude.{ℕ, ◌+◌, ◌*◌, ◌/◌, ◌^◌, ◌<◌, ◌==◌, ◌&&◌, Bool, true, not, nat_le, nat_lt, List, [], ◌∷◌, Option, Some, None, if◌then◌else◌, length}
use Rattle.std.specs.List.{list_any}
use Rattle.hcc_core.specs.declared.limits.TheConstants.{MOST_USES, OCCUPANCY_PERCENT}
use Rattle.hcc_rule.specs.declared.geometry.Geometry.{Geometry}
use Rattle.hcc_rule.specs.declared.image.ImageEntry.{ImageEntry}
use Rattle.hcc_rule.specs.declared.key.Key.{Key}
use Rattle.hcc_rule.specs.ImageLimits.{charges_of}
use Rattle.hcc_rule.specs.Views.{Each}
use Rattle.hcc_shard.specs.declared.reopening.ReopenError.{ReopenError}
use Rattle.hcc_shard.specs.declared.reopening.ReopenError.TheVariants.{BadSlot, BadLength, BadUses, BadCharge, TooMany, TooLarge}

-- whether each slot is one of the table's, and above that of the entry before it
abbrev pub is_rising : (low size : ℕ) → List ImageEntry → Bool
is_rising low size [] = true
is_rising low size (e ∷ es) =
    nat_le low e.slot && nat_lt e.slot size && is_rising (e.slot + 1) size es

-- whether an entry's value is too long for its slot,
abbrev pub is_long : (room : ℕ) → ImageEntry → Bool
is_long room e = nat_lt (8 * room) (length e.value.items)

-- it has more uses than an entry may begin with,
abbrev pub is_worn : ImageEntry → Bool
is_worn e = nat_lt MOST_USES e.uses

-- or it has no charge
abbrev pub is_free : ImageEntry → Bool
is_free e = e.charge == 0

-- Why no shard is opened with these entries, but for memory: the first of these that is due.
abbrev pub refusal_of : Geometry → (capacity : ℕ) → (strict : Bool) → List ImageEntry
    → Option ReopenError
refusal_of geometry capacity strict es =
    if not (is_rising 0 geometry.slots es) then Some BadSlot else
    if list_any (is_long geometry.room) es then Some BadLength else
    if list_any is_worn es then Some BadUses else
    if list_any is_free es then Some BadCharge else
    if nat_lt (geometry.slots * OCCUPANCY_PERCENT / 100) (length es) then Some TooMany else
    if strict && nat_lt capacity (charges_of es) then Some TooLarge else None

-- What callers keep: the value of each entry is right for its key.
abbrev pub AreFitting : {T : Type 0} (fits : T → Key → List ℕ → Type 0) (tag : T)
    → List ImageEntry → Type 0
AreFitting fits tag = Each (λ (e : ImageEntry). fits tag e.key e.value.items)

-- What the types of the code say of an entry: its value has bytes,
abbrev pub HasBytes : ImageEntry → Type 0
HasBytes e = Each (λ b. b < 256) e.value.items

-- and its charge is one of 32 bits.
abbrev pub IsSmall : ImageEntry → Type 0
IsSmall e = e.charge < 2 ^ 32

pub record HasTypes (e : ImageEntry) : Type 0 where
  pub bytes : HasBytes e
  pub small : IsSmall e
