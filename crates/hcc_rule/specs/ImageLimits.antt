-- What callers keep of the entries with which a shard begins.
use Rattle.std.specs.Prelude.{◌≡◌, ℕ, ◌+◌, ◌*◌, ◌/◌, ◌^◌, ◌<◌, ◌≤◌, Bool, true, List, [], ◌∷◌, length}
use Rattle.hcc_core.specs.declared.limits.TheConstants.{MOST_USES, OCCUPANCY_PERCENT}
use Rattle.hcc_core.specs.Sums.{total}
use Rattle.hcc_rule.specs.declared.geometry.Geometry.{Geometry}
use Rattle.hcc_rule.specs.declared.image.ImageEntry.{ImageEntry}
use Rattle.hcc_rule.specs.declared.key.Key.{Key}
use Rattle.hcc_rule.specs.Views.{Each}

-- each slot is one of the table's, and above that of the entry before it
abbrev pub AreRising : (low size : ℕ) → List ImageEntry → Type 0
AreRising low size [] = Unit {0}
AreRising low size (e ∷ es) = (low ≤ e.slot) × (e.slot < size) × AreRising (e.slot + 1) size es

-- a value that fits its slot, a charge that isn't 0, and not too many uses
pub record IsSized (room : ℕ) (e : ImageEntry) : Type 0 where
  pub short : length e.value.items ≤ 8 * room
  pub paid : 0 < e.charge
  pub small : e.charge < 2 ^ 32
  pub few : e.uses ≤ MOST_USES

-- and the value is right for its key
pub record IsImageEntry {T : Type 0} (fits : T → Key → List ℕ → Type 0) (tag : T) (room : ℕ)
    (e : ImageEntry) : Type 0 where
  pub sized : IsSized room e
  pub fitting : fits tag e.key e.value.items
  pub bytes : Each (λ b. b < 256) e.value.items

-- the charges of all entries
abbrev pub charges_of : List ImageEntry → ℕ
charges_of = total (λ (e : ImageEntry). e.charge)

-- What callers keep: the slots rise, each entry is right, there are no more of them than the table
-- takes, and under strict their charges are within the capacity.
pub record IsImageFor {T : Type 0} (fits : T → Key → List ℕ → Type 0) (tag : T)
    (geometry : Geometry) (capacity : ℕ) (strict : Bool) (es : List ImageEntry) : Type 0 where
  pub rising : AreRising 0 geometry.slots es
  pub each : Each (IsImageEntry fits tag geometry.room) es
  pub few : length es ≤ geometry.slots * OCCUPANCY_PERCENT / 100
  pub within : strict ≡ true → charges_of es ≤ capacity
