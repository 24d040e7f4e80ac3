-- Which entries of an image a cache begins with: in their order each for which its shard has a
-- place, and room for its charge.
use Rattle.std.specs.Prelude.{◌≡◌, ℕ, ◌+◌, ◌*◌, ◌/◌, ◌==◌, ◌&&◌, ◌||◌, ◌≤◌, min, not, nat_le, nat_lt, true, Bool, List, [], ◌∷◌, ◌++◌, Some, length, slice_get, if◌then◌else◌}
use Rattle.hcc_core.specs.declared.limits.TheConstants.{MOST_USES, OCCUPANCY_PERCENT}
use Rattle.hcc_core.specs.Sums.{total, when}
use Rattle.hcc_rule.specs.declared.image.ImageEntry.{ImageEntry}
use Rattle.hcc_rule.specs.Views.{Each}
use Rattle.hcc_cache.specs.declared.config.Config.{Config}
use Rattle.hcc_cache.specs.Configs.{shard_capacity}
use Rattle.hcc_cache.specs.Images.{Visible, visible_from}
use Rattle.hcc_cache.specs.Sharding.{key_to, shard_of}

-- the shard where an entry belongs
abbrev pub home_of : Config → Visible → ℕ
home_of c e = shard_of (key_to c.seed e.key) c.shards

-- the sum of what those that belong in a shard give
abbrev pub sum_in : Config → (shard : ℕ) → (Visible → ℕ) → List Visible → ℕ
sum_in c shard f = total (λ (e : Visible). when (home_of c e == shard) (f e))

-- how many entries a shard may begin with
abbrev pub places_of : Config → ℕ
places_of c = c.slots * OCCUPANCY_PERCENT / 100

-- whether an entry has a charge, and a slot has room for its value
abbrev pub is_sound : Config → Visible → Bool
is_sound c e = nat_lt 0 e.charge && nat_le (length e.value) (8 * c.room)

-- whether its shard has a place, besides these entries,
abbrev pub has_place : Config → List Visible → Visible → Bool
has_place c es e = nat_lt (sum_in c (home_of c e) (λ (x : Visible). 1) es) (places_of c)

-- and grants its charge: any, where capacity isn't strict
abbrev pub is_granted : Config → List Visible → Visible → Bool
is_granted c es e =
    not c.strict
    || nat_le (sum_in c (home_of c e) (λ (x : Visible). x.charge) es + e.charge) (shard_capacity c)

abbrev pub is_taken : Config → List Visible → Visible → Bool
is_taken c es e = is_sound c e && (has_place c es e && is_granted c es e)

-- The entries with which a cache begins, and those that are left out.
pub record Split : Type 0 where
  pub taken : List Visible
  pub left : List Visible

-- with one entry more
abbrev pub with_one : Config → Split → Visible → Split
with_one c s e =
    if is_taken c s.taken e
    then record { taken = s.taken ++ e ∷ []; left = s.left }
    else record { taken = s.taken; left = s.left ++ e ∷ [] }

-- with more of them, in order
abbrev pub with_all : Config → Split → List Visible → Split
with_all c s [] = s
with_all c s (e ∷ es) = with_all c (with_one c s e) es

abbrev pub split_of : Config → List Visible → Split
split_of c = with_all c (record { taken = []; left = [] })

-- An entry as a cache begins with it: its uses are at most those that one may begin with.
abbrev pub begun : Visible → Visible
begun e = record { key = e.key; value = e.value; charge = e.charge; uses = min e.uses MOST_USES }

-- An entry of a shard is one of those that were taken.
pub record IsOneOf (c : Config) (taken : List Visible) (e : ImageEntry) : Type 0 where
  pub index : ℕ
  pub one : Visible
  pub there : slice_get taken index ≡ Some one
  pub is : visible_from c.seed e ≡ begun one

-- Entries that a cache of this size takes all: each shard has places for those that belong there,
-- and grants their charges.
pub record IsRoomyFor (c : Config) (es : List Visible) : Type 0 where
  pub sound : Each (λ (e : Visible). is_sound c e ≡ true) es
  pub places : (shard : ℕ) → sum_in c shard (λ (e : Visible). 1) es ≤ places_of c
  pub charges : c.strict ≡ true → (shard : ℕ)
      → sum_in c shard (λ (e : Visible). e.charge) es ≤ shard_capacity c
