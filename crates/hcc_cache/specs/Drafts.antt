-- Shards as they are filled with the entries of an image.
use Rattle.std.specs.Prelude.{◌≡◌, ℕ, ◌+◌, ◌*◌, ◌^◌, ◌<◌, ◌≤◌, ◌&&◌, ◌||◌, min, not, nat_le, nat_lt, true, Bool, List, [], ◌∷◌, Option, Some, None, length, replicate, slice_get, slice_set}
use Rattle.hcc_core.specs.declared.limits.TheConstants.{MOST_USES}
use Rattle.hcc_core.specs.Sums.{total}
use Rattle.hcc_rule.specs.declared.image.ImageEntry.{ImageEntry}
use Rattle.hcc_rule.specs.declared.key.Key.{Key}
use Rattle.hcc_cache.specs.declared.config.Config.{Config}
use Rattle.hcc_cache.specs.declared.drafting.Draft.{Draft}
use Rattle.hcc_cache.specs.declared.image.Saved.{Saved}
use Rattle.hcc_cache.specs.Configs.{shard_capacity}
use Rattle.hcc_cache.specs.Images.{Visible, visible_from}
use Rattle.hcc_cache.specs.Keys.{IsKeyOf}
use Rattle.hcc_cache.specs.Sharding.{IsReached}
use Rattle.hcc_cache.specs.Taken.{IsOneOf, begun, places_of, sum_in}

-- Of the slots of one shard.

-- the entries that stand in slots, in the order of these
abbrev pub standing : List (Option ImageEntry) → List ImageEntry
standing [] = []
standing (None ∷ places) = standing places
standing (Some e ∷ places) = e ∷ standing places

-- what a slot gives to a sum
abbrev pub given : (ImageEntry → ℕ) → Option ImageEntry → ℕ
given f None = 0
given f (Some e) = f e

-- some slot is free
abbrev pub HasFree : List (Option ImageEntry) → Type 0
HasFree places = (slot : ℕ) × (slice_get places slot ≡ Some None)

-- an entry stands in this slot
abbrev pub IsFilled : List (Option ImageEntry) → (slot : ℕ) → Type 0
IsFilled places slot = (e : ImageEntry) × (slice_get places slot ≡ Some (Some e))

-- so many slots, all of them free
pub record IsBlank (slots : ℕ) (d : Draft) : Type 0 where
  pub places : d.places.items ≡ replicate slots None
  pub none : d.count ≡ 0
  pub free : d.charge ≡ 0

-- whether one more entry is taken, by what there is
abbrev pub takes : Config → Draft → (charge len : ℕ) → Bool
takes c d charge len =
    (nat_lt 0 charge && nat_le len (8 * c.room))
    && (nat_lt d.count (places_of c)
    && (not c.strict || nat_le (d.charge + charge) (shard_capacity c)))

-- What is saved of an entry was put into the first slot of this seeded key's probes that was free.
pub record Puts (key : Key) (saved : Saved) (old new : Draft) : Type 0 where
  pub slot : ℕ
  pub entry : ImageEntry
  pub free : slice_get old.places.items slot ≡ Some None
  pub reached : IsReached (length old.places.items) key (IsFilled old.places.items) slot
  pub here : entry.slot ≡ slot
  pub key_is : entry.key ≡ key
  pub value : entry.value.items ≡ saved.value.items
  pub charged : entry.charge ≡ saved.charge
  pub uses : entry.uses ≡ min saved.uses MOST_USES
  pub places : new.places.items ≡ slice_set old.places.items slot (Some entry)
  pub count : new.count ≡ old.count + 1
  pub charge : new.charge ≡ old.charge + saved.charge

-- Of all shards.

-- An entry that stands in this slot of a draft. A search for its key comes there, past others.
pub record Stands (c : Config) (taken : List Visible) (places : List (Option ImageEntry))
    (slot : ℕ) (e : ImageEntry) : Type 0 where
  pub here : e.slot ≡ slot
  pub short : length e.value.items ≤ 8 * c.room
  pub paid : 0 < e.charge
  pub few : e.uses ≤ MOST_USES
  pub from : IsOneOf c taken e
  pub reached : IsReached c.slots e.key (IsFilled places) slot

-- The draft of a shard has those that were taken and belong there.
pub record IsDraft (c : Config) (taken : List Visible) (shard : ℕ) (d : Draft) : Type 0 where
  pub wide : length d.places.items ≡ c.slots
  pub count : d.count ≡ sum_in c shard (λ (e : Visible). 1) taken
  pub charge : d.charge ≡ sum_in c shard (λ (e : Visible). e.charge) taken
  pub holds : (f : Visible → ℕ)
      → total (given (λ (e : ImageEntry). f (visible_from c.seed e))) d.places.items
      ≡ sum_in c shard (λ (e : Visible). f (begun e)) taken
  pub each : (slot : ℕ) (e : ImageEntry) → slice_get d.places.items slot ≡ Some (Some e)
      → Stands c taken d.places.items slot e
  pub belongs : (slot : ℕ) (e : ImageEntry) → slice_get d.places.items slot ≡ Some (Some e)
      → IsKeyOf c.seed c.shards shard e.key
  pub few : d.count ≤ places_of c
  pub small : d.charge ≤ d.count * 2 ^ 32
  pub within : c.strict ≡ true → d.charge ≤ shard_capacity c

-- a draft of each shard
pub record AreDrafts (c : Config) (taken : List Visible) (drafts : List Draft) : Type 0 where
  pub count : length drafts ≡ c.shards
  pub each : (shard : ℕ) (d : Draft) → slice_get drafts shard ≡ Some d → IsDraft c taken shard d
