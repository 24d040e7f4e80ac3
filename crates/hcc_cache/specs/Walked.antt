-- What a walk over the slots of a cache comes to at each.
use Rattle.std.specs.Prelude.{◌≡◌, ℕ, ◌<◌, Bool, false, List, None, Option, Some, length, take}
use Rattle.hcc_word.specs.Word.{releases_of}
use Rattle.hcc_rule.specs.declared.key.Key.{Key}
use Rattle.hcc_rule.specs.declared.view.View.{View}
use Rattle.hcc_rule.specs.Looked.{Backs}
use Rattle.hcc_table.specs.declared.pins.Pin.{Pin}
use Rattle.hcc_table.specs.Lists.{Shelf}
use Rattle.hcc_shard.specs.declared.seat.ShardSeat.{ShardSeat}
use Rattle.hcc_shard.specs.declared.shard.Shard.{Shard}
use Rattle.hcc_shard.specs.Callers.{LoadsWord, view_of}
use Rattle.hcc_shard.specs.Kept.{IsPassed, WalksAt}
use Rattle.hcc_shard.specs.Stays.{SeeksAt}
use Rattle.hcc_cache.specs.declared.cache.Cache.{Cache}
use Rattle.hcc_cache.specs.declared.client.Client.{Client}
use Rattle.hcc_cache.specs.declared.gone.GoneList.{GoneList}
use Rattle.hcc_cache.specs.declared.gone.Objects.{Objects}
use Rattle.hcc_cache.specs.declared.handle.Handle.{Handle}
use Rattle.hcc_cache.specs.declared.object_walking.HeldObject.{HeldObject}
use Rattle.hcc_cache.specs.declared.seeded.Seeded.{Seeded}
use Rattle.hcc_cache.specs.declared.walking.HeldEntry.{HeldEntry}
use Rattle.hcc_cache.specs.Calls.{AtShard, Finds, KeepsAll, Works, shard_in}
use Rattle.hcc_cache.specs.Keys.{fits_seeded}
use Rattle.hcc_cache.specs.Objects.{is_word, object_bytes}

-- a list as calls that free see it
abbrev pub shelf_in : GoneList → Option Shelf
shelf_in list = Some (record {
  freed = take list.count list.places.items;
  most = list.most;
  places = length list.places.items;
})

-- A walk that keeps no list came to a slot, under this serial, and holds the entry there. Then a
-- load of the slot's word, in which what the client holds there shows, counted so many uses, and
-- the walk read on.
pub record WalksCounting {T A : Type 0} (fits : T → Key → List ℕ → Type 0) (shard : Shard T A)
    (serial slot uses : ℕ) (old new : ShardSeat T) : Type 0 where
  pub pin : Pin
  pub held : ShardSeat T
  pub walks : WalksAt fits shard serial slot false (Some pin) old held
  pub word : ℕ
  pub looked : ShardSeat T
  pub loads : LoadsWord shard slot word held looked
  pub backs : Backs slot word (view_of held)
  pub counts : uses ≡ releases_of word
  pub reads : SeeksAt shard looked new

module _ {T : Type 0} (cache : Cache T) where
  -- there is such a slot
  abbrev pub IsSlotIn : (shard slot : ℕ) → Type 0
  IsSlotIn shard slot = (shard < length cache.shards.items) × (slot < cache.geometry.slots)

  module _ (fits : T → Key → List ℕ → Type 0) (shard slot : ℕ) where
    -- A walk held the entry of a slot, as a look-up of its key does: in the key's shard, and no
    -- other slot. The charge is that of its insertion.
    pub record HoldsOn (handle : Handle) (key : Key) (charge : ℕ) (old new : Client T)
        : Type 0 where
      pub finds : Finds cache fits key handle old new
      pub home : shard_in cache key ≡ shard
      pub on : finds.found.slot ≡ slot
      pub charge_is : finds.found.entry.charge ≡ charge

    -- So it held one of a cache of bytes, and a load counted its uses then.
    pub record HoldsEntryAt (held : HeldEntry) (old new : Client T) : Type 0 where
      pub holds : HoldsOn held.handle held.key held.charge old new
      pub walks : AtShard cache (λ there was is.
          WalksCounting (fits_seeded fits) there old.used slot held.uses was is) shard old new

    -- It held nothing there: the client holds what it held, and freed an entry of the slot or none,
    -- where a list takes one, or not.
    pub record PassesAt (takes : Bool) (old new : Client T) : Type 0 where
      pub v : View (Seeded T)
      pub w : View (Seeded T)
      pub works : Works shard old new v w
      pub passes : IsPassed slot v w
      pub keeps : KeepsAll cache old new
      pub walks : AtShard cache (λ there was is.
          WalksAt (fits_seeded fits) there old.used slot takes None was is) shard old new

-- It held one of a cache of objects: the object is that of its insertion.
pub record HoldsAt (cache : Cache Objects) (shard slot : ℕ) (held : HeldObject)
    (old new : Client Objects) : Type 0 where
  pub holds : HoldsOn cache is_word shard slot held.handle held.key held.charge old new
  pub object : holds.finds.found.entry.value ≡ object_bytes held.object
