-- What an insertion of an object leaves of a client.
use Rattle.std.specs.Prelude.{◌≡◌, ◌⊎◌, ◌<◌, ◌≤◌, ◌^◌, ℕ, Bool, true, not, Result, Ok, Err}
use Rattle.hcc_rule.specs.declared.key.Key.{Key}
use Rattle.hcc_charge.specs.Evicted.{turn_room}
use Rattle.hcc_word.specs.declared.objects.TheConstants.{ADDRESS_BITS}
use Rattle.hcc_cache.specs.declared.errors.InsertError.{InsertError}
use Rattle.hcc_cache.specs.declared.errors.InsertError.TheVariants as plain
use Rattle.hcc_cache.specs.declared.errors.ObjectError.{ObjectError}
use Rattle.hcc_cache.specs.declared.errors.ObjectError.TheVariants.{HandlesFull, Spent, TooHigh, TooLarge, CapacityFull, OccupancyFull}
use Rattle.hcc_cache.specs.declared.handle.Handle.{Handle}
use Rattle.hcc_cache.specs.declared.inserting.Inserted.{Inserted}
use Rattle.hcc_cache.specs.declared.inserting.Inserted.TheVariants as inserted
use Rattle.hcc_cache.specs.declared.object_inserting.Placing.{Placing}
use Rattle.hcc_cache.specs.declared.object_inserting.Placing.TheVariants.{Placed, Dropped, Standalone}
use Rattle.hcc_cache.specs.declared.objects.Object.{Object}
use Rattle.hcc_cache.specs.declared.object_cache.ObjectCache.{ObjectCache}
use Rattle.hcc_cache.specs.declared.object_cache.ObjectClient.{ObjectClient}
use Rattle.hcc_cache.specs.declared.priority.Priority.{Priority}
use Rattle.hcc_cache.specs.Calls.{HandsAt, shard_in}
use Rattle.hcc_cache.specs.Clients.{held_by}
use Rattle.hcc_cache.specs.Inserts.{InsertsAtListed, InsertsListed, InsertsPinnedAtListed, InsertsWithListed, RefusesPinnedAtListed, RefusesWithListed}
use Rattle.hcc_cache.specs.Objects.{alone_of, is_word, object_bytes, places_left, shelf_of}

-- what a cache of bytes answers, as one of objects does: whether the list is full beside it
abbrev pub placed_as : (full : Bool) → Inserted → Placing
placed_as full inserted.Placed = Placed
placed_as full inserted.Dropped = Dropped full
placed_as full inserted.Standalone = Standalone full

abbrev pub refused_as : (full : Bool) → InsertError → ObjectError
refused_as full plain.HandlesFull = HandlesFull
refused_as full plain.Spent = Spent
refused_as full plain.TooLarge = TooLarge
refused_as full plain.CapacityFull = CapacityFull full
refused_as full plain.OccupancyFull = OccupancyFull full

abbrev pub answer_as : (full : Bool) → Result Inserted InsertError → Result Placing ObjectError
answer_as full (Ok made) = Ok (placed_as full made)
answer_as full (Err why) = Err (refused_as full why)

-- the client's list has no room for another turn of the hand
abbrev pub is_full : ObjectClient → Bool
is_full client = not (turn_room (shelf_of client))

-- The address isn't too high, and a strict shard's capacity isn't below the charge.
abbrev pub MayInsert : ObjectCache → Object → (charge : ℕ) → Type 0
MayInsert cache object charge =
    (object.address < 2 ^ ADDRESS_BITS)
    × (cache.cache.strict ≡ true → charge ≤ cache.cache.capacity)

-- One more handle may be given, and the list has a place for an entry that comes to stand alone.
abbrev pub MayStand : ObjectClient → Type 0
MayStand client =
    (held_by client.client < client.client.most) × (0 < client.client.left)
    × (alone_of client < places_left client)

-- why an object or its charge may not be
abbrev pub IsUnfit : ObjectError → Type 0
IsUnfit why = (why ≡ TooHigh) ⊎ (why ≡ TooLarge)

module _ (cache : ObjectCache) (key : Key) (object : Object) (charge : ℕ) (priority : Priority)
    (old new : ObjectClient) where
  -- What an insertion did, by what a cache of bytes would answer; what it evicted is on the list.
  pub record InsertsObject (told : Result Inserted InsertError) : Type 0 where
    pub inserted : InsertsListed cache.cache key charge priority (object_bytes object)
        (turn_room (shelf_of old)) (turn_room (shelf_of new)) told old.client new.client
    pub evicts : InsertsAtListed cache.cache is_word key charge priority
        (turn_room (shelf_of old)) (turn_room (shelf_of new)) told old.client new.client
    pub hands : HandsAt cache.cache (shelf_of old) (shelf_of new) (shard_in cache.cache key)
        old.client new.client

  -- one that gives a handle
  pub record PinsObject (handle : Handle) (made : Inserted) : Type 0 where
    pub inserted : InsertsWithListed cache.cache key charge priority (object_bytes object)
        (turn_room (shelf_of old)) (turn_room (shelf_of new)) handle made old.client new.client
    pub evicts : InsertsPinnedAtListed cache.cache is_word key charge priority
        (turn_room (shelf_of old)) (turn_room (shelf_of new)) made old.client new.client
    pub hands : HandsAt cache.cache (shelf_of old) (shelf_of new) (shard_in cache.cache key)
        old.client new.client

  -- and one that is refused after it evicted
  pub record FailsObject (why : InsertError) : Type 0 where
    pub refuses : RefusesWithListed cache.cache key charge priority (object_bytes object)
        (turn_room (shelf_of old)) (turn_room (shelf_of new)) why old.client new.client
    pub evicts : RefusesPinnedAtListed cache.cache is_word key charge priority
        (turn_room (shelf_of old)) (turn_room (shelf_of new)) why old.client new.client
    pub hands : HandsAt cache.cache (shelf_of old) (shelf_of new) (shard_in cache.cache key)
        old.client new.client
