-- Clients of a cache of objects: what holds of one between any two of its calls, and its list.
use Rattle.std.specs.Prelude.{◌≡◌, ℕ, ◌+◌, ◌-◌, ◌*◌, ◌/◌, ◌%◌, ◌^◌, ◌≤◌, ◌++◌, ◌∷◌, [], Bool, List, Option, Some, length, take, if◌then◌else◌}
use Rattle.std.specs.Int.{from_le_bytes, to_le_bytes}
use mir.Syntax.{w64}
use Rattle.slab.specs.Slab.{get, slab_len}
use Rattle.hcc_rule.specs.declared.key.Key.{Key}
use Rattle.hcc_table.specs.declared.lists.Freed.{Freed}
use Rattle.hcc_table.specs.Lists.{Shelf}
use Rattle.hcc_word.specs.declared.objects.TheConstants.{ADDRESS_BITS}
use Rattle.hcc_cache.specs.declared.client.Client.{Client}
use Rattle.hcc_cache.specs.declared.gone.Objects.{Objects}
use Rattle.hcc_cache.specs.declared.handle.Handle.{Handle}
use Rattle.hcc_cache.specs.declared.holding.Alone.{Alone}
use Rattle.hcc_cache.specs.declared.holding.Hold.{Hold}
use Rattle.hcc_cache.specs.declared.holding.Kept.{Kept}
use Rattle.hcc_cache.specs.declared.holding.Kept.TheVariants.{Pinned, Standing}
use Rattle.hcc_cache.specs.declared.objects.Object.{Object}
use Rattle.hcc_cache.specs.declared.object_cache.ObjectCache.{ObjectCache}
use Rattle.hcc_cache.specs.declared.object_cache.ObjectClient.{ObjectClient}
use Rattle.hcc_cache.specs.Alones.{IsObject, bytes_of}
use Rattle.hcc_cache.specs.Calls.{HandsAt}
use Rattle.hcc_cache.specs.Clients.{hold_of}
use Rattle.hcc_cache.specs.Known.{Knows}
use Rattle.hcc_cache.specs.Sharding.{key_to}

-- the word of an object, and the object of a word
abbrev pub object_word : Object → ℕ
object_word o = o.kind * 2 ^ ADDRESS_BITS + o.address

abbrev pub object_of : ℕ → Object
object_of word = record { address = word % 2 ^ ADDRESS_BITS; kind = word / 2 ^ ADDRESS_BITS }

-- what a slot has as its value
abbrev pub object_bytes : Object → List ℕ
object_bytes o = to_le_bytes w64 (object_word o)

-- a client as the cache of bytes below knows it
abbrev pub client_of : ObjectClient → Client Objects
client_of client = client.client

-- what is on a client's list, the oldest first
abbrev pub gone_of : ObjectClient → List Freed
gone_of client = take client.gone.count client.gone.places.items

-- the list as calls that free see it
abbrev pub shelf_of : ObjectClient → Option Shelf
shelf_of client = Some (record {
  freed = gone_of client;
  most = client.gone.most;
  places = length client.gone.places.items;
})

-- how many places are left on it, and how many entries of the client stand alone
abbrev pub places_left : ObjectClient → ℕ
places_left client = length client.gone.places.items - client.gone.count

abbrev pub alone_of : ObjectClient → ℕ
alone_of client = slab_len client.client.alone

-- The client is one that this cache was made with. Beside what calls may put on its list there is a
-- place for each handle, and each of its standalone entries has one that is free.
pub record KnowsObjects (cache : ObjectCache) (client : ObjectClient) : Type 0 where
  pub known : Knows cache.cache client.client
  pub sized : cache.cache.geometry.room ≡ 1
  pub places : client.gone.most + client.client.most ≤ length client.gone.places.items
  pub room : alone_of client ≤ places_left client
  pub objects : (index : ℕ) (a : Alone) → get client.client.alone index ≡ Some a
      → IsObject a.value

-- A value of a cache of objects is a word.
abbrev pub is_word : Objects → Key → List ℕ → Type 0
is_word tag key value = length value ≡ 8

-- A standalone entry of this key, as a list has it.
abbrev pub alone_freed : (seed : ℕ) → Key → Alone → Freed
alone_freed seed key entry = record {
  key = key_to seed key;
  word = from_le_bytes w64 (bytes_of entry.value);
}

-- What a release put on the client's list, by what its handle was on: of an entry of the table what
-- the client took in its shard; one that stood alone where it went with its last handle.
abbrev pub HandsOf : ObjectCache → Hold → (freed : Bool) → Kept → (old new : ObjectClient) → Type 0
HandsOf cache hold freed (Pinned slot counting) old new =
    HandsAt cache.cache (shelf_of old) (shelf_of new) hold.shard old.client new.client
HandsOf cache hold freed (Standing index) old new =
    (entry : Alone) × (get old.client.alone index ≡ Some entry)
    × (gone_of new ≡ (if freed then gone_of old ++ alone_freed cache.cache.seed hold.key entry ∷ []
    else gone_of old))

abbrev pub HandsBack : ObjectCache → Handle → (freed : Bool) → (old new : ObjectClient) → Type 0
HandsBack cache handle freed old new =
    (hold : Hold) → hold_of old.client handle ≡ Some hold
    → HandsOf cache hold freed hold.kept old new
