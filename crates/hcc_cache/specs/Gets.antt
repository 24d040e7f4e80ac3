-- What the reading of a key's value leaves of a client and of the buffer.
use Rattle.std.specs.Prelude.{◌≡◌, ℕ, Bool, false, List}
use Rattle.hcc_core.specs.declared.slot.Entry.{Entry}
use Rattle.hcc_core.specs.Lawful.{is_in}
use Rattle.hcc_rule.specs.declared.key.Key.{Key}
use Rattle.hcc_rule.specs.Words.{key_of}
use Rattle.hcc_table.specs.declared.optimistic.Got.{Got}
use Rattle.hcc_table.specs.declared.optimistic.Got.TheVariants.{Hit, Miss, Short}
use Rattle.hcc_table.specs.Readings.{CopiesOut}
use Rattle.hcc_table.specs.Searched.{Sought}
use Rattle.hcc_shard.specs.Gets.{Gets}
use Rattle.hcc_cache.specs.declared.cache.Cache.{Cache}
use Rattle.hcc_cache.specs.declared.client.Client.{Client}
use Rattle.hcc_cache.specs.Calls.{AllHeldDead, AtShard, Works, shard_in}
use Rattle.hcc_cache.specs.Clients.{view_at}
use Rattle.hcc_cache.specs.Keys.{fits_seeded, key_from}
use Rattle.hcc_cache.specs.Sharding.{key_to}

-- It searched this shard and no other, and holds there what it held.
pub record SeeksAt {T : Type 0} (number : ℕ) (old new : Client T) : Type 0 where
  pub works : Works number old new (view_at number old) (view_at number new)
  pub sought : Sought (view_at number old) (view_at number new)

module _ {T : Type 0} (cache : Cache T) (fits : T → Key → List ℕ → Type 0) (key : Key) where
  -- The value of one entry of the key was read, which fits it, and which the client hadn't seen
  -- erased. Where the buffer has room for it, it is there.
  pub record ReadsOne (got : Got) (before after : List ℕ) (old : Client T) : Type 0 where
    pub entry : Entry
    pub asked : key_from cache.seed (key_of entry) ≡ key
    pub right : fits cache.tag key entry.value
    pub alive : is_in entry.stamp (view_at (shard_in cache key) old).work.dead ≡ false
    pub copies : CopiesOut got entry.value before after

  -- What was read, by the answer. After a miss each entry of the key that the client holds is dead
  -- to it.
  abbrev pub GetsFor : Got → (before after : List ℕ) → (old new : Client T) → Type 0
  GetsFor Miss before after old new = (after ≡ before) × AllHeldDead cache key old new
  GetsFor (Hit count) before after old new = ReadsOne (Hit count) before after old
  GetsFor (Short count) before after old new = ReadsOne (Short count) before after old

  -- what the key's shard did: what loads alone read there, or, where they were given up, what was
  -- found at each probe, what was read, and how the reference was given back
  abbrev pub GetsAt : (useful : Bool) → Got → (before after : List ℕ) → (old new : Client T)
      → Type 0
  GetsAt useful got before after old new =
      AtShard cache (λ shard was is. Gets (fits_seeded fits) shard (key_to cache.seed key) useful
      got before after was is) (shard_in cache key) old new
