-- What a client of a cache learns by a chain of calls.
use Rattle.std.specs.Prelude.{◌≡◌, ◌≢◌, ◌⊎◌, ◌↔◌, ℕ, ◌*◌, ◌<◌, ◌≤◌, true, List, Option, None, Some, Result, IsNone, IsSome, length}
use Rattle.hcc_rule.specs.declared.key.Key.{Key}
use Rattle.hcc_rule.specs.Callers.{slots_of, world_at}
use Rattle.hcc_charge.specs.declared.reserving.Refused.{Refused}
use Rattle.hcc_table.specs.declared.optimistic.Got.{Got}
use Rattle.hcc_table.specs.Standing.{HidesShown, ShowsKey, shown_at}
use Rattle.hcc_shard.specs.declared.inserting.Inserted.{Inserted as Stored}
use Rattle.hcc_shard.specs.Gets.{GotLasting}
use Rattle.hcc_cache.specs.declared.cache.Cache.{Cache}
use Rattle.hcc_cache.specs.declared.client.Client.{Client}
use Rattle.hcc_cache.specs.declared.config.Config.{Config}
use Rattle.hcc_cache.specs.declared.handle.Handle.{Handle}
use Rattle.hcc_cache.specs.declared.priority.Priority.{Priority}
use Rattle.hcc_cache.specs.Calls.{ErasesFor, SearchesFor, shard_in}
use Rattle.hcc_cache.specs.Gets.{GetsAt}
use Rattle.hcc_cache.specs.Inserts.{StoresAt, draft_of}
use Rattle.hcc_cache.specs.Met.{MetAs, ShortAs}
use Rattle.hcc_cache.specs.Moments.{HoldsAsShown, KnowsHeld, KnowsShown}
use Rattle.hcc_cache.specs.Room.{KeepsAs, TurnsNone}
use Rattle.hcc_cache.specs.Sharding.{key_to}
use Rattle.hcc_cache.specs.Since.{GoesOnAt, IsHeldThrough, IsHiddenByOther, IsLostBehind, IsTakenBetween, IsTakenByOther, IsTakenSince, is_hide}
use Rattle.hcc_cache.specs.Undisturbed.{IsUndisturbed}
use Rattle.hcc_cache.specs.Within.{LacksWithin}

-- A new cache of this size has two clients, and a slot of it has room for such an entry.
pub record IsStorable {T : Type 0} (fits : T → Key → List ℕ → Type 0) (config : Config) (tag : T)
    (key : Key) (value : List ℕ) (charge : ℕ) : Type 0 where
  pub clients : 2 ≤ config.clients
  pub right : fits tag key value
  pub short : length value ≤ 8 * config.room
  pub paid : 0 < charge

-- What became of an entry of the key.
module _ {T : Type 0} (cache : Cache T) (key : Key) (client : Client T) where
  -- The client knew the key to be shown. Another client took that entry away since, and its slot
  -- doesn't show it.
  pub record IsLost : Type 0 where
    pub before : Client T
    pub same : client.number ≡ before.number
    pub knew : KnowsShown cache key before
    pub taken : IsTakenByOther cache key before client knew
    pub gone : shown_at (world_at knew.shard.table taken.goes.is.seat) knew.slot
        ≢ Some taken.since.entry

  -- The same, by a hide where somebody held a reference on the slot all the while.
  pub record IsLostOrHidden : Type 0 where
    pub lost : IsLost
    pub hidden : (g : GoesOnAt (shard_in cache key) lost.before client)
        → IsHeldThrough cache key lost.before lost.knew g.more
        → IsHiddenByOther cache key lost.before client lost.knew

  -- The client knew the key to be shown, and somebody took that entry away since.
  pub record IsTakenOnTheWay : Type 0 where
    pub before : Client T
    pub knew : KnowsShown cache key before
    pub goes : GoesOnAt (shard_in cache key) before client
    pub taken : IsTakenSince cache key before knew goes.more

  -- Another client, the giver, knew the key to be shown. The client was told of it, at one moment:
  -- by then somebody had taken that entry away, or another client took it away since.
  pub record IsLostOnTheWay (giver : Client T) : Type 0 where
    pub knew : KnowsShown cache key giver
    pub told : Client T
    pub goes : GoesOnAt (shard_in cache key) giver told
    pub lost : IsTakenSince cache key giver knew goes.more ⊎ IsLost

  -- Another client, the holder, found the key and held that until the end. By the time when the
  -- client was told of it, somebody had hidden the entry.
  pub record IsHiddenBefore (holder told : Client T) : Type 0 where
    pub name : ℕ
    pub knew : KnowsHeld cache key name holder
    pub goes : GoesOnAt (shard_in cache key) holder told
    pub taken : IsTakenSince cache key holder knew.shown goes.more
    pub hid : is_hide taken.taken.done.event ≡ true

  -- Or somebody took it away while the holder looked for it; or it was hidden while the client did.
  pub record IsHiddenFrom : Type 0 where
    pub before : Client T
    pub holder : Client T
    pub told : Client T
    pub how : IsLostBehind cache key before holder ⊎ IsHiddenBefore holder told
        ⊎ ((knew : KnowsShown cache key told) × IsHiddenByOther cache key told client knew)

  -- The client knew the key to be shown. It or another client took that entry away since, and its
  -- slot doesn't show it.
  pub record IsGone : Type 0 where
    pub before : Client T
    pub same : client.number ≡ before.number
    pub knew : KnowsShown cache key before
    pub taken : IsTakenBetween cache key before client knew

-- What the last call of a client did.
module _ {T : Type 0} (fits : T → Key → List ℕ → Type 0) (cache : Cache T) (key : Key)
    (client : Client T) where
  -- A look-up gave this handle: what the client holds under it is what its maker showed.
  pub record FoundAsShown (handle : Handle) : Type 0 where
    pub before : Client T
    pub did : SearchesFor cache fits key (Some handle) before client
    pub made : HoldsAsShown did.shard (key_to cache.seed key) before.used did.is

  -- A read by the key gave this, and turned what the buffer had into what it has. What was read was
  -- shown at a moment of the call; where nothing was, each slot lacked the key at one.
  pub record ReadOnce (got : Got) (had has : List ℕ) : Type 0 where
    pub before : Client T
    pub did : GetsAt cache fits key true got had has before client
    pub read : GotLasting did.shard (key_to cache.seed key) got had has did.was did.is

  -- An erasure hid so many: each slot of the shard lacked the key at a moment of the call.
  pub record ErasedOnce (hidden : ℕ) : Type 0 where
    pub before : Client T
    pub did : ErasesFor cache fits key hidden before client
    pub lacked : (slot : ℕ) → slot < slots_of did.shard.table
        → LacksWithin did.shard.table did.was.seat did.is.seat (key_to cache.seed key) slot

  -- A look-up gave this, of a key that the client knew to be shown. Where nobody else showed or
  -- took anything meanwhile, it found that; it misses exactly where no slot shows the key.
  pub record FoundInQuiet (found : Option Handle) : Type 0 where
    pub before : Client T
    pub same : client.number ≡ before.number
    pub did : SearchesFor cache fits key found before client
    pub there : IsUndisturbed before.number did.was.seat did.is.seat → IsSome found
    pub exact : IsUndisturbed before.number did.was.seat did.is.seat
        → IsNone found ↔ ((slot : ℕ) → slot < cache.geometry.slots
        → ¬ ShowsKey (world_at did.shard.table did.was.seat) (key_to cache.seed key) slot)

  -- An erasure hid so many. Where nobody else showed or took anything meanwhile, these are exactly
  -- those that were shown when it began, and each other slot shows what it showed.
  pub record ErasedInQuiet (hidden : ℕ) : Type 0 where
    pub before : Client T
    pub same : client.number ≡ before.number
    pub did : ErasesFor cache fits key hidden before client
    pub exact : IsUndisturbed before.number did.was.seat did.is.seat
        → HidesShown cache.geometry.slots (key_to cache.seed key) hidden
        (world_at did.shard.table did.was.seat) (world_at did.shard.table did.is.seat)

  -- An insertion ended so.
  module _ (charge : ℕ) (priority : Priority) (answer : Result Stored Refused) where
    -- This is what it met at the probes of its key, or where it found no room.
    pub record HasMet : Type 0 where
      pub before : Client T
      pub did : StoresAt cache fits key charge priority answer before client
      pub met : MetAs fits did.shard (draft_of cache key charge priority (λ c. None) before) true
          true answer did.was did.is did.did

    -- It turned the hand no further, or found no room.
    pub record HasTurned : Type 0 where
      pub before : Client T
      pub did : StoresAt cache fits key charge priority answer before client
      pub turned : TurnsNone did.was did.is
          ⊎ ShortAs fits did.shard (draft_of cache key charge priority (λ c. None) before) true
          true answer did.was did.is did.did

    -- Where nobody else showed or took anything meanwhile, and it turned the hand no further, each
    -- slot but that of the entry shows what it showed, and this other key is known to be shown.
    pub record KeptInQuiet (other : Key) : Type 0 where
      pub before : Client T
      pub same : client.number ≡ before.number
      pub did : StoresAt cache fits key charge priority answer before client
      pub keeps : IsUndisturbed before.number did.was.seat did.is.seat
          → TurnsNone did.was did.is
          → KeepsAs did.shard (draft_of cache key charge priority (λ c. None) before) fits answer
          did.was did.is did.did
      pub kept : IsUndisturbed before.number did.was.seat did.is.seat
          → TurnsNone did.was did.is → KnowsShown cache other client
