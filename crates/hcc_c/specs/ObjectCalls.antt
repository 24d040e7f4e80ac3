-- What each call of a client of a cache of objects comes to: what it answers, and what it leaves of
-- the session.
use Rattle.std.specs.Prelude.{◌≡◌, ℕ, ◌+◌, ◌*◌, ◌/◌, ◌<◌, ◌≤◌, ◌^◌, ◌++◌, ◌∷◌, [], ◌↔◌, Bool, false, true, Option, Result, Err, IfOk, IfErr, IfSome, IfNone, None, Some, Ok, OnOk, OnErr, IsOk, IsErrOf, MatchResult, is_some, length, slice_get}
use Rattle.std.specs.Arc.{arc_value}
use Rattle.hcc_word.specs.declared.objects.TheConstants.{ADDRESS_BITS}
use Rattle.hcc_core.specs.declared.limits.TheConstants.{OCCUPANCY_PERCENT}
use Rattle.hcc_rule.specs.declared.key.Key.{Key}
use Rattle.hcc_table.specs.declared.lists.Freed.{Freed}
use Rattle.hcc_table.specs.AtSlots.{takes_one}
use Rattle.hcc_table.specs.Lists.{has_room}
use Rattle.hcc_table.specs.Steps.{freeing}
use Rattle.hcc_shard.specs.Counted.{stats_of as counts_of}
use Rattle.hcc_shard.specs.Inserted.{inserting_listed}
use Rattle.hcc_cache.specs.declared.errors.LookupError.{LookupError}
use Rattle.hcc_cache.specs.declared.errors.LookupError.TheVariants as look
use Rattle.hcc_cache.specs.declared.errors.ObjectError.{ObjectError}
use Rattle.hcc_cache.specs.declared.errors.ObjectError.TheVariants as refusal
use Rattle.hcc_cache.specs.declared.handle.Handle.{Handle}
use Rattle.hcc_cache.specs.declared.object_inserting.Placing.{Placing}
use Rattle.hcc_cache.specs.declared.object_walking.HeldObject.{HeldObject}
use Rattle.hcc_cache.specs.declared.objects.Object.{Object}
use Rattle.hcc_cache.specs.declared.priority.Priority.{Priority}
use Rattle.hcc_cache.specs.Calls.{CountsAt, CountsNone, Erases, ErasesListed, Finds, GivesUpWith, HandsAt, KeepsAll, Misses, Reads, Releases, Rerefs, SearchesReadingFor, TakesAtMost, shard_in}
use Rattle.hcc_cache.specs.Clients.{held_by, held_of}
use Rattle.hcc_cache.specs.Keys.{key_from}
use Rattle.hcc_cache.specs.ObjectInserts.{FailsObject, InsertsObject, MayInsert, MayStand, PinsObject, answer_as, is_full, placed_as, refused_as}
use Rattle.hcc_cache.specs.Objects.{HandsBack, alone_of, gone_of, is_word, object_bytes, object_of, places_left, shelf_of}
use Rattle.hcc_cache.specs.Stays.{ReleasesWith, Stays, StaysWhereStanding}
use Rattle.hcc_cache.specs.Totals.{CountsEach, LoadsEachOccupancy, LoadsEachUsage, LoadsUsages, SearchesAll, charge_by, entries_by, made_by, taken_by}
use Rattle.hcc_cache.specs.Walked.{HoldsAt, IsSlotIn, PassesAt}
use Rattle.hcc_c.specs.declared.inserting.Unfit.{Unfit}
use Rattle.hcc_c.specs.declared.object_session.ObjectSession.{ObjectSession}
use Rattle.hcc_c.specs.declared.object_shapes.CHeldObject.{CHeldObject}
use Rattle.hcc_c.specs.declared.shapes.Counts.{Counts}
use Rattle.hcc_c.specs.declared.shapes.CHandle.{CHandle}
use Rattle.hcc_c.specs.declared.shapes.Stats.{Stats}
use Rattle.hcc_c.specs.ObjectCounts.{counted_look, counted_pinned, counted_put}
use Rattle.hcc_c.specs.ObjectSessions.{IsHandle, IsNone, below, client_in, judged}
use Rattle.hcc_c.specs.ObjectShapes.{c_held_of, object_of as object_in}
use Rattle.hcc_c.specs.Shapes.{c_handle_of, stats_of, words_of}

-- Nothing of the session changed but its client, and the counts are these.
abbrev pub Keeps : Counts → (old new : ObjectSession) → Type 0
Keeps counts old new = new ≡ record old { client = new.client; counts = counts }

-- as many atomic steps at most
abbrev pub Within : ℕ → (old new : ObjectSession) → Type 0
Within steps old new = TakesAtMost steps (client_in old) (client_in new)

-- A look-up for a key, which gives the object of what it found.
pub record LooksUp (key : Key) (answer : Result (Option (CHandle × Object)) LookupError)
    (old new : ObjectSession) : Type 0 where
  pub full : IsErrOf answer look.HandlesFull
      ↔ (held_by (client_in old) ≡ (client_in old).most)
  pub spent : IsErrOf answer look.Spent
      ↔ ((held_by (client_in old) < (client_in old).most) × ((client_in old).left ≡ 0))
  pub refused : OnErr answer (new ≡ old)
  pub found : IfOk answer (λ o. IfSome o (λ found. (handle : Handle)
      × (finds : Finds (below old) is_word key handle (client_in old) (client_in new))
      × (finds.found.entry.value ≡ object_bytes found.1)
      × (found.0 ≡ c_handle_of old.cache_number handle)))
  pub missed : IfOk answer (λ o. IfNone o
      (Misses (below old) key (client_in old) (client_in new)))
  pub searched : IfOk answer (λ o. (handle : Option Handle) × (is_some handle ≡ is_some o)
      × SearchesReadingFor (below old) is_word key handle (client_in old) (client_in new))
  pub stays : Stays (below old) (client_in old) (client_in new)
  pub counts : IfOk answer (λ _. CountsAt (shard_in (below old) key) (client_in old)
      (client_in new))
  pub list : new.client.gone ≡ old.client.gone
  pub rest : Keeps (counted_look answer old.counts) old new
  pub steps : Within (7 * (below old).geometry.slots + 1) old new

-- The entry of a slot of a shard is held, where it is visible; none is where there is no such slot.
pub record PinsAt (shard slot : ℕ) (answer : Result (Option CHeldObject) LookupError)
    (old new : ObjectSession) : Type 0 where
  pub outside : ¬ IsSlotIn (below old) shard slot
      → (answer ≡ Ok None) × (new.client ≡ old.client)
  pub full : IsErrOf answer look.HandlesFull
      ↔ (IsSlotIn (below old) shard slot × (held_by (client_in old) ≡ (client_in old).most))
  pub spent : IsErrOf answer look.Spent
      ↔ (IsSlotIn (below old) shard slot × (held_by (client_in old) < (client_in old).most)
      × ((client_in old).left ≡ 0))
  pub refused : OnErr answer (new ≡ old)
  pub held : IfOk answer (λ o. IfSome o (λ told. (held : HeldObject)
      × HoldsAt (below old) shard slot held (client_in old) (client_in new)
      × (told ≡ c_held_of old.cache_number held)))
  pub passed : IfOk answer (λ o. IfNone o (IsSlotIn (below old) shard slot
      → PassesAt (below old) is_word shard slot (takes_one (shelf_of old.client))
      (client_in old) (client_in new)))
  pub list : IfOk answer (λ _. IsSlotIn (below old) shard slot
      → HandsAt (below old) (shelf_of old.client) (shelf_of new.client) shard (client_in old)
      (client_in new))
  pub counts : IfOk answer (λ _. IsSlotIn (below old) shard slot
      → CountsAt shard (client_in old) (client_in new))
  pub rest : Keeps old.counts old new
  pub steps : Within (freeing (below old).geometry.slots + 4) old new

-- One handle more on the entry of the handle of these numbers; none where it is that of none.
pub record RefersAgain (c_handle : CHandle) (answer : Option (Result CHandle LookupError))
    (old new : ObjectSession) : Type 0 where
  pub none : IfNone answer (IsNone old c_handle × (new ≡ old))
  pub some : IfSome answer (λ _. (handle : Handle) × IsHandle old c_handle handle)
  pub full : IfSome answer (λ a. IsErrOf a look.HandlesFull
      ↔ (held_by (client_in old) ≡ (client_in old).most))
  pub spent : IfSome answer (λ a. IsErrOf a look.Spent
      ↔ ((held_by (client_in old) < (client_in old).most) × ((client_in old).left ≡ 0)))
  pub refused : IfSome answer (λ a. OnErr a (new ≡ old))
  pub again : IfSome answer (λ a. IfOk a (λ more. (was : Handle) × (handle : Handle)
      × IsHandle old c_handle was
      × Rerefs (below old) was handle (client_in old) (client_in new)
      × (more ≡ c_handle_of old.cache_number handle)))
  pub stays : IfSome answer (λ _. Stays (below old) (client_in old) (client_in new))
  pub list : new.client.gone ≡ old.client.gone
  pub rest : Keeps old.counts old new
  pub steps : Within 2 old new

-- The handle of these numbers is given back; none where it is that of none. What is freed is on the
-- client's list.
pub record GivesBack (c_handle : CHandle) (useful erase : Bool) (answer : Option Bool)
    (old new : ObjectSession) : Type 0 where
  pub none : IfNone answer (IsNone old c_handle × (new ≡ old))
  pub released : IfSome answer (λ freed. (handle : Handle) × IsHandle old c_handle handle
      × Releases (below old) handle erase freed (client_in old) (client_in new)
      × HandsBack (arc_value old.cache) handle freed old.client new.client
      × GivesUpWith (below old) (has_room 1 (shelf_of old.client)) handle useful erase freed
      (client_in old) (client_in new)
      × ReleasesWith (below old) (has_room 1 (shelf_of old.client)) handle useful erase freed
      (client_in old) (client_in new)
      × StaysWhereStanding (below old) handle (client_in old) (client_in new))
  pub stays : IfSome answer (λ freed. freed ≡ false
      → Stays (below old) (client_in old) (client_in new))
  pub rest : IfSome answer (λ _. Keeps old.counts old new)
  pub steps : Within (freeing (below old).geometry.slots + 4) old new

-- Each visible entry of a key is hidden. What is freed is on the client's list.
pub record Hides (key : Key) (hidden : ℕ) (old new : ObjectSession) : Type 0 where
  pub erased : Erases (below old) key hidden (client_in old) (client_in new)
  pub list : HandsAt (below old) (shelf_of old.client) (shelf_of new.client)
      (shard_in (below old) key) (client_in old) (client_in new)
  pub searched : ErasesListed (below old) is_word key (has_room 1 (shelf_of new.client)) hidden
      (client_in old) (client_in new)
  pub counts : CountsAt (shard_in (below old) key) (client_in old) (client_in new)
  pub rest : Keeps old.counts old new
  pub steps : Within ((freeing (below old).geometry.slots + 10) * (below old).geometry.slots + 2)
      old new

-- The newest object is taken off the client's list; none where nothing is on it.
pub record TakesGone (answer : Option (Key × Object)) (old new : ObjectSession) : Type 0 where
  pub some : IfSome answer (λ gone. (freed : Freed)
      × (gone_of old.client ≡ gone_of new.client ++ freed ∷ [])
      × (gone.0 ≡ key_from (below old).seed freed.key)
      × (gone.1 ≡ object_of freed.word))
  pub none : IfNone answer ((gone_of old.client ≡ []) × (new.client ≡ old.client))
  pub same : client_in new ≡ client_in old
  pub rest : Keeps old.counts old new

-- The key of the handle of these numbers is told; none where it is that of none.
pub record TellsKey (c_handle : CHandle) (answer : Option Key) (session : ObjectSession)
    : Type 0 where
  pub none : IfNone answer (IsNone session c_handle)
  pub exact : IfSome answer (λ key. (handle : Handle) × IsHandle session c_handle handle
      × IfSome (held_of (below session) (client_in session) handle) (λ held.
      key ≡ held.insertion.key))

-- And its charge.
pub record TellsCharge (c_handle : CHandle) (answer : Option ℕ) (old new : ObjectSession)
    : Type 0 where
  pub none : IfNone answer (IsNone old c_handle × (new ≡ old))
  pub exact : IfSome answer (λ charge. (handle : Handle) × IsHandle old c_handle handle
      × IfSome (held_of (below old) (client_in old) handle) (λ held.
      charge ≡ held.insertion.charge))
  pub reads : IfSome answer (λ _. Reads (below old) (client_in old) (client_in new))
  pub stays : IfSome answer (λ _. Stays (below old) (client_in old) (client_in new))
  pub list : new.client.gone ≡ old.client.gone
  pub rest : Keeps old.counts old new
  pub steps : Within 1 old new

-- what a look-up answers, of what is held by it
abbrev pub found_of : Result (Option CHeldObject) LookupError
    → Result (Option (CHandle × Object)) LookupError
found_of (Ok None) = Ok None
found_of (Ok (Some held)) = Ok (Some (held.handle, object_in held.object))
found_of (Err why) = Err why

-- A look-up for a key, and then what is charged for what it found.
pub record Charges (key : Key) (answer : Result (Option CHeldObject) LookupError)
    (old new : ObjectSession) : Type 0 where
  pub between : ObjectSession
  pub looks : LooksUp key (found_of answer) old between
  pub words : IfOk answer (λ o. IfSome o (λ held. held.key ≡ words_of key))
  pub charge : IfOk answer (λ o. IfSome o (λ held.
      TellsCharge held.handle (Some held.charge) between new))
  pub none : IfOk answer (λ o. IfNone o (new ≡ between))
  pub refused : OnErr answer (new ≡ between)

-- how many shards there are
abbrev pub shards_in : ObjectSession → ℕ
shards_in session = length (below session).shards.items

-- What is charged in all shards.
pub record TellsUsage (usage : ℕ) (old new : ObjectSession) : Type 0 where
  pub keeps : KeepsAll (below old) (client_in old) (client_in new)
  pub views : LoadsUsages (client_in old) (client_in new)
  pub loads : LoadsEachUsage (below old) usage (client_in old) (client_in new)
  pub entries : charge_by (client_in old) ≤ usage
  pub strict : (below old).strict ≡ true → usage ≤ shards_in old * (below old).capacity
  pub counts : CountsNone (client_in old) (client_in new)
  pub list : new.client.gone ≡ old.client.gone
  pub rest : Keeps old.counts old new
  pub steps : Within (shards_in old) old new

-- What is charged for entries that are held, and for standalone ones.
pub record TellsPinned (usage : ℕ) (old new : ObjectSession) : Type 0 where
  pub keeps : KeepsAll (below old) (client_in old) (client_in new)
  pub views : SearchesAll (client_in old) (client_in new)
  pub entries : charge_by (client_in old) ≤ usage
  pub alone : (below old).geometry.clients ≡ 1 → usage ≡ charge_by (client_in old)
  pub loads : CountsEach (below old) is_word usage (client_in old) (client_in new)
  pub stays : Stays (below old) (client_in old) (client_in new)
  pub list : new.client.gone ≡ old.client.gone
  pub rest : Keeps old.counts old new
  pub steps : Within (shards_in old * (5 * (below old).geometry.slots + 1)) old new

-- How many entries all shards have.
pub record TellsOccupancy (occupancy : ℕ) (old new : ObjectSession) : Type 0 where
  pub reads : Reads (below old) (client_in old) (client_in new)
  pub entries : entries_by (client_in old) ≤ occupancy
  pub alone : (below old).geometry.clients ≡ 1
      → occupancy + taken_by (client_in old) ≡ made_by (client_in old)
  pub high : occupancy ≤ shards_in old * ((below old).geometry.slots
      * OCCUPANCY_PERCENT / 100 + (below old).geometry.clients)
  pub loads : LoadsEachOccupancy (below old) occupancy (client_in old) (client_in new)
  pub list : new.client.gone ≡ old.client.gone
  pub rest : Keeps old.counts old new
  pub steps : Within (shards_in old) old new

module _ (key : Key) (object : Object) (charge : ℕ) (priority : Priority) where
  -- how many steps an insertion takes at most
  abbrev pub InsertsWithin : (old new : ObjectSession) → Type 0
  InsertsWithin old new =
      Within (inserting_listed (below old).geometry.slots (below old).geometry.room 1) old new

  -- An insertion without a handle.
  pub record Puts (answer : Result (Result Placing ObjectError) Unfit) (old new : ObjectSession)
      : Type 0 where
    pub unfit : IfErr (judged charge) (λ why. (answer ≡ Err why) × (new ≡ old))
    pub fit : OnOk (judged charge) (IsOk answer)
    pub spent : IfOk answer (λ a. IsErrOf a refusal.Spent ↔ ((client_in old).left ≡ 0))
    pub high : IfOk answer (λ a. IsErrOf a refusal.TooHigh
        ↔ ((0 < (client_in old).left) × (2 ^ ADDRESS_BITS ≤ object.address)))
    pub large : IfOk answer (λ a. IsErrOf a refusal.TooLarge
        ↔ ((0 < (client_in old).left) × (object.address < 2 ^ ADDRESS_BITS)
        × ((below old).strict ≡ true) × ((below old).capacity < charge)))
    pub early : ¬ ((0 < (client_in old).left) × MayInsert (arc_value old.cache) object charge)
        → new.client ≡ old.client
    pub inserted : IfOk answer (λ a. 0 < (client_in old).left
        → MayInsert (arc_value old.cache) object charge
        → (told : _) × (a ≡ answer_as (is_full new.client) told)
        × InsertsObject (arc_value old.cache) key object charge priority old.client new.client
        told)
    pub rest : IfOk answer (λ _. Keeps (counted_put answer old.counts) old new)
    pub steps : InsertsWithin old new

  -- An insertion with a handle.
  pub record PutsPinned (answer : Result (Result (CHandle × Placing) ObjectError) Unfit)
      (old new : ObjectSession) : Type 0 where
    pub unfit : IfErr (judged charge) (λ why. (answer ≡ Err why) × (new ≡ old))
    pub fit : OnOk (judged charge) (IsOk answer)
    pub full : IfOk answer (λ a. IsErrOf a refusal.HandlesFull
        ↔ (held_by (client_in old) ≡ (client_in old).most))
    pub spent : IfOk answer (λ a. IsErrOf a refusal.Spent
        ↔ ((held_by (client_in old) < (client_in old).most) × ((client_in old).left ≡ 0)))
    pub gone : IfOk answer (λ a. IsErrOf a refusal.GoneFull
        ↔ ((held_by (client_in old) < (client_in old).most) × (0 < (client_in old).left)
        × (places_left old.client ≡ alone_of old.client)))
    pub high : IfOk answer (λ a. IsErrOf a refusal.TooHigh
        ↔ (MayStand old.client × (2 ^ ADDRESS_BITS ≤ object.address)))
    pub large : IfOk answer (λ a. IsErrOf a refusal.TooLarge
        ↔ (MayStand old.client × (object.address < 2 ^ ADDRESS_BITS)
        × ((below old).strict ≡ true) × ((below old).capacity < charge)))
    pub early : ¬ (MayStand old.client × MayInsert (arc_value old.cache) object charge)
        → new.client ≡ old.client
    pub inserted : IfOk answer (λ a. MayStand old.client
        → MayInsert (arc_value old.cache) object charge → MatchResult a
        (λ made. (handle : Handle) × (told : _)
        × (made.0 ≡ c_handle_of old.cache_number handle)
        × (made.1 ≡ placed_as (is_full new.client) told)
        × PinsObject (arc_value old.cache) key object charge priority old.client new.client
        handle told)
        (λ why. (told : _) × (why ≡ refused_as (is_full new.client) told)
        × FailsObject (arc_value old.cache) key object charge priority old.client new.client
        told))
    pub rest : IfOk answer (λ _. Keeps (counted_pinned answer old.counts) old new)
    pub steps : InsertsWithin old new

-- What the client's calls did on the shard where a key belongs.
abbrev pub TellsStats : Key → Stats → ObjectSession → Type 0
TellsStats key answer session = (seat : _)
    × (slice_get (client_in session).seats.items (shard_in (below session) key) ≡ Some seat)
    × (answer ≡ stats_of (counts_of seat))
