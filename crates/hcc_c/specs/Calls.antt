-- What each call of a client comes to: what it answers, and what it leaves of the session.
use Rattle.std.specs.Prelude.{◌≡◌, ℕ, ◌+◌, ◌-◌, ◌*◌, ◌/◌, ◌<◌, ◌≤◌, ◌++◌, ◌↔◌, Bool, true, false, List, Option, Some, Result, Ok, Err, IfOk, IfErr, IfSome, IfNone, OnOk, OnErr, IsOk, IsErrOf, MatchResult, None, drop, length, min, option_map, slice_get}
use Rattle.std.specs.Arc.{arc_value}
use Rattle.hcc_core.specs.declared.limits.TheConstants.{OCCUPANCY_PERCENT}
use Rattle.hcc_rule.specs.declared.key.Key.{Key}
use Rattle.hcc_rule.specs.Looked.{Backs, after_look}
use Rattle.hcc_rule.specs.ToldTrails.{passed_held}
use Rattle.hcc_rule.specs.Words.{words_for}
use Rattle.hcc_table.specs.Steps.{freeing}
use Rattle.hcc_table.specs.declared.optimistic.Got.{Got}
use Rattle.hcc_shard.specs.Callers.{LoadsDisplacement, LoadsWord}
use Rattle.hcc_shard.specs.Counted.{stats_of as counts_of}
use Rattle.hcc_shard.specs.Inserted.{inserting, inserting_between}
use Rattle.hcc_cache.specs.declared.errors.CopyError.{CopyError}
use Rattle.hcc_cache.specs.declared.errors.CopyError.TheVariants as copy
use Rattle.hcc_cache.specs.declared.errors.InsertError.{InsertError}
use Rattle.hcc_cache.specs.declared.errors.InsertError.TheVariants as insert
use Rattle.hcc_cache.specs.declared.errors.LookupError.{LookupError}
use Rattle.hcc_cache.specs.declared.errors.LookupError.TheVariants as look
use Rattle.hcc_cache.specs.declared.handle.Handle.{Handle}
use Rattle.hcc_cache.specs.declared.inserting.Inserted.{Inserted}
use Rattle.hcc_cache.specs.declared.inserting.Inserted.TheVariants.{Placed}
use Rattle.hcc_cache.specs.declared.priority.Priority.{Priority}
use Rattle.hcc_cache.specs.declared.walking.HeldEntry.{HeldEntry}
use Rattle.hcc_cache.specs.Alones.{AreAlone}
use Rattle.hcc_cache.specs.Calls.{AcquiresFor, AtShard, CountsAt, CountsBy, CountsNone, Erases, ErasesFor, Finds, GivesUp, KeepsAll, Misses, OnlyAt, Reads, Releases, Rerefs, SearchesFor, TakesAtMost, TakesFor, Works, shard_in}
use Rattle.hcc_cache.specs.Clients.{Holds, held_by, held_of, view_at}
use Rattle.hcc_cache.specs.Gets.{GetsAt, GetsFor, SeeksAt}
use Rattle.hcc_cache.specs.Inserts.{Inserts, InsertsAt, InsertsPinnedAt, InsertsWith, RefusesCopy, RefusesCopyAt}
use Rattle.hcc_cache.specs.Moments.{KnowsShown}
use Rattle.hcc_cache.specs.Stays.{ReleasesIn, Stays, StaysWhereStanding}
use Rattle.hcc_cache.specs.Totals.{CountsEach, LoadsEachOccupancy, LoadsEachUsage, LoadsUsages, SearchesAll, charge_by, entries_by, made_by, taken_by}
use Rattle.hcc_table.specs.Readings.{part_in, words_across}
use Rattle.hcc_cache.specs.Walked.{HoldsEntryAt, IsSlotIn, PassesAt}
use Rattle.hcc_c.specs.declared.inserting.Unfit.{Unfit}
use Rattle.hcc_c.specs.declared.session.Session.{Session}
use Rattle.hcc_c.specs.declared.shapes.Counts.{Counts}
use Rattle.hcc_c.specs.declared.shapes.CHandle.{CHandle}
use Rattle.hcc_c.specs.declared.shapes.CHeldEntry.{CHeldEntry}
use Rattle.hcc_c.specs.declared.shapes.CPart.{CPart}
use Rattle.hcc_c.specs.declared.shapes.Stats.{Stats}
use Rattle.hcc_c.specs.Counts.{counted_get, counted_insert, counted_look, counted_pinned}
use Rattle.hcc_c.specs.Sessions.{IsHandle, IsNone, any, handle_in, judged}
use Rattle.hcc_c.specs.Shapes.{c_handle_of, c_held_entry_of, stats_of}

-- Nothing of the session changed but its client.
abbrev pub KeepsRest : (old new : Session) → Type 0
KeepsRest old new = new ≡ record old { client = new.client }

-- Nor did anything else change but these counts.
abbrev pub KeepsCounting : Counts → (old new : Session) → Type 0
KeepsCounting counts old new = new ≡ record old { client = new.client; counts = counts }

-- A look-up for a key.
pub record LooksUp (key : Key) (answer : Result (Option CHandle) LookupError) (old new : Session)
    : Type 0 where
  pub full : IsErrOf answer look.HandlesFull ↔ (held_by old.client ≡ old.client.most)
  pub spent : IsErrOf answer look.Spent
      ↔ ((held_by old.client < old.client.most) × (old.client.left ≡ 0))
  pub refused : OnErr answer (new ≡ old)
  pub found : IfOk answer (λ o. IfSome o (λ c_handle. (handle : Handle)
      × Finds (arc_value old.cache) any key handle old.client new.client
      × (c_handle ≡ c_handle_of old.cache_number handle)))
  pub missed : IfOk answer (λ o. IfNone o (Misses (arc_value old.cache) key old.client
      new.client))
  pub searched : IfOk answer (λ o. SearchesFor (arc_value old.cache) any key
      (option_map handle_in o) old.client new.client)
  pub stays : Stays (arc_value old.cache) old.client new.client
  pub counts : IfOk answer (λ _. CountsAt (shard_in (arc_value old.cache) key)
      old.client new.client)
  pub visits : IfOk answer (λ _. TakesFor (arc_value old.cache) 7 (λ v w. 0)
      (shard_in (arc_value old.cache) key) old.client new.client)
  pub rest : KeepsCounting (counted_look answer old.counts) old new
  pub steps : TakesAtMost (7 * (arc_value old.cache).geometry.slots) old.client new.client

-- The entry of a slot of a shard is held, where it is visible; none is where there is no such slot.
pub record PinsAt (shard slot : ℕ) (answer : Result (Option CHeldEntry) LookupError)
    (old new : Session) : Type 0 where
  pub outside : ¬ IsSlotIn (arc_value old.cache) shard slot
      → (answer ≡ Ok None) × (new.client ≡ old.client)
  pub full : IsErrOf answer look.HandlesFull
      ↔ (IsSlotIn (arc_value old.cache) shard slot × (held_by old.client ≡ old.client.most))
  pub spent : IsErrOf answer look.Spent
      ↔ (IsSlotIn (arc_value old.cache) shard slot × (held_by old.client < old.client.most)
      × (old.client.left ≡ 0))
  pub refused : OnErr answer (new ≡ old)
  pub held : IfOk answer (λ o. IfSome o (λ told. (held : HeldEntry)
      × HoldsEntryAt (arc_value old.cache) any shard slot held old.client new.client
      × (told ≡ c_held_entry_of old.cache_number held)))
  pub passed : IfOk answer (λ o. IfNone o (IsSlotIn (arc_value old.cache) shard slot
      → PassesAt (arc_value old.cache) any shard slot false old.client new.client))
  pub stays : Stays (arc_value old.cache) old.client new.client
  pub counts : IfOk answer (λ _. IsSlotIn (arc_value old.cache) shard slot
      → CountsAt shard old.client new.client)
  pub rest : KeepsRest old new
  pub steps : TakesAtMost 7 old.client new.client

-- One handle more on the entry of the handle of these parts; none where it is that of none.
pub record RefersAgain (c_handle : CHandle) (answer : Option (Result CHandle LookupError))
    (old new : Session) : Type 0 where
  pub none : IfNone answer (IsNone old c_handle × (new ≡ old))
  pub some : IfSome answer (λ _. (handle : Handle) × IsHandle old c_handle handle)
  pub full : IfSome answer (λ a. IsErrOf a look.HandlesFull
      ↔ (held_by old.client ≡ old.client.most))
  pub spent : IfSome answer (λ a. IsErrOf a look.Spent
      ↔ ((held_by old.client < old.client.most) × (old.client.left ≡ 0)))
  pub refused : IfSome answer (λ a. OnErr a (new ≡ old))
  pub again : IfSome answer (λ a. IfOk a (λ more. (was : Handle) × (handle : Handle)
      × IsHandle old c_handle was
      × Rerefs (arc_value old.cache) was handle old.client new.client
      × (more ≡ c_handle_of old.cache_number handle)))
  pub acquires : IfSome answer (λ a. IfOk a (λ _.
      AcquiresFor (arc_value old.cache) (handle_in c_handle) old.client new.client))
  pub stays : IfSome answer (λ _. Stays (arc_value old.cache) old.client new.client)
  pub counts : IfSome answer (λ a. IfOk a (λ _.
      CountsBy (handle_in c_handle) old.client new.client))
  pub rest : KeepsRest old new
  pub steps : TakesAtMost 2 old.client new.client

-- The handle of these parts is given back; none where it is that of none.
pub record GivesBack (c_handle : CHandle) (useful erase : Bool) (answer : Option Bool)
    (old new : Session) : Type 0 where
  pub none : IfNone answer (IsNone old c_handle × (new ≡ old))
  pub released : IfSome answer (λ freed. (handle : Handle) × IsHandle old c_handle handle
      × Releases (arc_value old.cache) handle erase freed old.client new.client
      × GivesUp (arc_value old.cache) handle useful erase freed old.client new.client)
  pub by : IfSome answer (λ freed. ReleasesIn (arc_value old.cache) (handle_in c_handle) useful
      erase freed old.client new.client)
  pub stays : IfSome answer (λ freed. freed ≡ false
      → Stays (arc_value old.cache) old.client new.client)
  pub standing : IfSome answer (λ _. StaysWhereStanding (arc_value old.cache)
      (handle_in c_handle) old.client new.client)
  pub counts : IfSome answer (λ _. CountsBy (handle_in c_handle) old.client new.client)
  pub rest : KeepsRest old new
  pub steps : TakesAtMost (freeing (arc_value old.cache).geometry.slots + 3)
      old.client new.client

-- The handle at an index is told, by its numbers; none where the client holds none there.
pub record TellsHandle (index : ℕ) (answer : Option CHandle) (session : Session) : Type 0 where
  pub some : IfSome answer (λ c_handle. (c_handle.index ≡ index)
      × (handle : Handle) × IsHandle session c_handle handle)
  pub none : IfNone answer
      ((handle : Handle) → handle.index ≡ index → ¬ Holds session.client handle)

-- Each visible entry of a key is hidden.
pub record Hides (key : Key) (hidden : ℕ) (old new : Session) : Type 0 where
  pub erased : Erases (arc_value old.cache) key hidden old.client new.client
  pub searched : ErasesFor (arc_value old.cache) any key hidden old.client new.client
  pub counts : CountsAt (shard_in (arc_value old.cache) key) old.client new.client
  pub frees : TakesFor (arc_value old.cache) 9
      (λ v w. ((arc_value old.cache).geometry.slots + 4) * (w.takings - v.takings) + 2)
      (shard_in (arc_value old.cache) key) old.client new.client
  pub rest : KeepsRest old new
  pub steps : TakesAtMost ((freeing (arc_value old.cache).geometry.slots + 9)
      * (arc_value old.cache).geometry.slots + 2) old.client new.client

module _ (key : Key) (charge : ℕ) (priority : Priority) (value : List ℕ) where
  -- whether the cache is asked for this entry
  abbrev pub judged_by : Session → Result (Unit {0}) Unfit
  judged_by session =
      judged (8 * (arc_value session.cache).geometry.room) (length value) charge

  -- how many steps an insertion takes at most, and so many more
  abbrev pub InsertsWithin : (more : ℕ) → (old new : Session) → Type 0
  InsertsWithin more old new = TakesAtMost (inserting (arc_value old.cache).geometry.slots
      (arc_value old.cache).geometry.room + more) old.client new.client

  -- and how many for what it visits and frees, where it isn't refused at once
  abbrev pub InsertsFor : (old new : Session) → Type 0
  InsertsFor old new = 0 < old.client.left
      → ((arc_value old.cache).strict ≡ true → charge ≤ (arc_value old.cache).capacity)
      → TakesFor (arc_value old.cache) 7
      (inserting_between (arc_value old.cache).geometry.slots
      (arc_value old.cache).geometry.room)
      (shard_in (arc_value old.cache) key) old.client new.client

  -- An insertion without a handle.
  pub record Puts (answer : Result (Result Inserted InsertError) Unfit) (old new : Session)
      : Type 0 where
    pub unfit : IfErr (judged_by old) (λ why. (answer ≡ Err why) × (new ≡ old))
    pub fit : OnOk (judged_by old) (IsOk answer)
    pub spent : IfOk answer (λ a. IsErrOf a insert.Spent ↔ (old.client.left ≡ 0))
    pub large : IfOk answer (λ a. IsErrOf a insert.TooLarge
        ↔ ((0 < old.client.left) × ((arc_value old.cache).strict ≡ true)
        × ((arc_value old.cache).capacity < charge)))
    pub inserted : IfOk answer (λ a.
        Inserts (arc_value old.cache) key charge priority value a old.client new.client)
    pub evicts : IfOk answer (λ a.
        InsertsAt (arc_value old.cache) any key charge priority a old.client new.client)
    pub shown : IfOk answer (λ a. (arc_value old.cache).geometry.clients ≡ 1
        → a ≡ Ok Placed → KnowsShown (arc_value old.cache) key new.client)
    pub others : IfOk answer (λ _. OnlyAt (shard_in (arc_value old.cache) key)
        old.client new.client)
    pub frees : IfOk answer (λ _. InsertsFor old new)
    pub rest : KeepsCounting (counted_insert answer old.counts) old new
    pub steps : InsertsWithin 0 old new

  -- An insertion with a handle. Memory for a copy is refused last.
  pub record PutsPinned (answer : Result (Result (CHandle × Inserted) CopyError) Unfit)
      (old new : Session) : Type 0 where
    pub unfit : IfErr (judged_by old) (λ why. (answer ≡ Err why) × (new ≡ old))
    pub fit : OnOk (judged_by old) (IsOk answer)
    pub full : IfOk answer (λ a. IsErrOf a (copy.Refused insert.HandlesFull)
        ↔ (held_by old.client ≡ old.client.most))
    pub spent : IfOk answer (λ a. IsErrOf a (copy.Refused insert.Spent)
        ↔ ((held_by old.client < old.client.most) × (old.client.left ≡ 0)))
    pub large : IfOk answer (λ a. IsErrOf a (copy.Refused insert.TooLarge)
        ↔ ((held_by old.client < old.client.most) × (0 < old.client.left)
        × ((arc_value old.cache).strict ≡ true)
        × ((arc_value old.cache).capacity < charge)))
    pub inserted : IfOk answer (λ a. MatchResult a
        (λ made. (handle : Handle)
        × InsertsWith (arc_value old.cache) key charge priority value handle made.1
        old.client new.client
        × (made.0 ≡ c_handle_of old.cache_number handle))
        (λ why. RefusesCopy (arc_value old.cache) key charge priority value why
        old.client new.client))
    pub evicts : IfOk answer (λ a. MatchResult a
        (λ made. InsertsPinnedAt (arc_value old.cache) any key charge priority made.1
        old.client new.client)
        (λ why. RefusesCopyAt (arc_value old.cache) any key charge priority why
        old.client new.client))
    pub shown : IfOk answer (λ a. (arc_value old.cache).geometry.clients ≡ 1
        → IfOk a (λ made. made.1 ≡ Placed
        → KnowsShown (arc_value old.cache) key new.client))
    pub others : IfOk answer (λ _. OnlyAt (shard_in (arc_value old.cache) key)
        old.client new.client)
    pub frees : IfOk answer (λ a. held_by old.client < old.client.most
        → ¬ IsErrOf a copy.OutOfMemory → InsertsFor old new)
    pub rest : KeepsCounting (counted_pinned answer old.counts) old new
    pub held : IfOk answer (λ a. ¬ IsErrOf a copy.OutOfMemory → InsertsWithin 0 old new)
    pub steps : InsertsWithin 2 old new

-- The key of the handle of these parts is told; none where it is that of none.
pub record TellsKey (c_handle : CHandle) (answer : Option Key) (old new : Session) : Type 0 where
  pub none : IfNone answer (IsNone old c_handle)
  pub exact : IfSome answer (λ key. (handle : Handle) × IsHandle old c_handle handle
      × IfSome (held_of (arc_value old.cache) old.client handle) (λ held.
      key ≡ held.insertion.key))
  pub same : new ≡ old

-- And the length of its value.
pub record TellsLength (c_handle : CHandle) (answer : Option ℕ) (old new : Session) : Type 0 where
  pub none : IfNone answer (IsNone old c_handle × (new ≡ old))
  pub exact : IfSome answer (λ len. (handle : Handle) × IsHandle old c_handle handle
      × IfSome (held_of (arc_value old.cache) old.client handle) (λ held.
      len ≡ length held.insertion.value))
  pub reads : IfSome answer (λ _. Reads (arc_value old.cache) old.client new.client)
  pub stays : IfSome answer (λ _. Stays (arc_value old.cache) old.client new.client)
  pub rest : KeepsRest old new
  pub steps : TakesAtMost 1 old.client new.client

-- The value itself is copied to the front of a buffer, if it isn't longer.
pub record ReadsValue (c_handle : CHandle) (answer : Option (Result ℕ ℕ)) (before after : List ℕ)
    (old new : Session) : Type 0 where
  pub none : IfNone answer (IsNone old c_handle × (new ≡ old) × (after ≡ before))
  pub read : IfSome answer (λ a. IfOk a (λ len. (handle : Handle) × IsHandle old c_handle handle
      × IfSome (held_of (arc_value old.cache) old.client handle) (λ held.
      (len ≡ length held.insertion.value)
      × (after ≡ held.insertion.value ++ drop len before))))
  pub short : IfSome answer (λ a. IfErr a (λ len. (handle : Handle)
      × IsHandle old c_handle handle
      × IfSome (held_of (arc_value old.cache) old.client handle) (λ held.
      len ≡ length held.insertion.value)
      × (length before < len) × (after ≡ before)))
  pub reads : IfSome answer (λ _. Reads (arc_value old.cache) old.client new.client)
  pub stays : IfSome answer (λ _. Stays (arc_value old.cache) old.client new.client)
  pub rest : KeepsRest old new
  pub steps : IfSome answer (λ a. IfOk a (λ len.
      TakesAtMost (words_for len + 1) old.client new.client))
  pub few : IfSome answer (λ a. IfErr a (λ len. TakesAtMost 1 old.client new.client))

-- Bytes of a value are copied to the front of a buffer, from an offset on; none where the handle is
-- that of none.
pub record ReadsPart (c_handle : CHandle) (offset : ℕ) (answer : Option CPart)
    (before after : List ℕ) (old new : Session) : Type 0 where
  pub none : IfNone answer (IsNone old c_handle × (new ≡ old) × (after ≡ before))
  pub given : IfSome answer (λ part.
      part.given ≡ min (part.length - offset) (length before))
  pub read : IfSome answer (λ part. (handle : Handle) × IsHandle old c_handle handle
      × IfSome (held_of (arc_value old.cache) old.client handle) (λ held.
      (part.length ≡ length held.insertion.value)
      × (after ≡ part_in offset part.given held.insertion.value before)))
  pub reads : IfSome answer (λ _. Reads (arc_value old.cache) old.client new.client)
  pub stays : IfSome answer (λ _. Stays (arc_value old.cache) old.client new.client)
  pub rest : KeepsRest old new
  pub steps : IfSome answer (λ part.
      TakesAtMost (words_across offset part.given + 1) old.client new.client)

-- The value of a key is copied to the front of a buffer, if it isn't longer, with no handle.
pub record GetsValue (key : Key) (useful : Bool) (answer : Got) (before after : List ℕ)
    (old new : Session) : Type 0 where
  pub got : GetsFor (arc_value old.cache) any key answer before after old.client new.client
  pub gets : GetsAt (arc_value old.cache) any key useful answer before after old.client new.client
  pub keeps : KeepsAll (arc_value old.cache) old.client new.client
  pub seeks : SeeksAt (shard_in (arc_value old.cache) key) old.client new.client
  pub stays : Stays (arc_value old.cache) old.client new.client
  pub counts : CountsAt (shard_in (arc_value old.cache) key) old.client new.client
  pub rest : KeepsCounting (counted_get answer old.counts) old new
  pub steps : TakesFor (arc_value old.cache) 7
      (λ v w. 4 * (arc_value old.cache).geometry.slots
      + (2 * (arc_value old.cache).geometry.room + 8))
      (shard_in (arc_value old.cache) key) old.client new.client

-- What is charged in all shards.
pub record TellsUsage (usage : ℕ) (old new : Session) : Type 0 where
  pub keeps : KeepsAll (arc_value old.cache) old.client new.client
  pub views : LoadsUsages old.client new.client
  pub loads : LoadsEachUsage (arc_value old.cache) usage old.client new.client
  pub entries : charge_by old.client ≤ usage
  pub strict : (arc_value old.cache).strict ≡ true
      → usage ≤ old.shards * (arc_value old.cache).capacity
  pub counts : CountsNone old.client new.client
  pub standing : AreAlone old.client new.client
  pub rest : KeepsRest old new
  pub steps : TakesAtMost old.shards old.client new.client

-- What is charged for entries that are held, and for standalone ones.
pub record TellsPinned (usage : ℕ) (old new : Session) : Type 0 where
  pub keeps : KeepsAll (arc_value old.cache) old.client new.client
  pub views : SearchesAll old.client new.client
  pub entries : charge_by old.client ≤ usage
  pub alone : (arc_value old.cache).geometry.clients ≡ 1 → usage ≡ charge_by old.client
  pub loads : CountsEach (arc_value old.cache) any usage old.client new.client
  pub stays : Stays (arc_value old.cache) old.client new.client
  pub standing : AreAlone old.client new.client
  pub rest : KeepsRest old new
  pub steps : TakesAtMost (old.shards * (5 * old.slots + 1)) old.client new.client

-- How many entries all shards have.
pub record TellsOccupancy (occupancy : ℕ) (old new : Session) : Type 0 where
  pub reads : Reads (arc_value old.cache) old.client new.client
  pub entries : entries_by old.client ≤ occupancy
  pub alone : (arc_value old.cache).geometry.clients ≡ 1
      → occupancy + taken_by old.client ≡ made_by old.client
  pub high : occupancy ≤ old.shards * ((arc_value old.cache).geometry.slots
      * OCCUPANCY_PERCENT / 100 + (arc_value old.cache).geometry.clients)
  pub loads : LoadsEachOccupancy (arc_value old.cache) occupancy old.client new.client
  pub standing : AreAlone old.client new.client
  pub rest : KeepsRest old new
  pub steps : TakesAtMost old.shards old.client new.client

module _ (shard slot : ℕ) where
  -- the cache has this shard, and the shard this slot
  abbrev pub IsInRange : Session → Type 0
  IsInRange session = (shard < session.shards) × (slot < session.slots)

  -- The meta word of a slot; none where there is no such slot.
  pub record TellsWord (answer : Option ℕ) (old new : Session) : Type 0 where
    pub none : IfNone answer ((¬ IsInRange old) × (new ≡ old))
    pub range : IfSome answer (λ _. IsInRange old)
    pub keeps : KeepsAll (arc_value old.cache) old.client new.client
    pub view : IfSome answer (λ word. Works shard old.client new.client
        (view_at shard old.client) (after_look slot word (view_at shard old.client)))
    pub backs : IfSome answer (λ word. Backs slot word (view_at shard old.client))
    pub loads : IfSome answer (λ word. AtShard (arc_value old.cache)
        (λ there was is. LoadsWord there slot word was is) shard old.client new.client)
    pub stays : IfSome answer (λ _. Stays (arc_value old.cache) old.client new.client)
    pub counts : CountsNone old.client new.client
    pub rest : KeepsRest old new
    pub steps : TakesAtMost 1 old.client new.client

  -- How often a slot stands in trails; none where there is no such slot.
  pub record TellsDisplacement (answer : Option ℕ) (old new : Session) : Type 0 where
    pub none : IfNone answer ((¬ IsInRange old) × (new ≡ old))
    pub range : IfSome answer (λ _. IsInRange old)
    pub reads : IfSome answer (λ _. Reads (arc_value old.cache) old.client new.client)
    pub entries : IfSome answer (λ count. passed_held (arc_value old.cache).geometry.slots slot
        (view_at shard old.client).records ≤ count)
    pub loads : IfSome answer (λ count. AtShard (arc_value old.cache)
        (λ there was is. LoadsDisplacement there slot count was is) shard
        old.client new.client)
    pub stays : IfSome answer (λ _. Stays (arc_value old.cache) old.client new.client)
    pub rest : KeepsRest old new
    pub steps : TakesAtMost 1 old.client new.client

-- What the client's calls did on the shard where a key belongs.
abbrev pub TellsStats : Key → Stats → Session → Type 0
TellsStats key answer session = (seat : _)
    × (slice_get session.client.seats.items (shard_in (arc_value session.cache) key) ≡ Some seat)
    × (answer ≡ stats_of (counts_of seat))
