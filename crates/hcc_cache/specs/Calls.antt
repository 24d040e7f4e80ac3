-- What each call leaves of a client.
use Rattle.std.specs.Prelude.{◌≡◌, ℕ, ◌+◌, ◌*◌, ◌≤◌, ◌++◌, ◌&&◌, Bool, true, false, List, [], ◌∷◌, Option, Some, None, IsSome, find, is_some, length, slice_get, vec_capacity}
use Rattle.std.specs.declared.alloc.Global.{Global}
use Rattle.hcc_core.specs.declared.slot.Entry.{Entry}
use Rattle.hcc_core.specs.Lawful.{is_in}
use Rattle.hcc_core.specs.Ledgers.{is_standing}
use Rattle.hcc_core.specs.Sums.{total}
use Rattle.hcc_rule.specs.declared.key.Key.{Key}
use Rattle.hcc_rule.specs.declared.view.Record.{Record}
use Rattle.hcc_rule.specs.declared.view.View.{View}
use Rattle.hcc_rule.specs.Words.{key_of}
use Rattle.hcc_table.specs.declared.pins.Pin.{Pin}
use Rattle.hcc_table.specs.Rises.{Rose}
use Rattle.hcc_table.specs.Searched.{AllDead, IsFound, IsMissed, Searched}
use Rattle.hcc_charge.specs.Settled.{fallen}
use Rattle.hcc_shard.specs.declared.seat.ShardSeat.{ShardSeat}
use Rattle.hcc_shard.specs.declared.shard.Shard.{Shard}
use Rattle.hcc_shard.specs.declared.seat.Stats.{Stats}
use Rattle.hcc_table.specs.Lists.{Hands, Shelf}
use Rattle.hcc_shard.specs.Callers.{AcquiresAt, ErasesAt, GivesBackAt, SearchesAt, steps_of, view_of}
use Rattle.hcc_shard.specs.Counted.{SameEvictions, stats_of}
use Rattle.hcc_shard.specs.Referred.{IsErasedAll, IsReleased}
use Rattle.hcc_shard.specs.Stays.{SeeksAt as ReadsOn}
use Rattle.hcc_cache.specs.declared.cache.Cache.{Cache}
use Rattle.hcc_cache.specs.declared.client.Client.{Client}
use Rattle.hcc_cache.specs.declared.handle.Handle.{Handle}
use Rattle.hcc_cache.specs.declared.holding.Hold.{Hold}
use Rattle.hcc_cache.specs.declared.holding.Kept.{Kept}
use Rattle.hcc_cache.specs.declared.holding.Kept.TheVariants.{Pinned, Standing}
use Rattle.hcc_cache.specs.declared.seeded.Seeded.{Seeded}
use Rattle.hcc_cache.specs.Clients.{Held, held_by, held_entry, held_of, hold_of, view_at}
use Rattle.hcc_cache.specs.Keys.{fits_seeded, key_from}
use Rattle.hcc_cache.specs.Sharding.{key_to, shard_of}

-- The capacities of a client's lists: of its seats, its handles and its standalone entries.
pub record Capacities : Type 0 where
  pub seats : ℕ
  pub handles : ℕ
  pub alone : ℕ

-- the counts of a seat, if there is one
abbrev pub counts_by : {T : Type 0} → Option (ShardSeat T) → Option Stats
counts_by None = None
counts_by (Some seat) = Some (stats_of seat)

module _ {T : Type 0} where
  -- how many atomic steps the client made, at all shards
  abbrev pub steps_by : Client T → ℕ
  steps_by client = total steps_of client.seats.items

  -- at most so many more
  abbrev pub TakesAtMost : (most : ℕ) → (old new : Client T) → Type 0
  TakesAtMost most old new = steps_by new ≤ steps_by old + most

  -- one serial was used, or none
  abbrev pub UsesOne : (old new : Client T) → Type 0
  UsesOne old new = (new.used ≡ old.used + 1) × (new.left + 1 ≡ old.left)

  abbrev pub UsesNone : (old new : Client T) → Type 0
  UsesNone old new = (new.used ≡ old.used) × (new.left ≡ old.left)

  abbrev pub capacities_of : Client T → Capacities
  capacities_of client = record {
    seats = vec_capacity client.seats;
    handles = client.handles.capacity;
    alone = client.alone.capacity;
  }

  -- The client keeps its number, how many handles it may hold, and the capacity of each of its
  -- lists: none of them took memory.
  abbrev pub IsSelf : (old new : Client T) → Type 0
  IsSelf old new =
      (new.number ≡ old.number) × (new.most ≡ old.most)
      × (capacities_of new ≡ capacities_of old)

  -- It worked at this shard alone: what it knew of it is the first view, and what it knows the
  -- second. Of the others it knows what it knew.
  pub record Works (shard : ℕ) (old new : Client T) (v w : View (Seeded T)) : Type 0 where
    pub before : view_at shard old ≡ v
    pub after : view_at shard new ≡ w
    pub others : (s : ℕ) → ¬ (s ≡ shard) → view_at s new ≡ view_at s old
    pub self : IsSelf old new

  -- no count rose at any shard
  abbrev pub CountsNone : (old new : Client T) → Type 0
  CountsNone old new =
      (s : ℕ) → counts_by (slice_get new.seats.items s) ≡ counts_by (slice_get old.seats.items s)

  -- no seat changed but the one at the shard of this number
  abbrev pub OnlyAt : (number : ℕ) → (old new : Client T) → Type 0
  OnlyAt number old new =
      (s : ℕ) → ¬ (s ≡ number) → slice_get new.seats.items s ≡ slice_get old.seats.items s

  -- Its seat at the shard of this number did this, and no other seat changed.
  pub record DoesAt (Did : (old new : ShardSeat (Seeded T)) → Type 0) (number : ℕ)
      (old new : Client T) : Type 0 where
    pub was : ShardSeat (Seeded T)
    pub is : ShardSeat (Seeded T)
    pub seat_was : slice_get old.seats.items number ≡ Some was
    pub seat_is : slice_get new.seats.items number ≡ Some is
    pub did : Did was is
    pub others : OnlyAt number old new

  -- No count rose but, at this shard, those of probes, corrections and lost exchanges.
  abbrev pub CountsAt : (number : ℕ) → (old new : Client T) → Type 0
  CountsAt = DoesAt SameEvictions

  -- What a call counts by what a handle is on: of a standalone entry nothing.
  abbrev pub CountsOf : (shard : ℕ) → Kept → (old new : Client T) → Type 0
  CountsOf shard (Pinned slot counting) = CountsAt shard
  CountsOf shard (Standing index) = CountsNone

  abbrev pub CountsBy : Handle → (old new : Client T) → Type 0
  CountsBy handle old new =
      (hold : Hold) → hold_of old handle ≡ Some hold → CountsOf hold.shard hold.kept old new

  -- it knows what it knew of all shards, and no count rose
  pub record Rests (old new : Client T) : Type 0 where
    pub all : (s : ℕ) → view_at s new ≡ view_at s old
    pub self : IsSelf old new
    pub counts : CountsNone old new

module _ {T : Type 0} (cache : Cache T) where
  -- the number of a key's shard
  abbrev pub shard_in : Key → ℕ
  shard_in key = shard_of (key_to cache.seed key) (length cache.shards.items)

  -- What the client's seat at the shard of this number was and is, and what it did there.
  pub record AtShard (Did : Shard (Seeded T) Global → (old new : ShardSeat (Seeded T)) → Type 0)
      (number : ℕ) (old new : Client T) : Type 0 where
    pub shard : Shard (Seeded T) Global
    pub was : ShardSeat (Seeded T)
    pub is : ShardSeat (Seeded T)
    pub shard_is : slice_get cache.shards.items number ≡ Some shard
    pub seat_was : slice_get old.seats.items number ≡ Some was
    pub seat_is : slice_get new.seats.items number ≡ Some is
    pub did : Did shard was is

  -- The client visited so many slots of a shard, which its seat there counts, and made at most so
  -- many steps at each of them, and so many more, by what it knew of the shard and knows.
  pub record TakesFor (each : ℕ) (more : (v w : View (Seeded T)) → ℕ) (number : ℕ)
      (old new : Client T) : Type 0 where
    pub visited : ℕ
    pub within : visited ≤ cache.geometry.slots
    pub counted : AtShard (λ shard was is.
        Rose visited visited was.effort.probes is.effort.probes) number old new
    pub steps : steps_by new
        ≤ steps_by old + (each * visited + more (view_at number old) (view_at number new))

  -- The key was looked for in its shard, under the client's next serial: what was found at each
  -- probe, where this handle was given or none.
  abbrev pub SearchesFor : (fits : T → Key → List ℕ → Type 0) → Key → Option Handle
      → (old new : Client T) → Type 0
  SearchesFor fits key found old new =
      AtShard (λ shard was is. (pin : Option Pin) × (is_some pin ≡ is_some found)
      × SearchesAt (fits_seeded fits) shard (key_to cache.seed key) old.used pin was is)
      (shard_in key) old new

  -- So it was, and then some words were read of what was found.
  abbrev pub SearchesReadingFor : (fits : T → Key → List ℕ → Type 0) → Key → Option Handle
      → (old new : Client T) → Type 0
  SearchesReadingFor fits key found old new =
      AtShard (λ shard was is. (pin : Option Pin) × (looked : ShardSeat (Seeded T))
      × (is_some pin ≡ is_some found)
      × SearchesAt (fits_seeded fits) shard (key_to cache.seed key) old.used pin was looked
      × ReadsOn shard looked is × (view_of is ≡ view_of looked)) (shard_in key) old new

  -- The key was erased in its shard: what was found and hidden at each probe, so many in all, where
  -- the list of what is freed has room in the end, or not.
  abbrev pub ErasesListed : (fits : T → Key → List ℕ → Type 0) → Key → (room : Bool)
      → (hidden : ℕ) → (old new : Client T) → Type 0
  ErasesListed fits key room hidden old new =
      AtShard (λ shard was is. ErasesAt (fits_seeded fits) shard (key_to cache.seed key) room hidden
      was is) (shard_in key) old new

  -- the same where nothing is put on a list
  abbrev pub ErasesFor : (fits : T → Key → List ℕ → Type 0) → Key → (hidden : ℕ)
      → (old new : Client T) → Type 0
  ErasesFor fits key hidden old new = ErasesListed fits key true hidden old new

  -- What the client took in a shard was put on the list, in order.
  abbrev pub HandsAt : (s t : Option Shelf) → (number : ℕ) → (old new : Client T) → Type 0
  HandsAt s t number old new =
      AtShard (λ shard was is. Hands s t (view_of was) (view_of is)) number old new

  -- Handles other than this one stand for what they stood for.
  abbrev pub KeepsBut : Handle → (old new : Client T) → Type 0
  KeepsBut handle old new =
      (h : Handle) → ¬ (h ≡ handle) → held_of cache new h ≡ held_of cache old h

  -- All handles stand for what they stood for, and are as many.
  pub record KeepsAll (old new : Client T) : Type 0 where
    pub all : (h : Handle) → held_of cache new h ≡ held_of cache old h
    pub count : held_by new ≡ held_by old
    pub serials : UsesNone old new

  -- There is one handle more, which was none before: it has the client's number and its next
  -- serial, which no handle had. It stands for this, and uses that serial.
  pub record Gains (handle : Handle) (held : Held) (old new : Client T) : Type 0 where
    pub client : handle.client ≡ old.number
    pub serial : handle.serial ≡ old.used
    pub free : hold_of old handle ≡ None
    pub stands : held_of cache new handle ≡ Some held
    pub others : KeepsBut handle old new
    pub count : held_by new ≡ held_by old + 1
    pub serials : UsesOne old new

  -- This handle is gone, and no other.
  pub record Loses (handle : Handle) (old new : Client T) : Type 0 where
    pub gone : hold_of new handle ≡ None
    pub others : KeepsBut handle old new
    pub count : held_by new + 1 ≡ held_by old
    pub serials : UsesNone old new

  -- A look-up found a visible entry of the key, which the client hadn't seen dead, and whose value
  -- fits it: the handle is on it. The record of it joined the client's.
  pub record Finds (fits : T → Key → List ℕ → Type 0) (key : Key) (handle : Handle)
      (old new : Client T) : Type 0 where
    pub found : Record
    pub v : View (Seeded T)
    pub w : View (Seeded T)
    pub works : Works (shard_in key) old new v w
    pub finds : IsFound (fits_seeded fits) cache.geometry.room found.slot handle.serial
        (key_to cache.seed key) v w found
    pub asked : key_from cache.seed (key_of found.entry) ≡ key
    pub right : fits cache.tag key found.entry.value
    pub gains : Gains handle (held_entry cache.seed found.entry) old new

  -- Each entry of this key in the table that a handle stood for is dead to the client.
  abbrev pub AllHeldDead : Key → (old new : Client T) → Type 0
  AllHeldDead key old new =
      (h : Handle) (held : Held) (e : Entry) → held_of cache old h ≡ Some held
      → held.insertion.key ≡ key → held.entry ≡ Some e
      → is_in e.stamp (view_at (shard_in key) new).work.dead ≡ true

  -- It found none: the client holds what it held, and each entry of the key that it holds is dead
  -- to it.
  pub record Misses (key : Key) (old new : Client T) : Type 0 where
    pub v : View (Seeded T)
    pub w : View (Seeded T)
    pub works : Works (shard_in key) old new v w
    pub misses : IsMissed (key_to cache.seed key) v w
    pub held_dead : AllHeldDead key old new
    pub keeps : KeepsAll old new

  -- The record that another handle on the same adds: one on that entry of the table, or none where
  -- it is a standalone one.
  abbrev pub AddsOn : (serial : ℕ) → (entry : Option Entry) → List Record → Type 0
  AddsOn serial None added = added ≡ []
  AddsOn serial (Some e) added =
      (r : Record) × (added ≡ r ∷ []) × (r.entry ≡ e) × (r.name ≡ serial) × (r.weight ≡ 1)

  -- There is one handle more on the very same entry.
  pub record Rerefs (handle more : Handle) (old new : Client T) : Type 0 where
    pub held : Held
    pub was : held_of cache old handle ≡ Some held
    pub shard : ℕ
    pub v : View (Seeded T)
    pub w : View (Seeded T)
    pub works : Works shard old new v w
    pub searched : Searched v w
    pub added : List Record
    pub adds : AddsOn more.serial held.entry added
    pub records : w.records ≡ v.records ++ added
    pub gains : Gains more held old new

  -- A reference was acquired for it at the slot of an entry of the table: how the counts rose.
  abbrev pub AcquiresFor : Handle → (old new : Client T) → Type 0
  AcquiresFor handle old new =
      (hold : Hold) (slot : ℕ) (counting : Bool) → hold_of old handle ≡ Some hold
      → hold.kept ≡ Pinned slot counting
      → AtShard (λ shard was is. (counts : Bool) × AcquiresAt shard slot counts was is)
      hold.shard old new

  -- what a release leaves of a view: of an entry of the table, or of a standalone one of this name,
  -- which goes with its last handle: it stood there, and stands no more
  abbrev pub ReleasedOf : (serial : ℕ) → (erase freed : Bool) → (standing : Option ℕ)
      → View (Seeded T) → View (Seeded T) → Type 0
  ReleasedOf serial erase freed None v w = IsReleased serial erase freed v w
  ReleasedOf serial erase true (Some name) v w =
      IsSome (find (is_standing name) v.work.standalones) × (w ≡ fallen name v)
  ReleasedOf serial erase false (Some name) v w = w ≡ v

  -- The handle was given back.
  pub record Releases (handle : Handle) (erase freed : Bool) (old new : Client T) : Type 0 where
    pub held : Held
    pub was : held_of cache old handle ≡ Some held
    pub shard : ℕ
    pub v : View (Seeded T)
    pub w : View (Seeded T)
    pub works : Works shard old new v w
    pub released : ReleasedOf handle.serial erase freed held.standing v w
    pub loses : Loses handle old new

  -- The client gave a reference at this slot of this shard back, as a use or not, where the list of
  -- what is freed had room or not.
  pub record GivesBackIn (shard slot : ℕ) (room used erase freed : Bool) (old new : Client T)
      : Type 0 where
    pub there : Shard (Seeded T) _
    pub was : ShardSeat (Seeded T)
    pub is : ShardSeat (Seeded T)
    pub shard_is : slice_get cache.shards.items shard ≡ Some there
    pub before : slice_get old.seats.items shard ≡ Some was
    pub later : slice_get new.seats.items shard ≡ Some is
    pub gives : GivesBackAt there slot room used erase freed was is

  -- The reference of a handle on an entry of the table was given back at the entry's slot: as a use
  -- only where the release was useful and the reference counts.
  abbrev pub GivesUpWith : (room : Bool) → Handle → (useful erase freed : Bool)
      → (old new : Client T) → Type 0
  GivesUpWith room handle useful erase freed old new =
      (hold : Hold) (slot : ℕ) (counting : Bool) → hold_of old handle ≡ Some hold
      → hold.kept ≡ Pinned slot counting
      → GivesBackIn hold.shard slot room (useful && counting) erase freed old new

  -- the same, where nobody keeps what is freed
  abbrev pub GivesUp : Handle → (useful erase freed : Bool) → (old new : Client T) → Type 0
  GivesUp handle useful erase freed old new =
      GivesUpWith true handle useful erase freed old new

  -- The client read what it holds.
  pub record Reads (old new : Client T) : Type 0 where
    pub rests : Rests old new
    pub keeps : KeepsAll old new

  -- So many visible entries of the key were hidden, and each that the client holds is dead to it.
  pub record Erases (key : Key) (hidden : ℕ) (old new : Client T) : Type 0 where
    pub v : View (Seeded T)
    pub w : View (Seeded T)
    pub works : Works (shard_in key) old new v w
    pub erases : IsErasedAll (key_to cache.seed key) hidden v w
    pub dead : AllDead (key_to cache.seed key) v w
    pub held_dead : AllHeldDead key old new
    pub keeps : KeepsAll old new
