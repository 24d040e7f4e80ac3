-- What an insertion leaves of a client.
use Rattle.std.specs.Prelude.{◌≡◌, ℕ, Bool, List, Option, Some, None, Result, Ok, Err, true}
use Rattle.std.specs.declared.alloc.Global.{Global}
use Rattle.hcc_rule.specs.declared.key.Key.{Key}
use Rattle.hcc_rule.specs.declared.steps.shows.Draft.{Draft}
use Rattle.hcc_rule.specs.declared.view.View.{View}
use Rattle.hcc_rule.specs.Callers.{slots_of, world_at}
use Rattle.hcc_rule.specs.Seats.{SeatOf}
use Rattle.hcc_rule.specs.ToldOwners.{made_of, shown_entry}
use Rattle.hcc_table.specs.declared.efforts.Effort.{Effort}
use Rattle.hcc_table.specs.declared.inserting.Insertion.{Insertion}
use Rattle.hcc_table.specs.declared.inserting.Insertion.TheVariants as insertions
use Rattle.hcc_table.specs.declared.pins.Pin.{Pin}
use Rattle.hcc_table.specs.Standing.{InsertsShown}
use Rattle.hcc_charge.specs.declared.reserving.Refused.{Refused}
use Rattle.hcc_charge.specs.declared.reserving.Refused.TheVariants as refused
use Rattle.hcc_charge.specs.declared.reserving.Reservation.{Reservation}
use Rattle.hcc_charge.specs.Settled.{fallen}
use Rattle.hcc_charge.specs.declared.reserving.Reservation.TheVariants.{Reserved, NoPlace}
use Rattle.hcc_shard.specs.declared.inserting.Inserted.TheVariants as stored
use Rattle.hcc_shard.specs.declared.inserting.Inserted.{Inserted as Stored}
use Rattle.hcc_shard.specs.declared.inserting.Pinned.{Pinned}
use Rattle.hcc_shard.specs.declared.inserting.Pinned.TheVariants as pinned
use Rattle.hcc_shard.specs.Inserted.{InsertedBy, PinnedBy}
use Rattle.hcc_shard.specs.declared.seat.ShardSeat.{ShardSeat}
use Rattle.hcc_shard.specs.declared.shard.Shard.{Shard}
use Rattle.hcc_shard.specs.Reserving.{InsertedAs, PinnedAs, TriesWhere, left_out}
use Rattle.hcc_shard.specs.Counted.{SameCounts}
use Rattle.hcc_shard.specs.Stays.{StaysAt}
use Rattle.hcc_cache.specs.declared.cache.Cache.{Cache}
use Rattle.hcc_cache.specs.declared.client.Client.{Client}
use Rattle.hcc_cache.specs.declared.errors.CopyError.{CopyError}
use Rattle.hcc_cache.specs.declared.errors.CopyError.TheVariants as copies
use Rattle.hcc_cache.specs.declared.errors.InsertError.{InsertError}
use Rattle.hcc_cache.specs.declared.errors.InsertError.TheVariants.{HandlesFull, Spent, TooLarge, CapacityFull, OccupancyFull}
use Rattle.hcc_cache.specs.declared.handle.Handle.{Handle}
use Rattle.hcc_cache.specs.declared.inserting.Inserted.{Inserted}
use Rattle.hcc_cache.specs.declared.inserting.Inserted.TheVariants.{Placed, Dropped, Standalone}
use Rattle.hcc_cache.specs.declared.priority.Priority.{Priority}
use Rattle.hcc_cache.specs.declared.seeded.Seeded.{Seeded}
use Rattle.hcc_cache.specs.Calls.{AtShard, Gains, UsesOne, Works, shard_in}
use Rattle.hcc_cache.specs.Clients.{held_by, held_of}
use Rattle.hcc_cache.specs.Keys.{fits_seeded}
use Rattle.hcc_cache.specs.Sharding.{key_to}
use Rattle.hcc_cache.specs.Priorities.{countdown_of}

-- why a shard refuses, as the caller is told it
abbrev pub error_of : Refused → InsertError
error_of refused.TooLarge = TooLarge
error_of refused.CapacityFull = CapacityFull
error_of refused.OccupancyFull = OccupancyFull

-- it isn't one of those that come before anything was asked of a shard
abbrev pub IsLate : CopyError → Type 0
IsLate (copies.Refused why) =
    (¬ (why ≡ HandlesFull)) × (¬ (why ≡ Spent)) × (¬ (why ≡ TooLarge))
IsLate copies.OutOfMemory = Unit {0}

-- memory for a copy was refused
abbrev pub LacksMemory : {X V : Type 0} → Result X (CopyError × V) → Type 0
LacksMemory (Ok made) = ⊥
LacksMemory (Err e) = e.0 ≡ copies.OutOfMemory

-- what a shard answers, as the caller is told it
abbrev pub answer_of : Result Stored Refused → Result Inserted InsertError
answer_of (Ok stored.Placed) = Ok Placed
answer_of (Ok stored.Dropped) = Ok Dropped
answer_of (Err why) = Err (error_of why)

module _ {T : Type 0} (cache : Cache T) where
  -- All handles stand for what they stood for, and are as many. A serial was used.
  pub record KeepsHandles (old new : Client T) : Type 0 where
    pub all : (h : Handle) → held_of cache new h ≡ held_of cache old h
    pub count : held_by new ≡ held_by old
    pub serials : UsesOne old new

module _ {T : Type 0} (cache : Cache T) (key : Key) (charge : ℕ) (priority : Priority) where
  -- the entry that the shard is asked for, with the client's next serial
  abbrev pub draft_of : (named : Client T → Option ℕ) → Client T → Draft
  draft_of named client = record {
    key = key_to cache.seed key;
    charge = charge;
    serial = client.used;
    countdown = countdown_of priority;
    name = named client;
  }

  module _ (value : List ℕ) where
    -- The shard of the key was asked for an entry without a reference, and answered this. The list
    -- of what is freed had room for a turn of the hand before, and has behind it, or not.
    pub record StoresListed (had has : Bool) (answer : Result Stored Refused) (old new : Client T)
        : Type 0 where
      pub v : View (Seeded T)
      pub w : View (Seeded T)
      pub works : Works (shard_in cache key) old new v w
      pub told : InsertedBy had has cache.geometry.slots cache.capacity cache.strict
          (draft_of (λ c. None) old) value answer v w
      pub keeps : KeepsHandles cache old new

    -- What an insertion leaves, by its answer.
    abbrev pub InsertsListed : (had has : Bool) → Result Inserted InsertError
        → (old new : Client T) → Type 0
    InsertsListed had has (Ok Placed) old new = StoresListed had has (Ok stored.Placed) old new
    InsertsListed had has (Ok Dropped) old new = StoresListed had has (Ok stored.Dropped) old new
    InsertsListed had has (Ok Standalone) old new = ⊥
    InsertsListed had has (Err HandlesFull) old new = ⊥
    InsertsListed had has (Err Spent) old new = new ≡ old
    InsertsListed had has (Err TooLarge) old new = new ≡ old
    InsertsListed had has (Err CapacityFull) old new =
        StoresListed had has (Err refused.CapacityFull) old new
    InsertsListed had has (Err OccupancyFull) old new =
        StoresListed had has (Err refused.OccupancyFull) old new

    -- the same where nothing is put on a list
    abbrev pub Inserts : Result Inserted InsertError → (old new : Client T) → Type 0
    Inserts answer old new = InsertsListed true true answer old new

    -- the draft of an entry that keeps a reference, named by its serial
    abbrev pub pinned_draft : Client T → Draft
    pinned_draft client = draft_of (λ c. Some c.used) client

    -- The shard was asked for an entry with a reference, and answered this.
    pub record AsksPinned (had has : Bool) (answer : Result Pinned Refused) (old new : Client T) :
        Type 0 where
      pub v : View (Seeded T)
      pub w : View (Seeded T)
      pub works : Works (shard_in cache key) old new v w
      pub told : PinnedBy had has cache.geometry.slots cache.capacity cache.strict
          (pinned_draft old) value answer v w

    -- The entry was placed in a slot of the table, and the handle is on it.
    pub record Pins (had has : Bool) (handle : Handle) (old new : Client T) : Type 0 where
      pub pin : Pin
      pub asks : AsksPinned had has (Ok (pinned.Placed pin)) old new
      pub gains : Gains cache handle (record {
        insertion = record { key = key; value = value; charge = charge };
        entry = Some (shown_entry asks.v (made_of (pinned_draft old) value));
        standing = None;
      }) old new

    -- It stands alone, and the handle is on it.
    pub record Stands (had has : Bool) (handle : Handle) (old new : Client T) : Type 0 where
      pub asks : AsksPinned had has (Ok pinned.Standalone) old new
      pub gains : Gains cache handle (record {
        insertion = record { key = key; value = value; charge = charge };
        entry = None;
        standing = Some old.used;
      }) old new

    -- The shard refused it, and a serial was used.
    pub record Fails (had has : Bool) (why : Refused) (old new : Client T) : Type 0 where
      pub asks : AsksPinned had has (Err why) old new
      pub keeps : KeepsHandles cache old new

    -- What an insertion with a handle leaves, by its answer.
    abbrev pub InsertsWithListed : (had has : Bool) → Handle → Inserted → (old new : Client T)
        → Type 0
    InsertsWithListed had has handle Placed old new = Pins had has handle old new
    InsertsWithListed had has handle Dropped old new = ⊥
    InsertsWithListed had has handle Standalone old new = Stands had has handle old new

    abbrev pub RefusesWithListed : (had has : Bool) → InsertError → (old new : Client T) → Type 0
    RefusesWithListed had has HandlesFull old new = new ≡ old
    RefusesWithListed had has Spent old new = new ≡ old
    RefusesWithListed had has TooLarge old new = new ≡ old
    RefusesWithListed had has CapacityFull old new = Fails had has refused.CapacityFull old new
    RefusesWithListed had has OccupancyFull old new = Fails had has refused.OccupancyFull old new

    -- It came to stand alone, memory for a copy of its value was refused, and it was let go. A
    -- serial was used.
    pub record LetsGo (had has : Bool) (old new : Client T) : Type 0 where
      pub v : View (Seeded T)
      pub w : View (Seeded T)
      pub works : Works (shard_in cache key) old new v (fallen old.used w)
      pub told : PinnedBy had has cache.geometry.slots cache.capacity cache.strict
          (pinned_draft old) value (Ok pinned.Standalone) v w
      pub keeps : KeepsHandles cache old new

    -- what one that copies its value where it stands alone leaves, where it is refused
    abbrev pub RefusesCopyListed : (had has : Bool) → CopyError → (old new : Client T) → Type 0
    RefusesCopyListed had has (copies.Refused why) old new =
        RefusesWithListed had has why old new
    RefusesCopyListed had has copies.OutOfMemory old new = LetsGo had has old new

    -- the same where nothing is put on a list
    abbrev pub InsertsWith : Handle → Inserted → (old new : Client T) → Type 0
    InsertsWith handle answer old new = InsertsWithListed true true handle answer old new

    abbrev pub RefusesWith : InsertError → (old new : Client T) → Type 0
    RefusesWith why old new = RefusesWithListed true true why old new

    abbrev pub RefusesCopy : CopyError → (old new : Client T) → Type 0
    RefusesCopy why old new = RefusesCopyListed true true why old new

-- What an insertion did at the shard of its key, told of the client's seat there: what it evicted,
-- for what it asked, how the counts rose, and where the entry is or why it is nowhere.
module _ {T : Type 0} (cache : Cache T) (fits : T → Key → List ℕ → Type 0) (key : Key) (charge : ℕ)
    (priority : Priority) where
  abbrev pub StoresAtListed : (had has : Bool) → Result Stored Refused → (old new : Client T)
      → Type 0
  StoresAtListed had has answer old new =
      AtShard cache (λ shard was is. InsertedAs (fits_seeded fits) shard
      (draft_of cache key charge priority (λ c. None) old) had has answer was is)
      (shard_in cache key) old new

  -- the same where nothing is put on a list
  abbrev pub StoresAt : Result Stored Refused → (old new : Client T) → Type 0
  StoresAt answer old new = StoresAtListed true true answer old new

  -- an insertion, by its answer
  abbrev pub InsertsAtListed : (had has : Bool) → Result Inserted InsertError
      → (old new : Client T) → Type 0
  InsertsAtListed had has (Ok Placed) old new = StoresAtListed had has (Ok stored.Placed) old new
  InsertsAtListed had has (Ok Dropped) old new = StoresAtListed had has (Ok stored.Dropped) old new
  InsertsAtListed had has (Ok Standalone) old new = ⊥
  InsertsAtListed had has (Err HandlesFull) old new = ⊥
  InsertsAtListed had has (Err Spent) old new = new ≡ old
  InsertsAtListed had has (Err TooLarge) old new = new ≡ old
  InsertsAtListed had has (Err CapacityFull) old new =
      StoresAtListed had has (Err refused.CapacityFull) old new
  InsertsAtListed had has (Err OccupancyFull) old new =
      StoresAtListed had has (Err refused.OccupancyFull) old new

  abbrev pub InsertsAt : Result Inserted InsertError → (old new : Client T) → Type 0
  InsertsAt answer old new = InsertsAtListed true true answer old new

  abbrev pub PinsAtListed : (had has : Bool) → Result Pinned Refused → (old new : Client T)
      → Type 0
  PinsAtListed had has answer old new =
      AtShard cache (λ shard was is. PinnedAs (fits_seeded fits) shard
      (draft_of cache key charge priority (λ c. Some c.used) old) had has answer was is)
      (shard_in cache key) old new

  -- the same where nothing is put on a list
  abbrev pub PinsAt : Result Pinned Refused → (old new : Client T) → Type 0
  PinsAt answer old new = PinsAtListed true true answer old new

  -- one that gives a handle
  abbrev pub InsertsPinnedAtListed : (had has : Bool) → Inserted → (old new : Client T) → Type 0
  InsertsPinnedAtListed had has Placed old new =
      (pin : Pin) × PinsAtListed had has (Ok (pinned.Placed pin)) old new
  InsertsPinnedAtListed had has Dropped old new = ⊥
  InsertsPinnedAtListed had has Standalone old new =
      PinsAtListed had has (Ok pinned.Standalone) old new

  abbrev pub InsertsPinnedAt : Inserted → (old new : Client T) → Type 0
  InsertsPinnedAt answer old new = InsertsPinnedAtListed true true answer old new

  -- and one that is refused
  abbrev pub RefusesPinnedAtListed : (had has : Bool) → InsertError → (old new : Client T)
      → Type 0
  RefusesPinnedAtListed had has HandlesFull old new = new ≡ old
  RefusesPinnedAtListed had has Spent old new = new ≡ old
  RefusesPinnedAtListed had has TooLarge old new = new ≡ old
  RefusesPinnedAtListed had has CapacityFull old new =
      PinsAtListed had has (Err refused.CapacityFull) old new
  RefusesPinnedAtListed had has OccupancyFull old new =
      PinsAtListed had has (Err refused.OccupancyFull) old new

  abbrev pub RefusesPinnedAt : InsertError → (old new : Client T) → Type 0
  RefusesPinnedAt why old new = RefusesPinnedAtListed true true why old new

  -- one that came to stand alone, and was let go
  abbrev pub LetsGoAtListed : (had has : Bool) → (old new : Client T) → Type 0
  LetsGoAtListed had has old new =
      AtShard cache (λ shard was is. (mid : ShardSeat (Seeded T))
      × PinnedAs (fits_seeded fits) shard
      (draft_of cache key charge priority (λ c. Some c.used) old) had has (Ok pinned.Standalone)
      was mid
      × StaysAt shard mid is × SameCounts mid is) (shard_in cache key) old new

  -- and one that is refused, which copies its value where it stands alone
  abbrev pub RefusesCopyAtListed : (had has : Bool) → CopyError → (old new : Client T) → Type 0
  RefusesCopyAtListed had has (copies.Refused why) old new =
      RefusesPinnedAtListed had has why old new
  RefusesCopyAtListed had has copies.OutOfMemory old new = LetsGoAtListed had has old new

  abbrev pub RefusesCopyAt : CopyError → (old new : Client T) → Type 0
  RefusesCopyAt why old new = RefusesCopyAtListed true true why old new

-- What an insertion left of what is shown, in the worlds that its client knows of the key's shard:
-- when its reservation had ended, with its eviction, and when the entry was placed or left out.
module _ {T : Type 0} (fits : T → Key → List ℕ → Type 0) (shard : Shard (Seeded T) Global)
    (draft : Draft) where
  abbrev pub ShowsFrom : (reserved done : SeatOf (Seeded T)) → Insertion → Type 0
  ShowsFrom reserved done answer =
      InsertsShown (slots_of shard.table) draft.key answer (world_at shard.table reserved)
      (world_at shard.table done)

  -- where a place was reserved
  abbrev pub ShowsWhere : (told : Reservation) (reserved : SeatOf (Seeded T)) (counted : Effort)
      (answer : Insertion) (new : ShardSeat (Seeded T))
      → TriesWhere (fits_seeded fits) shard draft told reserved counted answer new → Type 0
  ShowsWhere Reserved reserved counted answer new tries = ShowsFrom reserved tries.done answer
  ShowsWhere NoPlace reserved counted answer new tries = Unit {0}

  -- by the answer
  abbrev pub ShowsAs : (answer : Result Stored Refused) (old new : ShardSeat (Seeded T))
      → InsertedAs (fits_seeded fits) shard draft true true answer old new → Type 0
  ShowsAs (Ok stored.Placed) old new did =
      ShowsFrom did.1.reserves.reserved did.1.tries.done (insertions.Placed did.0)
  ShowsAs (Ok stored.Dropped) old new did =
      ShowsWhere did.told did.reserves.reserved did.reserves.counted (left_out did.matched) new
      did.tries
  ShowsAs (Err why) old new did = Unit {0}

  -- of one that keeps a reference
  abbrev pub ShowsPinnedAs : (answer : Result Pinned Refused) (old new : ShardSeat (Seeded T))
      → PinnedAs (fits_seeded fits) shard draft true true answer old new → Type 0
  ShowsPinnedAs (Ok (pinned.Placed pin)) old new did =
      ShowsFrom did.reserves.reserved did.tries.done (insertions.Placed pin.slot)
  ShowsPinnedAs (Ok pinned.Standalone) old new did =
      ShowsWhere did.told did.reserves.reserved did.reserves.counted (left_out did.matched) new
      did.tries
  ShowsPinnedAs (Err why) old new did = Unit {0}
