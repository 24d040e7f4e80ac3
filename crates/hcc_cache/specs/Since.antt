-- What a client knows of a shard later, and what of it was taken away since.
use Rattle.std.specs.Prelude.{◌≡◌, ◌≢◌, ℕ, Bool, true, false, List, ◌++◌, Some, slice_get}
use Rattle.std.specs.List.{list_any}
use Rattle.hcc_core.specs.declared.event.Event.{Event}
use Rattle.hcc_core.specs.declared.event.Event.TheVariants as events
use Rattle.hcc_core.specs.declared.slot.Entry.{Entry}
use Rattle.hcc_core.specs.Runs.{held_at, takes_away}
use Rattle.hcc_core.specs.Shown.{shown_at}
use Rattle.hcc_rule.specs.declared.key.Key.{Key}
use Rattle.hcc_rule.specs.declared.view.Done.{Done}
use Rattle.hcc_rule.specs.Acts.{client_by, events_of, past}
use Rattle.hcc_rule.specs.Callers.{world_at}
use Rattle.hcc_rule.specs.Seats.{SeatOf}
use Rattle.hcc_rule.specs.Shown.{IsTakenAway}
use Rattle.hcc_rule.specs.Words.{key_of}
use Rattle.hcc_table.specs.Standing.{IsMomentOf}
use Rattle.hcc_shard.specs.declared.seat.ShardSeat.{ShardSeat}
use Rattle.hcc_shard.specs.declared.shard.Shard.{Shard}
use Rattle.hcc_shard.specs.Ended.{past_of}
use Rattle.hcc_cache.specs.declared.cache.Cache.{Cache}
use Rattle.hcc_cache.specs.declared.client.Client.{Client}
use Rattle.hcc_cache.specs.declared.seeded.Seeded.{Seeded}
use Rattle.hcc_cache.specs.Calls.{AtShard, shard_in}
use Rattle.hcc_cache.specs.Moments.{KnowsShown}
use Rattle.hcc_cache.specs.Sharding.{key_to}

-- What the client knows of the shard of this number goes on by these events, whoever made them.
pub record GoesOnAt {T : Type 0} (number : ℕ) (old new : Client T) : Type 0 where
  pub was : ShardSeat (Seeded T)
  pub is : ShardSeat (Seeded T)
  pub seat_was : slice_get old.seats.items number ≡ Some was
  pub seat_is : slice_get new.seats.items number ≡ Some is
  pub more : List Done
  pub goes_on : past_of is ≡ past_of was ++ more

-- whether it is a hide
abbrev pub is_hide : Event → Bool
is_hide (events.Hide client name) = true
is_hide other = false

module _ {T : Type 0} (cache : Cache T) (key : Key) where
  -- One of these events took away the entry of the key that the client knew to be shown: a hide by
  -- a reference on its slot, or a free of that. Until then the slot showed the entry.
  pub record IsTakenSince (old : Client T) (k : KnowsShown cache key old) (more : List Done)
      : Type 0 where
    pub entry : Entry
    pub asked : key_of entry ≡ key_to cache.seed key
    pub taken : IsTakenAway k.slot entry (world_at k.shard.table k.seat.seat) more

  -- So it was, by an event of another client, among those by which what the client knows went on.
  pub record IsTakenByOther (old new : Client T) (k : KnowsShown cache key old) : Type 0 where
    pub goes : GoesOnAt (shard_in cache key) old new
    pub since : IsTakenSince old k goes.more
    pub other : client_by since.taken.done.event ≢ old.number

  -- So it was, by an event among those by which what the client knows went on, its own or that of
  -- another client: at the end the slot doesn't show that entry.
  pub record IsTakenBetween (old new : Client T) (k : KnowsShown cache key old) : Type 0 where
    pub goes : GoesOnAt (shard_in cache key) old new
    pub since : IsTakenSince old k goes.more
    pub gone : shown_at (world_at k.shard.table goes.is.seat) k.slot ≢ Some since.entry

  -- Somebody held a reference on the slot in the world that the client knew at first, and gave or
  -- used it by none of these events, nor freed the slot by it.
  pub record IsHeldThrough (old : Client T) (k : KnowsShown cache key old) (more : List Done)
      : Type 0 where
    pub holder : ℕ
    pub name : ℕ
    pub entry : Entry
    pub there : held_at (world_at k.shard.table k.seat.seat) holder name k.slot ≡ Some entry
    pub kept : list_any (takes_away holder name) (events_of more) ≡ false

  -- Another client took the entry away, and it did so by a hide.
  pub record IsHiddenByOther (old new : Client T) (k : KnowsShown cache key old) : Type 0 where
    pub taken : IsTakenByOther old new k
    pub hid : is_hide taken.since.taken.done.event ≡ true

-- An entry of the key was shown at a moment of a call, and behind that another client took it away.
pub record IsTakenBehind {T A : Type 0} (shard : Shard T A) (key : Key) (client : ℕ)
    (was is : ShardSeat T) : Type 0 where
  pub slot : ℕ
  pub entry : Entry
  pub asked : key_of entry ≡ key
  pub moment : SeatOf T
  pub at : IsMomentOf shard.table moment was.seat is.seat
  pub shown : shown_at (world_at shard.table moment) slot ≡ Some entry
  pub more : List Done
  pub goes_on : past_of is ≡ past moment ++ more
  pub taken : IsTakenAway slot entry (world_at shard.table moment) more
  pub other : client_by taken.done.event ≢ client

-- So it was of the key's shard.
abbrev pub IsLostBehind : {T : Type 0} → Cache T → Key → (old new : Client T) → Type 0
IsLostBehind cache key old new =
    AtShard cache
    (λ shard was is. IsTakenBehind shard (key_to cache.seed key) old.number was is)
    (shard_in cache key) old new
