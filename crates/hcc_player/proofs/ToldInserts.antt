-- What an insertion leaves of what is told, where it had no cause to evict.
use Rattle.std.proofs.Common.{◌≡◌, ◌⊎◌, inl, inr, ℕ, Bool, true, false, List, Some, None, Result, Ok, Err, ◌<◌, sym, refl, ap, subst}
use Rattle.std.specs.Prelude.{IsOk}
use Rattle.std.proofs.lemmas.Bool.{true≢false}
use Rattle.std.specs.declared.alloc.Global.{Global}
use Rattle.hcc_rule.specs.declared.key.Key.{Key}
use Rattle.hcc_rule.specs.Callers.{slots_of, world_at}
use Rattle.hcc_rule.specs.Probes.{probe_slot}
use Rattle.hcc_rule.specs.Seats.{view}
use Rattle.hcc_rule.proofs.Probes.ProbeLaws.{probe_inside, some_slots}
use Rattle.hcc_table.specs.declared.pins.Pin.{Pin}
use Rattle.hcc_table.specs.Standing.{InsertsShown, ShowsMore, ShowsSame, shown_at}
use Rattle.hcc_shard.specs.declared.inserting.Inserted.TheVariants as stored
use Rattle.hcc_shard.specs.declared.inserting.Pinned.TheVariants as pinned
use Rattle.hcc_shard.specs.declared.seat.ShardSeat.{ShardSeat}
use Rattle.hcc_shard.specs.declared.shard.Shard.{Shard}
use Rattle.hcc_shard.specs.Reserving.{left_out}
use Rattle.hcc_cache.specs.declared.cache.Cache.{Cache}
use Rattle.hcc_cache.specs.declared.client.Client.{Client}
use Rattle.hcc_cache.specs.declared.config.Config.{Config}
use Rattle.hcc_cache.specs.declared.errors.InsertError.{InsertError}
use Rattle.hcc_cache.specs.declared.errors.InsertError.TheVariants as errors
use Rattle.hcc_cache.specs.declared.inserting.Inserted.{Inserted}
use Rattle.hcc_cache.specs.declared.inserting.Inserted.TheVariants as inserted
use Rattle.hcc_cache.specs.declared.priority.Priority.{Priority}
use Rattle.hcc_cache.specs.declared.seeded.Seeded.{Seeded}
use Rattle.hcc_cache.specs.Calls.{AtShard, OnlyAt, shard_in}
use Rattle.hcc_cache.specs.Inserts.{InsertsAt, PinsAt, RefusesPinnedAt, StoresAt, draft_of}
use Rattle.hcc_cache.specs.Moments.{KnowsShown}
use Rattle.hcc_cache.specs.Opened.{IsCacheOf}
use Rattle.hcc_cache.specs.Room.{HasRoomBeside, KeepsAs, KeepsPinnedAs, TurnsNone}
use Rattle.hcc_cache.specs.Sharding.{key_to}
use Rattle.hcc_player.specs.declared.run.answer.Answer.TheVariants as answers
use Rattle.hcc_player.specs.declared.run.call.Call.TheVariants as calls
use Rattle.hcc_player.specs.RunAnswers.{insert_answer}
use Rattle.hcc_player.specs.RunCalls.{IsOfWords}
use Rattle.hcc_player.specs.RunTold.{FitsBeside, IsLeftOut, Told, TurnsNoneFor, WantsRoom}
use Rattle.hcc_player.specs.RunTold.{keys_after, with_told}
use Rattle.hcc_player.proofs.ToldBounds.{IsWithin, has_room}
use Rattle.hcc_player.proofs.ToldWorlds.{by_more, out_same, same_key}
use Rattle.hcc_player.proofs.ToldShows.{Tells, found_of, known_some, shows_at, slots_same}
use Rattle.hcc_player.proofs.ToldShows.{tells_over, tells_same, tells_with}

module _ {T : Type 0} (fits : T → Key → List ℕ → Type 0) (config : Config) (cache : Cache T) where
  -- What the laws of a cache of one client say of insertions: what those leave that turn the hand
  -- no further, that those turn it no further, and aren't refused, for which there is room, and
  -- that those meet their key whose entries are left out.
  pub record AreLaws : Type 0 where
    pub keeps : (key : Key) (charge : ℕ) (priority : Priority) (answer : _)
        (old new : Client T) (h : StoresAt cache fits key charge priority answer old new)
        → TurnsNone h.was h.is
        → KeepsAs h.shard (draft_of cache key charge priority (λ c. None) old) fits answer h.was
        h.is h.did
    pub keeps_pinned : (key : Key) (charge : ℕ) (priority : Priority)
        (answer : _) (old new : Client T)
        (h : PinsAt cache fits key charge priority answer old new) → TurnsNone h.was h.is
        → KeepsPinnedAs h.shard (draft_of cache key charge priority (λ c. Some c.used) old) fits
        answer h.was h.is h.did
    pub room : (key : Key) (charge : ℕ) (priority : Priority) (answer : _)
        (old new : Client T) (h : StoresAt cache fits key charge priority answer old new)
        → HasRoomBeside config charge (view h.was.seat) → IsOk answer × TurnsNone h.was h.is
    pub room_pinned : (key : Key) (charge : ℕ) (priority : Priority)
        (answer : _) (old new : Client T)
        (h : PinsAt cache fits key charge priority answer old new)
        → HasRoomBeside config charge (view h.was.seat) → IsOk answer × TurnsNone h.was h.is
    pub met : (key : Key) (charge : ℕ) (priority : Priority) (old new : Client T)
        (h : StoresAt cache fits key charge priority (Ok stored.Dropped) old new)
        → TurnsNone h.was h.is → h.did.matched ≡ true
    pub met_pinned : (key : Key) (charge : ℕ) (priority : Priority) (old new : Client T)
        (h : PinsAt cache fits key charge priority (Ok pinned.Standalone) old new)
        → TurnsNone h.was h.is → h.did.matched ≡ true

module _ {T : Type 0} (fits : T → Key → List ℕ → Type 0) (config : Config) (tag : T)
    (cache : Cache T) (is_of : IsCacheOf config tag cache) (one : config.clients ≡ 1)
    (laws : AreLaws fits config cache) (told : Told) (key : Key) (charge : ℕ) (priority : Priority)
    (old new : Client T) (tells : Tells cache told.keys old)
    (most : IsWithin told.placed told.charged old) where
  -- One that fits isn't refused for want of room, and turns the hand no further.
  fits_stored : FitsBeside config told charge → (answer : _)
      (h : StoresAt cache fits key charge priority answer old new)
      → IsOk answer × TurnsNone h.was h.is
  fits_stored beside answer h =
      laws.room key charge priority answer old new h
      (has_room config told charge old most beside (shard_in cache key) h.was h.seat_was)

  fits_pinned : FitsBeside config told charge → (answer : _)
      (h : PinsAt cache fits key charge priority answer old new)
      → IsOk answer × TurnsNone h.was h.is
  fits_pinned beside answer h =
      laws.room_pinned key charge priority answer old new h
      (has_room config told charge old most beside (shard_in cache key) h.was h.seat_was)

  unrefused : FitsBeside config told charge → (why : _)
      → StoresAt cache fits key charge priority (Err why) old new → ⊥
  unrefused beside why h = true≢false (sym (fits_stored beside (Err why) h).0)

  unrefused_pinned : FitsBeside config told charge → (why : _)
      → PinsAt cache fits key charge priority (Err why) old new → ⊥
  unrefused_pinned beside why h = true≢false (sym (fits_pinned beside (Err why) h).0)

  pub unwanted : FitsBeside config told charge → (did : Result Inserted InsertError)
      → InsertsAt cache fits key charge priority did old new → ¬ WantsRoom (insert_answer did)
  unwanted beside (Ok inserted.Placed) at wants = wants
  unwanted beside (Ok inserted.Dropped) at wants = wants
  unwanted beside (Ok inserted.Standalone) at wants = wants
  unwanted beside (Err errors.HandlesFull) at wants = wants
  unwanted beside (Err errors.Spent) at wants = wants
  unwanted beside (Err errors.TooLarge) at wants = wants
  unwanted beside (Err errors.CapacityFull) at wants = unrefused beside _ at
  unwanted beside (Err errors.OccupancyFull) at wants = unrefused beside _ at

  pub unwanted_pinned : FitsBeside config told charge → (error : InsertError)
      → RefusesPinnedAt cache fits key charge priority error old new
      → ¬ WantsRoom (answers.Refused error)
  unwanted_pinned beside errors.HandlesFull at wants = wants
  unwanted_pinned beside errors.Spent at wants = wants
  unwanted_pinned beside errors.TooLarge at wants = wants
  unwanted_pinned beside errors.CapacityFull at wants = unrefused_pinned beside _ at
  unwanted_pinned beside errors.OccupancyFull at wants = unrefused_pinned beside _ at

  -- one whose key isn't there isn't left out
  unmet : (Did : Shard (Seeded T) Global → (old new : ShardSeat (Seeded T)) → Type 0)
      (matched : Bool) (h : AtShard cache Did (shard_in cache key) old new)
      → InsertsShown (slots_of h.shard.table) (key_to cache.seed key) (left_out matched)
      (world_at h.shard.table h.was.seat) (world_at h.shard.table h.is.seat) → matched ≡ true
      → IsOfWords key → told.keys key ≡ Some false → ⊥
  unmet Did false h left met words gone = cc
  unmet Did true h left met words gone =
      found_of config tag cache is_of one Did false key old new h (tells key false words gone)
      (probe_slot (slots_of h.shard.table) (key_to cache.seed key) left.0)
      (subst (λ n. probe_slot (slots_of h.shard.table) (key_to cache.seed key) left.0 < n)
      (slots_same config tag cache is_of one _ h.shard h.shard_is)
      (probe_inside (slots_of h.shard.table) (key_to cache.seed key) left.0
      (some_slots (slots_of h.shard.table) h.shard.table.limits.power))) left.2

  pub placed_where_gone : FitsBeside config told charge → (did : Result Inserted InsertError)
      → InsertsAt cache fits key charge priority did old new → IsOfWords key
      → told.keys key ≡ Some false → ¬ IsLeftOut (insert_answer did)
  placed_where_gone beside (Ok inserted.Placed) at words gone out = out
  placed_where_gone beside (Ok inserted.Dropped) at words gone out =
      let idle = (fits_stored beside (Ok stored.Dropped) at).1 in
      unmet _ at.did.matched at
      (laws.keeps key charge priority (Ok stored.Dropped) old new at idle).1.shows
      (laws.met key charge priority old new at idle) words gone
  placed_where_gone beside (Ok inserted.Standalone) at words gone out = at
  placed_where_gone beside (Err error) at words gone out = out

  pub pinned_where_gone : FitsBeside config told charge
      → PinsAt cache fits key charge priority (Ok pinned.Standalone) old new → IsOfWords key
      → told.keys key ≡ Some false → ⊥
  pinned_where_gone beside at words gone =
      let idle = (fits_pinned beside (Ok pinned.Standalone) at).1 in
      unmet _ at.did.matched at
      (laws.keeps_pinned key charge priority (Ok pinned.Standalone) old new at idle).1.shows
      (laws.met_pinned key charge priority old new at idle) words gone

  module _ (cause : FitsBeside config told charge ⊎ TurnsNoneFor config cache key old new)
      (only : OnlyAt (shard_in cache key) old new) where
    idle : (answer : _) (h : StoresAt cache fits key charge priority answer old new)
        → TurnsNone h.was h.is
    idle answer h = elim cause [
      | inl beside ↦ (fits_stored beside answer h).1
      | inr turns ↦ turns h.was h.is h.seat_was h.seat_is
    ]

    idle_pinned : (answer : _) (h : PinsAt cache fits key charge priority answer old new)
        → TurnsNone h.was h.is
    idle_pinned answer h = elim cause [
      | inl beside ↦ (fits_pinned beside answer h).1
      | inr turns ↦ turns h.was h.is h.seat_was h.seat_is
    ]

    -- what one leaves that came to show its key in this slot
    placed_tells : (Did : Shard (Seeded T) Global → (old new : ShardSeat (Seeded T)) → Type 0)
        (slot : ℕ) (h : AtShard cache Did (shard_in cache key) old new)
        → ShowsMore (slots_of h.shard.table) (key_to cache.seed key) slot
        (world_at h.shard.table h.was.seat) (world_at h.shard.table h.is.seat)
        → IsOfWords key → KnowsShown cache key new
        → Tells cache (with_told key true told.keys) new
    placed_tells Did slot h more words shown =
        tells_with config tag cache is_of one key true told.keys new
        (λ other b theirs apart is.
        shows_at config tag cache is_of one Did (shard_in cache key) other b old new h only
        (by_more b cache.geometry.slots (slots_of h.shard.table) (key_to cache.seed key)
        (key_to cache.seed other) slot (world_at h.shard.table h.was.seat)
        (world_at h.shard.table h.is.seat) more
        (λ e. apart (same_key cache.seed key other words theirs e)))
        (tells other b theirs is))
        (known_some config tag cache is_of one key new shown)

    -- one that left its entry out, or was refused
    left_tells : (Did : Shard (Seeded T) Global → (old new : ShardSeat (Seeded T)) → Type 0)
        (h : AtShard cache Did (shard_in cache key) old new)
        → ShowsSame (world_at h.shard.table h.was.seat) (world_at h.shard.table h.is.seat)
        → Tells cache told.keys new
    left_tells Did h same =
        tells_over config tag cache is_of one Did (shard_in cache key) told.keys old new h only
        same tells

    out_tells : (Did : Shard (Seeded T) Global → (old new : ShardSeat (Seeded T)) → Type 0)
        (matched : Bool) (h : AtShard cache Did (shard_in cache key) old new)
        → InsertsShown (slots_of h.shard.table) (key_to cache.seed key) (left_out matched)
        (world_at h.shard.table h.was.seat) (world_at h.shard.table h.is.seat)
        → Tells cache told.keys new
    out_tells Did matched h left =
        left_tells Did h (out_same matched (slots_of h.shard.table) (key_to cache.seed key)
        (world_at h.shard.table h.was.seat) (world_at h.shard.table h.is.seat) left)

    same_tells : (Did : Shard (Seeded T) Global → (old new : ShardSeat (Seeded T)) → Type 0)
        (h : AtShard cache Did (shard_in cache key) old new) → h.is.seat ≡ h.was.seat
        → Tells cache told.keys new
    same_tells Did h same =
        left_tells Did h (λ s. ap (λ z. shown_at (world_at h.shard.table z) s) same)

    refused_tells : (why : _) → StoresAt cache fits key charge priority (Err why) old new
        → Tells cache told.keys new
    refused_tells why h =
        same_tells _ h (laws.keeps key charge priority (Err why) old new h (idle (Err why) h)).1

    unpinned_tells : (why : _) → PinsAt cache fits key charge priority (Err why) old new
        → Tells cache told.keys new
    unpinned_tells why h =
        same_tells _ h
        (laws.keeps_pinned key charge priority (Err why) old new h (idle_pinned (Err why) h)).1

    -- by what an insertion told
    pub entered : (value : List ℕ) (did : Result Inserted InsertError)
        → InsertsAt cache fits key charge priority did old new
        → IsOfWords key → (did ≡ Ok inserted.Placed → KnowsShown cache key new)
        → Tells cache (keys_after (calls.Insert key charge priority value) (insert_answer did)
        told.held told.keys) new
    entered value (Ok inserted.Placed) at words shown =
        placed_tells _ at.did.0 at
        (laws.keeps key charge priority (Ok stored.Placed) old new at
        (idle (Ok stored.Placed) at)).shows words (shown refl)
    entered value (Ok inserted.Dropped) at words shown =
        out_tells _ at.did.matched at
        (laws.keeps key charge priority (Ok stored.Dropped) old new at
        (idle (Ok stored.Dropped) at)).1.shows
    entered value (Ok inserted.Standalone) at words shown = absurd at
    entered value (Err errors.HandlesFull) at words shown = absurd at
    entered value (Err errors.Spent) at words shown =
        tells_same config tag cache is_of one told.keys old new at tells
    entered value (Err errors.TooLarge) at words shown =
        tells_same config tag cache is_of one told.keys old new at tells
    entered value (Err errors.CapacityFull) at words shown = refused_tells _ at
    entered value (Err errors.OccupancyFull) at words shown = refused_tells _ at

    -- by what one that gives a handle did
    pub pinned_tells : (pin : Pin)
        → PinsAt cache fits key charge priority (Ok (pinned.Placed pin)) old new
        → IsOfWords key → KnowsShown cache key new
        → Tells cache (with_told key true told.keys) new
    pinned_tells pin at words shown =
        placed_tells _ pin.slot at
        (laws.keeps_pinned key charge priority (Ok (pinned.Placed pin)) old new at
        (idle_pinned (Ok (pinned.Placed pin)) at)).shows words shown

    pub standing_tells : PinsAt cache fits key charge priority (Ok pinned.Standalone) old new
        → Tells cache told.keys new
    standing_tells at =
        out_tells _ at.did.matched at
        (laws.keeps_pinned key charge priority (Ok pinned.Standalone) old new at
        (idle_pinned (Ok pinned.Standalone) at)).1.shows

    -- by why one was refused its handle
    pub unentered : (error : InsertError)
        → RefusesPinnedAt cache fits key charge priority error old new
        → Tells cache told.keys new
    unentered errors.HandlesFull at =
        tells_same config tag cache is_of one told.keys old new at tells
    unentered errors.Spent at =
        tells_same config tag cache is_of one told.keys old new at tells
    unentered errors.TooLarge at =
        tells_same config tag cache is_of one told.keys old new at tells
    unentered errors.CapacityFull at = unpinned_tells _ at
    unentered errors.OccupancyFull at = unpinned_tells _ at
