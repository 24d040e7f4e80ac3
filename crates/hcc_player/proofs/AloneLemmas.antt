-- A play with one client: what its answers say by the worlds of the shards.
use Rattle.std.proofs.Common.{◌≡◌, ℕ, true, false, List, [], ◌∷◌, Option, Some, None, is_some, min}
use Rattle.std.proofs.Common.{sym, ap, ◌∙◌, subst}
use Rattle.std.specs.Prelude.{◌-◌, ◌^◌}
use Rattle.hcc_core.specs.Sums.{total}
use Rattle.hcc_core.specs.World.{State}
use Rattle.hcc_rule.specs.declared.geometry.Geometry.{Geometry}
use Rattle.hcc_rule.specs.declared.key.Key.{Key}
use Rattle.hcc_rule.specs.Callers.{slots_of, world_at}
use Rattle.hcc_table.specs.declared.pins.Pin.{Pin}
use Rattle.hcc_table.specs.Standing.{FindsFirst, HidesShown, ShowsKey}
use Rattle.hcc_cache.specs.declared.cache.Cache.{Cache}
use Rattle.hcc_cache.specs.declared.client.Client.{Client}
use Rattle.hcc_cache.specs.declared.config.Config.{Config}
use Rattle.hcc_cache.specs.declared.handle.Handle.{Handle}
use Rattle.hcc_cache.specs.Calls.{ErasesFor, SearchesFor}
use Rattle.hcc_cache.specs.Opened.{IsCacheOf}
use Rattle.hcc_cache.specs.Sharding.{key_to}
use Rattle.hcc_cache.specs.Totals.{KnowsEach, LoadsEachOccupancy, LoadsEachUsage, occupancy_in}
use Rattle.hcc_cache.specs.Totals.{usage_in}
use Rattle.hcc_player.specs.declared.run.answer.Answer.{Answer}
use Rattle.hcc_player.specs.declared.run.answer.Answer.TheVariants as answers
use Rattle.hcc_player.specs.declared.run.call.Call.{Call}
use Rattle.hcc_player.specs.declared.run.call.Call.TheVariants as calls
use Rattle.hcc_player.specs.declared.run.registers.Filled.{Filled}
use Rattle.hcc_player.specs.declared.run.call.RunLine.{RunLine}
use Rattle.hcc_player.specs.declared.run.registers.Registers.{Registers}
use Rattle.hcc_player.specs.RunAlone.{AreAllExact, AreExact, HidesAll, InWorld, IsExact, ShowsFirst}
use Rattle.hcc_player.specs.RunAlone.{ShowsNone}
use Rattle.hcc_player.specs.RunCalls.{Does, ReadsTotals}
use Rattle.hcc_player.specs.Runs.{MakesAll}

module _ {T : Type 0} (fits : T → Key → List ℕ → Type 0) (config : Config) (tag : T)
    (cache : Cache T) (is_of : IsCacheOf config tag cache)
    (finds : (key : Key) (found : Option Handle) (old new : Client T)
    (h : SearchesFor cache fits key found old new)
    → FindsFirst h.shard.table (key_to cache.seed key) (world_at h.shard.table h.was.seat) h.did.0)
    (hides : (key : Key) (hidden : ℕ) (old new : Client T)
    (h : ErasesFor cache fits key hidden old new)
    → HidesShown config.slots (key_to cache.seed key) hidden (world_at h.shard.table h.was.seat)
    (world_at h.shard.table h.is.seat))
    (uses : (result : ℕ) (old new : Client T) → LoadsEachUsage cache result old new
    → (counts : List ℕ) × KnowsEach cache usage_in counts old
    × (result ≡ min (total (λ n. n) counts) (2 ^ 64 - 1)))
    (occupies : (result : ℕ) (old new : Client T) → LoadsEachOccupancy cache result old new
    → (counts : List ℕ) × KnowsEach cache occupancy_in counts old
    × (result ≡ total (λ n. n) counts))
    (one : cache.geometry.clients ≡ 1) where
  slots_are : cache.geometry.slots ≡ config.slots
  slots_are = ap (λ (g : Geometry). g.slots) is_of.geometry

  -- what was found is the first that shows the key
  found_first : (key : Key) (handle : Handle) (old new : Client T)
      → SearchesFor cache fits key (Some handle) old new → InWorld cache key ShowsFirst old
  found_first key handle old new h =
      let made = is_of.shards _ h.shard h.shard_is in
      let slots : slots_of h.shard.table ≡ cache.geometry.slots =
      ap (λ (g : Geometry). g.slots) made.geometry ∙ sym slots_are in
      let world = world_at h.shard.table h.was.seat in
      record {
        shard = h.shard;
        seat = h.was;
        shard_is = h.shard_is;
        seat_is = h.seat_was;
        holds = subst (λ n. ShowsFirst n (key_to cache.seed key) world) slots
            (by world h.did.0 h.did.1 (finds key (Some handle) old new h));
      }
    where
      by : (world : State) (pin : Option Pin) → is_some pin ≡ true
          → FindsFirst h.shard.table (key_to cache.seed key) world pin
          → ShowsFirst (slots_of h.shard.table) (key_to cache.seed key) world
      by world None some found = cc
      by world (Some pin) some found = (
        found.0,
        subst (ShowsKey world (key_to cache.seed key)) found.1 found.2,
        found.3,
      )

  -- where none was found none shows it
  found_none : (key : Key) (old new : Client T) → SearchesFor cache fits key None old new
      → InWorld cache key ShowsNone old
  found_none key old new h =
      let made = is_of.shards _ h.shard h.shard_is in
      let slots : slots_of h.shard.table ≡ cache.geometry.slots =
      ap (λ (g : Geometry). g.slots) made.geometry ∙ sym slots_are in
      let world = world_at h.shard.table h.was.seat in
      record {
        shard = h.shard;
        seat = h.was;
        shard_is = h.shard_is;
        seat_is = h.seat_was;
        holds = subst (λ n. ShowsNone n (key_to cache.seed key) world) slots
            (by world h.did.0 h.did.1 (finds key None old new h));
      }
    where
      by : (world : State) (pin : Option Pin) → is_some pin ≡ false
          → FindsFirst h.shard.table (key_to cache.seed key) world pin
          → ShowsNone (slots_of h.shard.table) (key_to cache.seed key) world
      by world None none found = found
      by world (Some pin) none found = cc

  hides_all : (key : Key) (count : ℕ) (old new : Client T) → ErasesFor cache fits key count old new
      → HidesAll cache key count old new
  hides_all key count old new h = record {
    shard = h.shard;
    was = h.was;
    is = h.is;
    shard_is = h.shard_is;
    seat_was = h.seat_was;
    seat_is = h.seat_is;
    did = rw slots_are (hides key count old new h);
  }

  exact_totals : (usage pinned occupancy : ℕ) (old new : Client T)
      → ReadsTotals fits cache usage pinned occupancy old new
      → AreExact cache usage pinned occupancy old
  exact_totals usage pinned occupancy old new r =
      let used = uses usage old r.first r.loads in
      let there = occupies occupancy r.second new r.counts in
      record {
        first = r.first;
        second = r.second;
        charges = used.0;
        charges_are = used.1;
        usage_is = used.2;
        views = r.views;
        pinned_is = r.alone one;
        searches = r.searches;
        entries = there.0;
        entries_are = there.1;
        occupancy_is = there.2;
      }

  -- what was done for this call, which was answered this
  abbrev Did : Call → Answer → (old new : Client T) → (was now : List Filled) → Type 0
  Did = Does fits cache

  did_as : (call call' : Call) (answer answer' : Answer) (old new : Client T)
      (was now : List Filled) → call ≡ call' → answer ≡ answer'
      → Did call answer old new was now → Did call' answer' old new was now
  did_as call call' answer answer' old new was now is told did =
      subst (λ c. Did c answer' old new was now) is
      (subst (λ a. Did call a old new was now) told did)

  hit : (register : ℕ) (key : Key) (old new : Client T) (was now : List Filled)
      → Did (calls.Lookup register key) answers.Hit old new was now
      → InWorld cache key ShowsFirst old
  unfolding Does
  hit register key old new was now did = found_first key did.handle old new did.searched

  miss : (register : ℕ) (key : Key) (old new : Client T) (was now : List Filled)
      → Did (calls.Lookup register key) answers.Miss old new was now
      → InWorld cache key ShowsNone old
  unfolding Does
  miss register key old new was now did = found_none key old new did.searched

  erased : (key : Key) (count : ℕ) (old new : Client T) (was now : List Filled)
      → Did (calls.Erase key) (answers.Erased count) old new was now
      → HidesAll cache key count old new
  unfolding Does
  erased key count old new was now did = hides_all key count old new did.searched

  totals : (usage pinned occupancy : ℕ) (old new : Client T) (was now : List Filled)
      → Did calls.Totals (answers.Totals usage pinned occupancy) old new was now
      → AreExact cache usage pinned occupancy old
  unfolding Does
  totals usage pinned occupancy old new was now did =
      exact_totals usage pinned occupancy old new did

  exact : (line : RunLine) (answer : Answer) (old new : Client T) (was now : List Filled)
      → Did line.call answer old new was now → IsExact cache line answer old new
  exact line answer old new was now did = record {
    hits = λ register key is told.
        hit register key old new was now (did_as _ _ _ _ old new was now is told did);
    misses = λ register key is told.
        miss register key old new was now (did_as _ _ _ _ old new was now is told did);
    erases = λ key count is told.
        erased key count old new was now (did_as _ _ _ _ old new was now is told did);
    totals = λ usage pinned occupancy is told.
        totals usage pinned occupancy old new was now
        (did_as _ _ _ _ old new was now is told did);
  }

  -- so are all answers
  pub exact_all : (lines : List RunLine) (told : List Answer) (old new : List (Client T))
      (was now : List Registers) (makes : MakesAll fits cache lines told old new was now)
      → AreAllExact cache fits lines told old new was now makes
  exact_all [] told old new was now makes = tt
  exact_all (line ∷ lines) [] old new was now makes = absurd makes
  exact_all (line ∷ lines) (answer ∷ told) old new was now makes = (
    exact line answer makes.2.before makes.2.after _ _ makes.2.did,
    exact_all lines told makes.0 new makes.1 now makes.3,
  )
