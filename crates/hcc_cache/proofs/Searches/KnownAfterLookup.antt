-- What a client knows once a look-up found an entry, or none.
use Rattle.std.proofs.Common.{◌≡◌, ℕ, ◌+◌, ◌*◌, ◌^◌, ◌<◌, ◌≤◌, Bool, List, [], ◌∷◌, ◌++◌, Option, Some, is_some, length, option_map, refl, sym, ap, subst, ◌∙◌, arith}
use Rattle.hcc_rule.specs.declared.geometry.Geometry.{Geometry}
use Rattle.hcc_rule.specs.declared.key.Key.{Key}
use Rattle.hcc_rule.specs.declared.view.Record.{Record}
use Rattle.hcc_rule.specs.declared.view.View.{View}
use Rattle.hcc_rule.specs.Views.{Each}
use Rattle.hcc_rule.specs.Words.{key_of}
use Rattle.hcc_rule.proofs.Basics.Lists.{each_append, within}
use Rattle.hcc_table.specs.declared.efforts.Effort.{Effort}
use Rattle.hcc_table.specs.declared.pins.Pin.{Pin}
use Rattle.hcc_table.specs.Pins.{IsOf}
use Rattle.hcc_table.specs.Searched.{IsFound, IsMissed, Searched, Sought}
use Rattle.hcc_table.specs.Steps.{MakesFor}
use Rattle.hcc_shard.specs.declared.seat.ShardSeat.{ShardSeat}
use Rattle.hcc_shard.specs.declared.shard.Shard.{Shard}
use Rattle.hcc_shard.specs.Callers.{geometry_of, view_of, SearchesAt}
use Rattle.hcc_shard.specs.Seated.{Rests}
use Rattle.hcc_shard.proofs.Names.{above_later}
use Rattle.hcc_shard.specs.Stays.{SeeksAt as ReadsOn}
use Rattle.hcc_cache.specs.declared.cache.Cache.{Cache}
use Rattle.hcc_cache.specs.declared.client.Client.{Client}
use Rattle.hcc_cache.specs.declared.handle.Handle.{Handle}
use Rattle.hcc_cache.specs.declared.holding.Hold.{Hold}
use Rattle.hcc_cache.specs.declared.holding.Kept.TheVariants.{Pinned}
use Rattle.hcc_cache.specs.declared.seeded.Seeded.{Seeded}
use Rattle.hcc_cache.specs.Calls.{Finds, Gains, KeepsAll, Misses, SearchesFor, SearchesReadingFor, TakesAtMost, TakesFor, UsesNone, Works, shard_in}
use Rattle.hcc_cache.specs.Clients.{held_entry, pin_of}
use Rattle.hcc_cache.specs.Keys.{fits_seeded, key_from, tag_at}
use Rattle.hcc_cache.specs.Sharding.{key_to, shard_of}
use Rattle.hcc_cache.specs.Known.{IsSeated, Knows}
use Rattle.hcc_cache.proofs.Clients.AtOneShard.{ChangesAt, IsAt, did_at, home_kept, knows_at, seated_at, takes_at, takes_for, works_at}
use Rattle.hcc_cache.proofs.Handles.SameHolds.{keeps_all}
use Rattle.hcc_cache.proofs.Handles.OneMore.{gains, IsGiven}
use Rattle.hcc_cache.proofs.Handles.StandAsBefore.{held_rest, stands_rest}
use Rattle.hcc_cache.proofs.Handles.OneMoreReference.{held_pinned, stands_pinned, there_pinned}
use Rattle.hcc_cache.proofs.Basics.FoundByName.{names_later, standings_later}
use Rattle.hcc_cache.proofs.Searches.MissedOrErasedKeys.{all_held_dead}
use Rattle.hcc_cache.proofs.Clients.Seats.{seated_by}

-- Of a seat.

module _ {T A : Type 0} (shard : Shard T A) (number used : ℕ) (was is : ShardSeat T)
    (seated : IsSeated shard number used was) (rests : Rests shard is)
    (searched : Searched (view_of was) (view_of is)) where
  -- it is one of its client still, where these are the records, and so many serials are used
  seated_searched : (more : ℕ) → used ≤ more
      → Each (λ (r : Record). r.name < more) (view_of is).records
      → Each (λ (r : Record). r.entry.charge < 2 ^ 32) (view_of is).records
      → IsSeated shard number more is
  seated_searched more le records charged =
      let made_same : length (view_of is).made ≡ length (view_of was).made =
      ap (λ (v : View T). length v.made) searched.same in
      let made = seated.made in
      seated_by shard number used more was is seated rests
      (ap (λ (v : View T). v.client) searched.same) (ap (λ (v : View T). v.others) searched.same)
      records
      (rw (ap (λ (v : View T). v.work.standalones) searched.same)
      (standings_later used more (view_of was).work.standalones le seated.standalones))
      (omega arith)
      (rw (ap (λ (v : View T). v.made) searched.same)
      (above_later used more (view_of was).made le seated.above))
      (record {
        records = charged;
        standalones =
            rw (ap (λ (v : View T). v.work.standalones) searched.same) seated.charged.standalones;
      })

  -- where it holds what it held
  pub seated_sought : (view_of is).records ≡ (view_of was).records → IsSeated shard number used is
  seated_sought same =
      seated_searched used (omega arith) (rw same seated.records) (rw same seated.charged.records)

  -- where it has one record more, which has the next serial for its name
  pub seated_more : (r : Record) → (view_of is).records ≡ (view_of was).records ++ r ∷ []
      → r.name ≡ used → r.entry.charge < 2 ^ 32 → IsSeated shard number (used + 1) is
  seated_more r joins called small =
      seated_searched (used + 1) (omega arith)
      (rw joins
      (each_append (λ (q : Record). q.name < used + 1) (view_of was).records (r ∷ [])
      (names_later used (used + 1) (view_of was).records (omega arith) seated.records)
      (omega arith, tt)))
      (rw joins
      (each_append (λ (q : Record). q.entry.charge < 2 ^ 32) (view_of was).records (r ∷ [])
      seated.charged.records (small, tt)))

-- Of a client.

module _ {T : Type 0} where
  -- Nothing was found, or nothing was sought: the client has what it had.
  pub record IsLeft (old new : Client T) : Type 0 where
    pub handles : new.handles ≡ old.handles
    pub alone : new.alone ≡ old.alone
    pub held : new.held ≡ old.held
    pub uses : UsesNone old new

  module _ (cache : Cache T) (old new : Client T) (i : ℕ) (shard : Shard (Seeded T) _)
      (was is : ShardSeat (Seeded T)) (at : IsAt cache old i shard was)
      (change : ChangesAt old new i is) where
    module _ (left : IsLeft old new)
        (records : (view_of is).records ≡ (view_of was).records)
        (standalones : (view_of is).work.standalones ≡ (view_of was).work.standalones) where
      -- it is known still, where its seat is one of it
      pub knows_left : IsSeated shard old.number old.used is
          → (view_of is).made ≡ (view_of was).made → Knows cache new
      knows_left seated made =
          let count = at.knows.count in
          knows_at cache old new i shard was is at change (rw (left.uses.0) (omega arith))
          (rw (left.uses.0) seated)
          (home_kept cache old new i shard was is at made)
          (rw (change.seats, left.handles, left.alone, left.uses.0)
          (held_rest cache.seed old.used old.seats.items old.handles old.alone at.knows.holds i
          was is at.seat_is records standalones old.used (omega arith)))
          (rw (left.held, left.handles) count)
          (rw (left.held) at.knows.few)
          (rw (left.uses.0, left.uses.1) at.knows.serials)

      -- and its handles stand for what they stood for
      pub keeps_left : KeepsAll cache old new
      keeps_left = record {
        all =
            keeps_all cache old new change.number left.handles
            (λ p k there. rw (change.seats, left.alone)
            (stands_rest cache.seed old.used old.seats.items old.handles old.alone at.knows.holds
            i was is at.seat_is records standalones p k there));
        count = left.held;
        serials = left.uses;
      }

    -- It is known still, where nothing was found.
    pub knows_sought : IsLeft old new → Rests shard is → Sought (view_of was) (view_of is)
        → Knows cache new
    knows_sought left rests sought =
        knows_left left sought.records
        (ap (λ (v : View (Seeded T)). v.work.standalones) sought.searched.same)
        (seated_sought shard old.number old.used was is
        (seated_at cache old new i shard was is at) rests sought.searched sought.records)
        (ap (λ (v : View (Seeded T)). v.made) sought.searched.same)

    -- A look-up makes seven steps at most for each slot that it visits.
    pub looks_at : (before after : Effort)
        → MakesFor 7 0 (geometry_of shard).slots before after was.seat is.seat
        → TakesAtMost (7 * cache.geometry.slots) old new
    looks_at before after makes =
        let alike = at.knows.alike.plans i shard at.shard_is in
        let slots : (geometry_of shard).slots ≡ cache.geometry.slots =
        ap (λ (g : Geometry). g.slots) alike.0 in
        let within = makes.within in
        let steps = makes.steps in
        takes_at cache old new i shard was is at change (7 * cache.geometry.slots) (omega arith)

    -- The slots that it visited are counted.
    pub visits_at : (more : ℕ) (key : Key) → i ≡ shard_in cache key
        → MakesFor 7 more (geometry_of shard).slots was.effort is.effort was.seat is.seat
        → TakesFor cache 7 (λ v w. more) (shard_in cache key) old new
    visits_at more key there makes =
        let alike = at.knows.alike.plans i shard at.shard_is in
        takes_for cache old new i shard was is at change 7 more (λ v w. more) (shard_in cache key)
        there (rw (← alike.0) makes) (omega arith)

    -- It says what it found at each probe.
    pub searched_at : (fits : T → Key → List ℕ → Type 0) (key : Key) (found : Option Handle)
        → i ≡ shard_in cache key → (pin : Option Pin) → is_some pin ≡ is_some found
        → SearchesAt (fits_seeded fits) shard (key_to cache.seed key) old.used pin was is
        → SearchesFor cache fits key found old new
    searched_at fits key found there pin same searches =
        did_at cache old new i shard was is at change
        (λ s a b. (p : Option Pin) × (is_some p ≡ is_some found)
        × SearchesAt (fits_seeded fits) s (key_to cache.seed key) old.used p a b)
        (pin, same, searches) (shard_in cache key) there

    -- So it does where it reads on.
    pub searched_reading_at : (fits : T → Key → List ℕ → Type 0) (key : Key) (found : Option Handle)
        → i ≡ shard_in cache key → (pin : Option Pin) (looked : ShardSeat (Seeded T))
        → is_some pin ≡ is_some found
        → SearchesAt (fits_seeded fits) shard (key_to cache.seed key) old.used pin was looked
        → ReadsOn shard looked is → view_of is ≡ view_of looked
        → SearchesReadingFor cache fits key found old new
    searched_reading_at fits key found there pin looked same searches reads view =
        did_at cache old new i shard was is at change
        (λ s a b. (p : Option Pin) × (l : ShardSeat (Seeded T)) × (is_some p ≡ is_some found)
        × SearchesAt (fits_seeded fits) s (key_to cache.seed key) old.used p a l × ReadsOn s l b
        × (view_of b ≡ view_of l))
        (pin, looked, same, searches, reads, view) (shard_in cache key) there

    -- A look-up found none.
    pub misses : (key : Key) → IsLeft old new → i ≡ shard_in cache key
        → IsMissed (key_to cache.seed key) (view_of was) (view_of is)
        → Misses cache key old new
    misses key left there missed =
        let works : Works (shard_in cache key) old new (view_of was) (view_of is) =
        rw (← there) (works_at cache old new i shard was is at change) in
        record {
          v = view_of was;
          w = view_of is;
          works = works;
          misses = missed;
          held_dead =
              all_held_dead cache old new key (view_of was) (view_of is) at.knows works missed.dead;
          keeps =
              keeps_left left missed.sought.records
              (ap (λ (v : View (Seeded T)). v.work.standalones) missed.sought.searched.same);
        }

    -- One record more was found, and a handle on it is kept.
    module _ (handle : Handle) (hold : Hold) (slot : ℕ) (counting : Bool) (r : Record)
        (given : IsGiven old new handle hold) (alone : new.alone ≡ old.alone)
        (shard_is : hold.shard ≡ i) (kept : hold.kept ≡ Pinned slot counting)
        (searched : Searched (view_of was) (view_of is))
        (joins : (view_of is).records ≡ (view_of was).records ++ r ∷ [])
        (called : r.name ≡ old.used) (of : IsOf (pin_of hold.serial slot counting) r)
        (key_is : key_of r.entry ≡ key_to cache.seed hold.key) where
      standalones_same : (view_of is).work.standalones ≡ (view_of was).work.standalones
      standalones_same = ap (λ (v : View (Seeded T)). v.work.standalones) searched.same

      -- it is known still
      pub knows_more : hold.shard ≡ shard_of (key_to cache.seed hold.key) (length old.seats.items)
          → r.entry.charge < 2 ^ 32 → Rests shard is → old.held < old.most → Knows cache new
      knows_more home small rests few =
          let seated = seated_at cache old new i shard was is at in
          let left = given.uses.1 in
          let held = given.held in
          let count = given.count in
          let counted = at.knows.count in
          let serials = at.knows.serials in
          let used = given.uses.0 in
          knows_at cache old new i shard was is at change (omega arith)
          (rw used (seated_more shard old.number old.used was is seated rests searched r joins
          called small))
          (home_kept cache old new i shard was is at
          (ap (λ (v : View (Seeded T)). v.made) searched.same))
          (rw (change.seats, alone, used)
          (held_pinned cache.seed old.used old.seats.items old.handles old.alone at.knows.holds i
          was is r at.seat_is joins standalones_same hold slot counting handle.index new.handles
          seated.records given.named shard_is kept (within old.seats.items i was at.seat_is)
          called of key_is (sym shard_is ∙ home) given.free given.updates given.count))
          (omega arith) (omega arith) (omega arith)

      -- the handle stands for the record's entry
      pub gains_pinned : Gains cache handle (held_entry cache.seed r.entry) old new
      gains_pinned =
          let seated = seated_at cache old new i shard was is at in
          let there = there_pinned cache.seed old.used old.seats.items old.handles old.alone
          at.knows.holds i was is r at.seat_is joins standalones_same hold slot counting
          handle.index new.handles seated.records given.named shard_is kept
          (within old.seats.items i was at.seat_is) called of key_is in
          gains cache old new handle hold given (held_entry cache.seed r.entry)
          (rw (kept, change.seats)
          (ap (option_map (λ (q : Record). held_entry cache.seed q.entry)) there))
          (λ p k ne at_p. rw (change.seats, alone)
          (stands_pinned cache.seed old.used old.seats.items old.handles old.alone at.knows.holds i
          was is r at.seat_is joins standalones_same p k at_p))

      -- A look-up found it.
      pub finds : (fits : T → Key → List ℕ → Type 0) (key : Key) → i ≡ shard_in cache key
          → key_from cache.seed (key_to cache.seed key) ≡ key
          → IsFound (fits_seeded fits) (geometry_of shard).room slot old.used
          (key_to cache.seed key) (view_of was) (view_of is) r
          → Finds cache fits key handle old new
      finds fits key there undone found =
          let seated = seated_at cache old new i shard was is at in
          let alike = at.knows.alike.plans i shard at.shard_is in
          let tag : (view_of was).tag ≡ Some (tag_at cache i) =
          seated.rests.at.tagged ∙ ap Some alike.3 in
          let fitting : fits_seeded fits (tag_at cache i) (key_to cache.seed key) r.entry.value =
          rw tag at found.right in
          let right : fits cache.tag (key_from cache.seed (key_to cache.seed key)) r.entry.value =
          fitting.right in
          record {
            found = r;
            v = view_of was;
            w = view_of is;
            works = rw (← there) (works_at cache old new i shard was is at change);
            finds =
                subst (λ (s : ℕ). IsFound (fits_seeded fits) cache.geometry.room s handle.serial
                (key_to cache.seed key) (view_of was) (view_of is) r)
                (sym found.on) (rw (given.serial, ← alike.0) found);
            asked = ap (key_from cache.seed) found.asked ∙ undone;
            right = rw undone at right;
            gains = gains_pinned;
          }

      -- and it is that entry
      pub finds_it : (fits : T → Key → List ℕ → Type 0) (key : Key) (there : i ≡ shard_in cache key)
          (undone : key_from cache.seed (key_to cache.seed key) ≡ key)
          (found : IsFound (fits_seeded fits) (geometry_of shard).room slot old.used
          (key_to cache.seed key) (view_of was) (view_of is) r)
          → (finds fits key there undone found).found ≡ r
      unfolding finds
      finds_it fits key there undone found = refl
