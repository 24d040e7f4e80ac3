-- A client that asked one shard for an entry: what it needs, and what it knows afterwards.
use Rattle.std.proofs.Common.{◌≡◌, ◌⊎◌, inl, inr, ℕ, suc, ◌+◌, ◌*◌, ◌^◌, ◌<◌, ◌≤◌, Bool, true, false, List, [], ◌∷◌, ◌++◌, Some, None, Result, Ok, Err, length, get_or, subst, sym, refl, ap, ◌∙◌, append-nil, arith}
use Rattle.hcc_core.specs.declared.client.Standalone.{Standalone}
use Rattle.hcc_core.specs.declared.limits.TheConstants.{MOST_COUNTDOWN}
use Rattle.hcc_core.specs.declared.slot.Entry.{Entry}
use Rattle.hcc_rule.specs.declared.geometry.Geometry.{Geometry}
use Rattle.hcc_rule.specs.declared.key.Key.{Key}
use Rattle.hcc_rule.specs.declared.steps.shows.Draft.{Draft}
use Rattle.hcc_rule.specs.declared.view.Made.{Made}
use Rattle.hcc_rule.specs.declared.view.Record.{Record}
use Rattle.hcc_rule.specs.declared.view.View.{View}
use Rattle.hcc_rule.specs.Rule.{IsAbove}
use Rattle.hcc_rule.specs.ToldOwners.{first_records, made_of, shown_entry}
use Rattle.hcc_rule.specs.Views.{Each}
use Rattle.hcc_table.specs.Steps.{MakesFor}
use Rattle.hcc_charge.specs.declared.reserving.Refused.{Refused}
use Rattle.hcc_charge.specs.declared.reserving.Refused.TheVariants.{CapacityFull, OccupancyFull, TooLarge}
use Rattle.hcc_shard.specs.declared.inserting.Inserted.{Inserted}
use Rattle.hcc_shard.specs.declared.inserting.Inserted.TheVariants.{Dropped, Placed}
use Rattle.hcc_shard.specs.declared.inserting.Pinned.{Pinned}
use Rattle.hcc_shard.specs.declared.seat.ShardSeat.{ShardSeat}
use Rattle.hcc_shard.specs.declared.shard.Shard.{Shard}
use Rattle.hcc_shard.specs.Callers.{capacity_of, geometry_of, is_strict, plan_of, steps_of, view_of}
use Rattle.hcc_shard.specs.Inserted.{InsertedBy, IsInsertable, IsUnshown, MakesNoEntry, RefusedBy, Shows, inserting_listed, listed_between}
use Rattle.hcc_shard.specs.Reserving.{InsertedAs, PinnedAs}
use Rattle.hcc_shard.specs.Seated.{Rests}
use Rattle.hcc_shard.proofs.Names.{above_later, above_more, each_more, length_more}
use Rattle.hcc_cache.specs.declared.cache.Cache.{Cache}
use Rattle.hcc_cache.specs.declared.client.Client.{Client}
use Rattle.hcc_cache.specs.declared.priority.Priority.{Priority}
use Rattle.hcc_cache.specs.declared.seeded.Seeded.{Seeded}
use Rattle.hcc_cache.specs.Calls.{TakesAtMost, TakesFor, UsesOne, shard_in}
use Rattle.hcc_cache.specs.Inserts.{Fails, KeepsHandles, PinsAtListed, StoresAtListed, StoresListed, draft_of, pinned_draft}
use Rattle.hcc_cache.specs.Keys.{fits_seeded, key_from}
use Rattle.hcc_cache.specs.Sharding.{key_to, shard_of}
use Rattle.hcc_cache.specs.Known.{AreCharged, IsHome, IsSeated, Knows}
use Rattle.hcc_cache.proofs.Clients.AtOneShard.{ChangesAt, IsAt, did_at, knows_at, next_at, seated_at, takes_at, takes_for, works_at}
use Rattle.hcc_cache.proofs.Searches.MissedOrErasedKeys.{seeded_back}
use Rattle.hcc_cache.proofs.Handles.SameHolds.{keeps_all}
use Rattle.hcc_cache.proofs.Handles.StandAsBefore.{held_rest, stands_rest}
use Rattle.hcc_cache.proofs.Basics.FoundByName.{names_later, standings_later}
use Rattle.hcc_cache.proofs.Clients.Seats.{seated_by}

-- Of what was made.

-- one entry of this key more, under this serial, or none
abbrev pub MadeBy : Key → (serial : ℕ) → (old new : List Made) → Type 0
MadeBy key serial old new =
    (new ≡ old)
    ⊎ ((made : Made) × (made.key ≡ key) × (made.serial ≡ serial) × (new ≡ old ++ made ∷ []))

-- They are one more at most,
made_few : (key : Key) (serial : ℕ) (old new : List Made) → MadeBy key serial old new
    → length new ≤ length old + 1
made_few key serial old new (inl same) = let long = ap length same in omega arith
made_few key serial old new (inr more) =
    let long = ap length more.3 in
    let one = length_more old more.0 in
    omega arith

-- their serials below the next,
made_above : (key : Key) (serial : ℕ) (old new : List Made) → MadeBy key serial old new
    → IsAbove serial old → IsAbove (serial + 1) new
made_above key serial old new (inl same) above =
    rw same (above_later serial (serial + 1) old (omega arith) above)
made_above key serial old new (inr more) above =
    rw (more.3) (above_more serial old more.0 more.2 above)

-- and all of this shard still, where the key is.
pub made_home : (seed shards number : ℕ) (key : Key) (serial : ℕ) (old new : List Made)
    → Each (IsHome seed shards number) old → shard_of (key_to seed key) shards ≡ number
    → MadeBy (key_to seed key) serial old new → Each (IsHome seed shards number) new
made_home seed shards number key serial old new home here (inl same) = rw same home
made_home seed shards number key serial old new home here (inr more) =
    let back = ap (λ k. key_to seed (key_from seed k)) more.1 ∙ seeded_back seed key in
    rw (more.3) (each_more (IsHome seed shards number) old more.0 home
    (back ∙ sym more.1, ap (λ k. shard_of k shards) more.1 ∙ here))

-- Of a view.

-- the record that a client keeps of the entry that it shows
abbrev pub first_record : (slot name : ℕ) → Entry → Record
first_record slot name entry = record {
  slot = slot;
  name = name;
  weight = 1;
  counting = true;
  shown = false;
  entry = entry;
}

module _ {T : Type 0} where
  -- An insertion was tried: whom the view stands for stays, and one entry of this key was made at
  -- most, under this serial.
  pub record IsTried (key : Key) (serial : ℕ) (v w : View T) : Type 0 where
    pub client : w.client ≡ v.client
    pub others : w.others ≡ v.others
    pub made : MadeBy key serial v.made w.made

  -- An insertion was tried, and these are the references and the standalone entries after it.
  pub record Leaves (key : Key) (serial : ℕ) (records : List Record)
      (standalones : List Standalone) (v w : View T) : Type 0 where
    pub tried : IsTried key serial v w
    pub records_are : w.records ≡ records
    pub standalones_are : w.work.standalones ≡ standalones

  -- as this view has them
  leaves_by : (v w x : View T) → w ≡ x → x.client ≡ v.client → x.others ≡ v.others
      → (key : Key) (serial : ℕ) → MadeBy key serial v.made x.made
      → Leaves key serial x.records x.work.standalones v w
  leaves_by v w x same client others key serial made =
      record {
        tried = record {
          client = ap (λ (z : View T). z.client) same ∙ client;
          others = ap (λ (z : View T). z.others) same ∙ others;
          made = rw (ap (λ (z : View T). z.made) same) made;
        };
        records_are = ap (λ (z : View T). z.records) same;
        standalones_are = ap (λ (z : View T). z.work.standalones) same;
      }

  module _ (had has : Bool) (slots capacity : ℕ) (strict : Bool) (draft : Draft) (value : List ℕ)
      (v w : View T) where
    -- no entry was made
    leaves_none : (standalones : List Standalone)
        → MakesNoEntry had has slots capacity strict draft standalones v w
        → Leaves draft.key draft.serial v.records standalones v w
    leaves_none standalones tries =
        leaves_by v w _ (tries.same) refl refl draft.key draft.serial (inl refl)

    -- an entry was shown
    leaves_shown : (slot : ℕ) → Shows had has slots capacity strict draft value slot v w
        → Leaves draft.key draft.serial
        (v.records ++ first_records slot draft.name (shown_entry v (made_of draft value)))
        v.work.standalones v w
    leaves_shown slot shows =
        leaves_by v w _ (shows.tries.same) refl refl draft.key draft.serial
        (inr (made_of draft value, refl, refl, refl))

    -- one was kept out of the table
    pub leaves_unshown : (standalones : List Standalone)
        → IsUnshown had has slots capacity strict draft standalones v w
        → Leaves draft.key draft.serial v.records standalones v w
    leaves_unshown standalones unshown = leaves_none standalones (unshown.tries)

    -- the shard refused it
    pub leaves_refused : (why : Refused) → RefusedBy had has slots capacity strict draft why v w
        → Leaves draft.key draft.serial v.records v.work.standalones v w
    leaves_refused TooLarge told =
        leaves_by v w v (told.2) refl refl draft.key draft.serial (inl refl)
    leaves_refused CapacityFull told = leaves_none v.work.standalones (told.0)
    leaves_refused OccupancyFull told = leaves_none v.work.standalones (told.0)

    -- An insertion that keeps no reference leaves those that there were.
    pub leaves_stored : (answer : Result Inserted Refused) → draft.name ≡ None
        → InsertedBy had has slots capacity strict draft value answer v w
        → Leaves draft.key draft.serial v.records v.work.standalones v w
    leaves_stored (Ok Placed) unnamed told =
        let shown = leaves_shown (told.0) (told.1) in
        record {
          tried = shown.tried;
          records_are =
              shown.records_are
              ∙ (ap
              (λ o. v.records ++ first_records (told.0) o (shown_entry v (made_of draft value)))
              unnamed ∙ append-nil v.records);
          standalones_are = shown.standalones_are;
        }
    leaves_stored (Ok Dropped) unnamed told = leaves_unshown v.work.standalones told
    leaves_stored (Err why) unnamed told = leaves_refused why told

    -- One that keeps a reference joins it.
    pub leaves_pinned : (slot name : ℕ) → draft.name ≡ Some name
        → Shows had has slots capacity strict draft value slot v w
        → Leaves draft.key draft.serial
        (v.records ++ first_record slot name (shown_entry v (made_of draft value)) ∷ [])
        v.work.standalones v w
    leaves_pinned slot name named shows =
        let shown = leaves_shown slot shows in
        record {
          tried = shown.tried;
          records_are =
              shown.records_are
              ∙ ap (λ o. v.records ++ first_records slot o (shown_entry v (made_of draft value)))
              named;
          standalones_are = shown.standalones_are;
        }

-- Of a seat.

-- The seat is one of its client still, once a serial was used.
pub seated_tried : {T A : Type 0} (shard : Shard T A) (number used : ℕ) (was is : ShardSeat T)
    → IsSeated shard number used was → Rests shard is → (key : Key)
    → IsTried key used (view_of was) (view_of is)
    → Each (λ (r : Record). r.name < used + 1) (view_of is).records
    → Each (λ (s : Standalone). s.name < used + 1) (view_of is).work.standalones
    → AreCharged (view_of is) → IsSeated shard number (used + 1) is
seated_tried shard number used was is seated rests key tried records standalones charged =
    let before = seated.made in
    let more = made_few key used (view_of was).made (view_of is).made tried.made in
    seated_by shard number used (used + 1) was is seated rests tried.client tried.others records
    standalones (omega arith)
    (made_above key used (view_of was).made (view_of is).made tried.made seated.above) charged

-- Of a client.

-- the members of a list that is read
each_read : (P : ℕ → Type 0) (xs : List ℕ) → ((k : ℕ) → k < length xs → P (get_or xs k 0))
    → Each P xs
each_read P [] all = tt
each_read P (x ∷ xs) all =
    (all 0 (omega arith), each_read P xs (λ k inside. all (suc k) (omega arith)))

module _ {T : Type 0} where
  -- A client asked a shard: it used a serial, and has what it had.
  pub record IsAsked (old new : Client T) : Type 0 where
    pub handles : new.handles ≡ old.handles
    pub alone : new.alone ≡ old.alone
    pub held : new.held ≡ old.held
    pub uses : UsesOne old new

  module _ (cache : Cache T) (old new : Client T) (i : ℕ) (shard : Shard (Seeded T) _)
      (was is : ShardSeat (Seeded T)) (at : IsAt cache old i shard was) where
    -- An entry of the caller's key may be inserted there, named by the next serial.
    pub insertable_at : (fits : T → Key → List ℕ → Type 0) (key : Key) (value : List ℕ)
        (draft : Draft) → fits cache.tag key value → length value ≤ 8 * cache.geometry.room
        → ((k : ℕ) → k < length value → get_or value k 0 < 256)
        → (0 < draft.charge) × (draft.charge < 2 ^ 32)
        → (1 ≤ draft.countdown) × (draft.countdown ≤ MOST_COUNTDOWN)
        → draft.serial ≡ old.used → key_from cache.seed draft.key ≡ key
        → shard_of draft.key (length cache.shards.items) ≡ i → 0 < old.left
        → IsInsertable (fits_seeded fits) (plan_of shard) draft value (view_of was)
    insertable_at fits key value draft right short bytes paid countdown serial undone home some =
        let alike = at.knows.alike.plans i shard at.shard_is in
        let next = next_at cache old new i shard was is at some in
        let room : (plan_of shard).geometry.room ≡ cache.geometry.room =
        ap (λ (g : Geometry). g.room) (shard.table.planned.0 ∙ alike.0) in
        record {
          right = record {
            fitting = rw alike.3 (record { right = rw undone right; home = home });
            short = rw room short;
            bytes = each_read (λ b. b < 256) value bytes;
            numbered = rw serial (next.low);
            paid = paid.0;
            small = paid.1;
          };
          paid = paid.0;
          some = countdown.0;
          few = countdown.1;
          next = rw serial next;
        }

    -- What the shard tells by its own sizes it tells by the cache's.
    pub told_as : (P : ℕ → ℕ → Bool → Draft → Type 0) (draft asked : Draft) → draft ≡ asked
        → P (geometry_of shard).slots (capacity_of shard) (is_strict shard) draft
        → P cache.geometry.slots cache.capacity cache.strict asked
    told_as P draft asked same told =
        let alike = at.knows.alike.plans i shard at.shard_is in
        let slots : (geometry_of shard).slots ≡ cache.geometry.slots =
        ap (λ (g : Geometry). g.slots) alike.0 in
        rw (← slots, ← alike.1, ← alike.2, ← same) told

    -- So does what one did that keeps a reference.
    pub pins_as : (fits : T → Key → List ℕ → Type 0) (draft asked : Draft) → draft ≡ asked
        → (had has : Bool) (told answer : Result Pinned Refused) → told ≡ answer
        → PinnedAs (fits_seeded fits) shard draft had has told was is
        → PinnedAs (fits_seeded fits) shard asked had has answer was is
    pins_as fits draft asked same had has told answer is_told did =
        subst (λ o. PinnedAs (fits_seeded fits) shard asked had has o was is) is_told
        (subst (λ d. PinnedAs (fits_seeded fits) shard d had has told was is) same did)

    module _ (change : ChangesAt old new i is) where
      module _ (fits : T → Key → List ℕ → Type 0) (key : Key) (charge : ℕ) (priority : Priority)
          (here : i ≡ shard_in cache key) where
        -- what an insertion did at its shard,
        pub stores_did : (had has : Bool) (draft : Draft)
            → draft ≡ draft_of cache key charge priority (λ c. None) old
            → (answer : Result Inserted Refused)
            → InsertedAs (fits_seeded fits) shard draft had has answer was is
            → StoresAtListed cache fits key charge priority had has answer old new
        stores_did had has draft same answer did =
            did_at cache old new i shard was is at change
            (λ s a b. InsertedAs (fits_seeded fits) s
            (draft_of cache key charge priority (λ c. None) old) had has answer a b)
            (subst (λ d. InsertedAs (fits_seeded fits) shard d had has answer was is) same did)
            (shard_in cache key) here

        -- and one that keeps a reference
        pub pins_did : (had has : Bool) (draft : Draft)
            → draft ≡ draft_of cache key charge priority (λ c. Some c.used) old
            → (told answer : Result Pinned Refused) → told ≡ answer
            → PinnedAs (fits_seeded fits) shard draft had has told was is
            → PinsAtListed cache fits key charge priority had has answer old new
        pins_did had has draft same told answer is_told did =
            did_at cache old new i shard was is at change
            (λ s a b. PinnedAs (fits_seeded fits) s
            (draft_of cache key charge priority (λ c. Some c.used) old) had has answer a b)
            (pins_as fits draft _ same had has told answer is_told did) (shard_in cache key) here

      -- the steps of an insertion
      pub inserts_at : (loads : ℕ) → steps_of is
          ≤ steps_of was + inserting_listed (geometry_of shard).slots (geometry_of shard).room loads
          → TakesAtMost (inserting_listed cache.geometry.slots cache.geometry.room loads) old new
      inserts_at loads few =
          let alike = at.knows.alike.plans i shard at.shard_is in
          takes_at cache old new i shard was is at change
          (inserting_listed cache.geometry.slots cache.geometry.room loads) (rw (← alike.0) few)

      -- and of one that came to stand alone, and was let go
      pub undoes_at : (loads : ℕ) (mid : ShardSeat (Seeded T)) → steps_of mid
          ≤ steps_of was + inserting_listed (geometry_of shard).slots (geometry_of shard).room loads
          → steps_of is ≤ steps_of mid + 2
          → TakesAtMost (inserting_listed cache.geometry.slots cache.geometry.room loads + 2) old
          new
      undoes_at loads mid few two =
          let alike = at.knows.alike.plans i shard at.shard_is in
          takes_at cache old new i shard was is at change
          (inserting_listed cache.geometry.slots cache.geometry.room loads + 2)
          (rw (← alike.0) (omega arith))

      -- and by what it turned and freed
      pub frees_at : (loads number : ℕ) → i ≡ number
          → MakesFor 7 (listed_between (geometry_of shard).slots (geometry_of shard).room loads
          (view_of was) (view_of is)) (geometry_of shard).slots was.effort is.effort was.seat
          is.seat
          → TakesFor cache 7 (listed_between cache.geometry.slots cache.geometry.room loads) number
          old new
      frees_at loads number here makes =
          let alike = at.knows.alike.plans i shard at.shard_is in
          takes_for cache old new i shard was is at change 7
          (listed_between cache.geometry.slots cache.geometry.room loads (view_of was) (view_of is))
          (listed_between cache.geometry.slots cache.geometry.room loads) number here
          (rw (← alike.0) makes) (omega arith)

      -- Where the client gained nothing, it is known still,
      module _ (rests : Rests shard is) {sought : Key}
          (left : Leaves sought old.used (view_of was).records (view_of was).work.standalones
          (view_of was) (view_of is)) (asked : IsAsked old new) where
        pub knows_asked : (key : Key) → sought ≡ key_to cache.seed key → i ≡ shard_in cache key
            → Knows cache new
        knows_asked key for here =
            let seated = seated_at cache old new i shard was is at in
            let used = asked.uses.0 in
            let rest = asked.uses.1 in
            let serials = at.knows.serials in
            knows_at cache old new i shard was is at change (omega arith)
            (rw used (seated_tried shard old.number old.used was is seated rests sought left.tried
            (rw (left.records_are)
            (names_later old.used (old.used + 1) (view_of was).records (omega arith)
            seated.records))
            (rw (left.standalones_are)
            (standings_later old.used (old.used + 1) (view_of was).work.standalones (omega arith)
            seated.standalones))
            (record {
              records = rw (left.records_are) seated.charged.records;
              standalones = rw (left.standalones_are) seated.charged.standalones;
            })))
            (made_home cache.seed (length old.seats.items) i key old.used (view_of was).made
            (view_of is).made (at.knows.homes i was at.seat_is)
            (rw (at.knows.seated.count) (sym here))
            (subst (λ k. MadeBy k old.used (view_of was).made (view_of is).made) for
            left.tried.made))
            (rw (change.seats, asked.handles, asked.alone, used)
            (held_rest cache.seed old.used old.seats.items old.handles old.alone at.knows.holds i
            was is at.seat_is left.records_are left.standalones_are (old.used + 1) (omega arith)))
            (rw (asked.held, asked.handles) at.knows.count)
            (rw (asked.held) at.knows.few)
            (omega arith)

        -- its handles stand for what they stood for,
        pub keeps_asked : KeepsHandles cache old new
        keeps_asked = record {
          all =
              keeps_all cache old new change.number asked.handles
              (λ p k there. rw (change.seats, asked.alone)
              (stands_rest cache.seed old.used old.seats.items old.handles old.alone
              at.knows.holds i was is at.seat_is left.records_are left.standalones_are p k
              there));
          count = asked.held;
          serials = asked.uses;
        }

        module _ (key : Key) (charge : ℕ) (priority : Priority) (value : List ℕ)
            (here : i ≡ shard_in cache key) where
          -- and the shard was asked for an entry without a reference,
          pub stores_at : (had has : Bool) (answer : Result Inserted Refused)
              → InsertedBy had has cache.geometry.slots cache.capacity cache.strict
              (draft_of cache key charge priority (λ c. None) old) value answer (view_of was)
              (view_of is)
              → StoresListed cache key charge priority value had has answer old new
          stores_at had has answer told = record {
            v = view_of was;
            w = view_of is;
            works = rw (← here) (works_at cache old new i shard was is at change);
            told = told;
            keeps = keeps_asked;
          }

          -- or refused one with a reference.
          pub fails_at : (had has : Bool) (why : Refused)
              → RefusedBy had has cache.geometry.slots cache.capacity cache.strict
              (pinned_draft cache key charge priority value old) why (view_of was) (view_of is)
              → Fails cache key charge priority value had has why old new
          fails_at had has why told = record {
            asks = record {
              v = view_of was;
              w = view_of is;
              works = rw (← here) (works_at cache old new i shard was is at change);
              told = told;
            };
            keeps = keeps_asked;
          }
