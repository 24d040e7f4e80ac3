-- A client that was handed a handle on what it inserted.
use Rattle.std.proofs.Common.{◌≡◌, ℕ, ◌+◌, ◌^◌, ◌<◌, ◌≤◌, Bool, List, [], ◌∷◌, ◌++◌, Some, None, Ok, length, option_map, sym, refl, ap, subst, arith}
use Rattle.slab.specs.Slab.{slab_len}
use Rattle.hcc_core.specs.declared.client.Standalone.{Standalone}
use Rattle.hcc_core.specs.declared.limits.TheConstants.{MOST_HANDLES}
use Rattle.hcc_rule.specs.declared.key.Key.{Key}
use Rattle.hcc_rule.specs.declared.steps.shows.Draft.{Draft}
use Rattle.hcc_rule.specs.declared.view.Record.{Record}
use Rattle.hcc_rule.specs.ToldOwners.{made_of, shown_entry}
use Rattle.hcc_rule.specs.Views.{Each}
use Rattle.hcc_rule.specs.Words.{key_of}
use Rattle.hcc_rule.proofs.Basics.Lists.{within}
use Rattle.hcc_table.specs.declared.pins.Pin.{Pin}
use Rattle.hcc_shard.specs.declared.inserting.Pinned.TheVariants as pinned
use Rattle.hcc_shard.specs.declared.inserting.Pinned.{Pinned as Answered}
use Rattle.hcc_shard.specs.declared.seat.ShardSeat.{ShardSeat}
use Rattle.hcc_shard.specs.declared.shard.Shard.{Shard}
use Rattle.hcc_shard.specs.Callers.{capacity_of, geometry_of, is_strict, view_of}
use Rattle.hcc_shard.specs.Inserted.{PinnedBy}
use Rattle.hcc_shard.specs.Seated.{Rests}
use Rattle.hcc_shard.proofs.Names.{each_more}
use Rattle.hcc_cache.specs.Alones.{bytes_of}
use Rattle.hcc_cache.specs.declared.cache.Cache.{Cache}
use Rattle.hcc_cache.specs.declared.client.Client.{Client}
use Rattle.hcc_cache.specs.declared.handle.Handle.{Handle}
use Rattle.hcc_cache.specs.declared.holding.Alone.{Alone}
use Rattle.hcc_cache.specs.declared.holding.Hold.{Hold}
use Rattle.hcc_cache.specs.declared.holding.Kept.{Kept}
use Rattle.hcc_cache.specs.declared.holding.Kept.TheVariants.{Pinned, Standing}
use Rattle.hcc_cache.specs.declared.priority.Priority.{Priority}
use Rattle.hcc_cache.specs.declared.seeded.Seeded.{Seeded}
use Rattle.hcc_cache.specs.Calls.{Gains, shard_in}
use Rattle.hcc_cache.specs.Clients.{held_alone, held_entry}
use Rattle.hcc_cache.specs.Inserts.{Pins, Stands, pinned_draft}
use Rattle.hcc_cache.specs.Keys.{key_from}
use Rattle.hcc_cache.specs.Sharding.{key_to}
use Rattle.hcc_cache.specs.Known.{AreCharged, AreHeld, Knows, references_of, standalones_at}
use Rattle.hcc_cache.proofs.Insertions.StandaloneEntry.{IsJoined, held_joined, known_of, stands_joined}
use Rattle.hcc_cache.proofs.Clients.AtOneShard.{ChangesAt, IsAt, knows_at, seated_at, works_at}
use Rattle.hcc_cache.proofs.Handles.OneMore.{IsGiven, gains}
use Rattle.hcc_cache.proofs.Insertions.KnownAfterInsertion.{IsTried, Leaves, first_record, leaves_pinned, made_home, seated_tried, told_as}
use Rattle.hcc_cache.proofs.Handles.OneMoreReference.{held_pinned, stands_pinned, there_pinned}
use Rattle.hcc_cache.proofs.Basics.FoundByName.{names_later, standings_later}
use Rattle.hcc_cache.proofs.Basics.SlabSums.{len_within}
use Rattle.hcc_core.proofs.SumLemmas.{total-member}

-- what a client keeps of a handle that this serial names
abbrev pub hold_with : (serial : ℕ) → Key → (shard : ℕ) → Kept → Hold
hold_with serial key shard kept =
    record { serial = serial; key = key; shard = shard; kept = kept }

-- The standalone entries of a client are no more than its handles.
pub alone_within : {T : Type 0} (cache : Cache T) (client : Client T) → Knows cache client
    → slab_len client.alone ≤ client.held
alone_within cache client knows =
    let each = len_within references_of client.alone
    (λ p a there. (knows.holds.some p a there).0) in
    let references = knows.holds.references in
    let count = knows.count in
    omega arith

-- A handle on one more has room.
pub has_room : {T : Type 0} (cache : Cache T) (client : Client T) → Knows cache client
    → client.held < client.most
    → (slab_len client.handles + 1 ≤ client.handles.capacity)
    × (slab_len client.alone + 1 ≤ client.alone.capacity)
has_room cache client knows free =
    let fewer = alone_within cache client knows in
    let count = knows.count in
    let handles = knows.room.0 in
    let alone = knows.room.1 in
    (omega arith, omega arith)

module _ {T : Type 0} (cache : Cache T) (old new : Client T) (i : ℕ) (shard : Shard (Seeded T) _)
    (was is : ShardSeat (Seeded T)) (at : IsAt cache old i shard was) where
  -- One more standalone entry may be held there.
  pub few_alone : old.held < old.most → length (view_of was).work.standalones < MOST_HANDLES
  few_alone free =
      let part = total-member standalones_at old.seats.items i was at.seat_is in
      let entries = at.knows.holds.entries in
      let fewer = alone_within cache old at.knows in
      let most = at.knows.most in
      omega arith

  -- What the shard answered, in the cache's words.
  pub pinned_told : (had has : Bool) (draft asked : Draft) → draft ≡ asked → (bytes value : List ℕ)
      → bytes ≡ value
      → (answer told : Answered) → answer ≡ told
      → PinnedBy had has (geometry_of shard).slots (capacity_of shard) (is_strict shard) draft
      bytes
      (Ok answer) (view_of was) (view_of is)
      → PinnedBy had has cache.geometry.slots cache.capacity cache.strict asked value (Ok told)
      (view_of was) (view_of is)
  pinned_told had has draft asked same bytes value read answer told named by_shard =
      told_as cache old new i shard was is at
      (λ s b p d. PinnedBy had has s b p d value (Ok told) (view_of was) (view_of is)) draft asked
      same
      (subst (λ x. At x told) read (subst (At bytes) named by_shard))
    where
      At : List ℕ → Answered → Type 0
      At x o =
          PinnedBy had has (geometry_of shard).slots (capacity_of shard) (is_strict shard) draft x
          (Ok o)
          (view_of was) (view_of is)

  module _ (change : ChangesAt old new i is) (rests : Rests shard is) (handle : Handle) (key : Key)
      (kept : Kept) (given : IsGiven old new handle (hold_with old.used key i kept))
      (few : old.held < old.most) where
    -- The client is known still, where its seat is one of it, and it keeps what it holds.
    knows_given : i ≡ shard_in cache key
        → IsTried (key_to cache.seed key) old.used (view_of was) (view_of is)
        → Each (λ (r : Record). r.name < old.used + 1) (view_of is).records
        → Each (λ (s : Standalone). s.name < old.used + 1) (view_of is).work.standalones
        → AreCharged (view_of is)
        → AreHeld cache.seed (old.used + 1) new.seats.items new.handles new.alone
        → Knows cache new
    knows_given here tried records standalones charged holds =
        let seated = seated_at cache old new i shard was is at in
        let used = given.uses.0 in
        let left = given.uses.1 in
        let held = given.held in
        let count = given.count in
        let counted = at.knows.count in
        let serials = at.knows.serials in
        knows_at cache old new i shard was is at change (omega arith)
        (rw used
        (seated_tried shard old.number old.used was is seated rests (key_to cache.seed key) tried
        records standalones charged))
        (made_home cache.seed (length old.seats.items) i key old.used (view_of was).made
        (view_of is).made (at.knows.homes i was at.seat_is) (rw (at.knows.seated.count) (sym here))
        tried.made)
        (rw used holds) (omega arith) (omega arith) (omega arith)

    -- Of an entry of the table.
    module _ (slot : ℕ) (counting : Bool) (r : Record) (alone : new.alone ≡ old.alone)
        (kept_is : kept ≡ Pinned slot counting)
        (left : Leaves (key_to cache.seed key) old.used ((view_of was).records ++ r ∷ [])
        (view_of was).work.standalones (view_of was) (view_of is))
        (called : r.name ≡ old.used)
        (of : (r.slot ≡ slot) × (r.weight ≡ 1) × (r.counting ≡ counting))
        (key_is : key_of r.entry ≡ key_to cache.seed key) where
      knows_placed : i ≡ shard_in cache key → r.entry.charge < 2 ^ 32 → Knows cache new
      knows_placed here small =
          let seated = seated_at cache old new i shard was is at in
          knows_given here left.tried
          (rw (left.records_are)
          (each_more (λ (q : Record). q.name < old.used + 1) (view_of was).records r
          (names_later old.used (old.used + 1) (view_of was).records (omega arith) seated.records)
          (omega arith)))
          (rw (left.standalones_are)
          (standings_later old.used (old.used + 1) (view_of was).work.standalones (omega arith)
          seated.standalones))
          (record {
            records =
                rw (left.records_are)
                (each_more (λ (q : Record). q.entry.charge < 2 ^ 32) (view_of was).records r
                seated.charged.records small);
            standalones = rw (left.standalones_are) seated.charged.standalones;
          })
          (rw (change.seats, alone)
          (held_pinned cache.seed old.used old.seats.items old.handles old.alone at.knows.holds i
          was is r at.seat_is left.records_are left.standalones_are
          (hold_with old.used key i kept) slot counting handle.index new.handles seated.records
          refl refl kept_is (within old.seats.items i was at.seat_is) called of key_is
          (rw (at.knows.seated.count) here) given.free given.updates given.count))

      gains_placed : Gains cache handle (held_entry cache.seed r.entry) old new
      gains_placed =
          let seated = seated_at cache old new i shard was is at in
          let there = there_pinned cache.seed old.used old.seats.items old.handles old.alone
          at.knows.holds i was is r at.seat_is left.records_are left.standalones_are
          (hold_with old.used key i kept) slot counting handle.index new.handles
          seated.records refl refl kept_is (within old.seats.items i was at.seat_is) called of
          key_is in
          gains cache old new handle (hold_with old.used key i kept) given
          (held_entry cache.seed r.entry)
          (rw (kept_is, change.seats)
          (ap (option_map (λ (q : Record). held_entry cache.seed q.entry)) there))
          (λ p k ne at_p. rw (change.seats, alone)
          (stands_pinned cache.seed old.used old.seats.items old.handles old.alone at.knows.holds i
          was is r at.seat_is left.records_are left.standalones_are p k at_p))

    -- Of a standalone entry.
    module _ (index : ℕ) (a : Alone) (kept_is : kept ≡ Standing index)
        (tried : IsTried (key_to cache.seed key) old.used (view_of was) (view_of is))
        (joined : IsJoined old.used was is old.alone new.alone index a) where
      pub knows_alone : i ≡ shard_in cache key → a.charge < 2 ^ 32 → Knows cache new
      knows_alone here small =
          let seated = seated_at cache old new i shard was is at in
          let called = joined.called in
          knows_given here tried
          (rw (joined.records)
          (names_later old.used (old.used + 1) (view_of was).records (omega arith)
          seated.records))
          (rw (joined.standalones)
          (each_more (λ (s : Standalone). s.name < old.used + 1) (view_of was).work.standalones
          (known_of a)
          (standings_later old.used (old.used + 1) (view_of was).work.standalones (omega arith)
          seated.standalones)
          (omega arith)))
          (record {
            records = rw (joined.records) seated.charged.records;
            standalones =
                rw (joined.standalones)
                (each_more (λ (s : Standalone). s.charge < 2 ^ 32) (view_of was).work.standalones
                (known_of a) seated.charged.standalones small);
          })
          (rw (change.seats)
          (held_joined cache.seed old.used old.seats.items old.handles old.alone new.alone
          at.knows.holds i was is index a at.seat_is joined (hold_with old.used key i kept)
          handle.index new.handles seated.standalones refl refl kept_is
          (within old.seats.items i was at.seat_is) given.free given.updates
          (rw (at.knows.seated.count) here) given.count))

      gains_alone : Gains cache handle (held_alone key a) old new
      gains_alone =
          gains cache old new handle (hold_with old.used key i kept) given (held_alone key a)
          (rw (kept_is, joined.updates.changed) refl)
          (λ p k ne at_p. rw (change.seats)
          (stands_joined cache.seed old.used old.seats.items old.handles old.alone new.alone
          at.knows.holds i was is index a at.seat_is joined p k at_p))

    -- What the shard was asked for, and answered.
    module _ (charge : ℕ) (priority : Priority) (value : List ℕ) (here : i ≡ shard_in cache key)
      where
        -- The entry was placed, and the handle is on it:
        module _ (had has : Bool) (pin : Pin) (undone : key_from cache.seed (key_to cache.seed key)
            ≡ key)
            (alone : new.alone ≡ old.alone) (kept_is : kept ≡ Pinned pin.slot pin.counting)
            (told : PinnedBy had has cache.geometry.slots cache.capacity cache.strict
            (pinned_draft cache key charge priority value old) value (Ok (pinned.Placed pin))
            (view_of was) (view_of is)) where
          abbrev handled : Record
          handled =
              first_record pin.slot old.used
              (shown_entry (view_of was)
              (made_of (pinned_draft cache key charge priority value old) value))

          left_placed : Leaves (key_to cache.seed key) old.used
              ((view_of was).records ++ handled ∷ []) (view_of was).work.standalones (view_of was)
              (view_of is)
          left_placed =
              leaves_pinned had has cache.geometry.slots cache.capacity cache.strict
              (pinned_draft cache key charge priority value old) value (view_of was) (view_of is)
              pin.slot old.used refl told.0

          pub knows_pins : charge < 2 ^ 32 → Knows cache new
          knows_pins small =
              knows_placed pin.slot pin.counting handled alone kept_is left_placed refl
              (refl, refl, sym told.2) refl here small

          pub pins_at : Pins cache key charge priority value had has handle old new
          pins_at = record {
            pin = pin;
            asks = record {
              v = view_of was;
              w = view_of is;
              works = rw (← here) (works_at cache old new i shard was is at change);
              told = told;
            };
            gains =
                subst (λ h. Gains cache handle h old new)
                (λ j. record {
                  insertion = record { key = undone j; value = value; charge = charge };
                  entry = Some handled.entry;
                  standing = None;
                })
                (gains_placed pin.slot pin.counting handled alone kept_is left_placed refl
                (refl, refl, sym told.2) refl);
          }

        -- or it stands alone.
        pub stands_at : (had has : Bool) (index : ℕ) (a : Alone) → kept ≡ Standing index → a.charge
            ≡ charge
            → bytes_of a.value ≡ value
            → IsTried (key_to cache.seed key) old.used (view_of was) (view_of is)
            → IsJoined old.used was is old.alone new.alone index a
            → PinnedBy had has cache.geometry.slots cache.capacity cache.strict
            (pinned_draft cache key charge priority value old) value (Ok pinned.Standalone)
            (view_of was) (view_of is)
            → Stands cache key charge priority value had has handle old new
        stands_at had has index a kept_is paid bytes tried joined told = record {
          asks = record {
            v = view_of was;
            w = view_of is;
            works = rw (← here) (works_at cache old new i shard was is at change);
            told = told;
          };
          gains =
              subst (λ h. Gains cache handle h old new)
              (λ j. record {
                insertion = record { key = key; value = bytes j; charge = paid j };
                entry = None;
                standing = Some (joined.called j);
              })
              (gains_alone index a kept_is tried joined);
        }
