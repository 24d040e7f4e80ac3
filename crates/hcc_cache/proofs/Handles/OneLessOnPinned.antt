-- The handles of a client, once one on an entry of the table was given back.
use Rattle.std.proofs.Common.{◌≡◌, ◌≢◌, inl, inr, ℕ, ◌+◌, Bool, true, false, List, Option, Some, None, find, length, slice_get, slice_set, sym, refl, ap, ◌∙◌, length-set, arith}
use Rattle.std.proofs.lemmas.Bool.{cases_eq, eqb-true, ne_eqb}
use Rattle.slab.specs.Slab.{Slab, get, slab_len, Updates}
use Rattle.hcc_core.specs.Ledgers.{is_standing}
use Rattle.hcc_core.specs.Outcomes.{dropped}
use Rattle.hcc_core.specs.Sums.{when}
use Rattle.hcc_core.proofs.SumLemmas.{total-set}
use Rattle.hcc_rule.specs.declared.view.Record.{Record}
use Rattle.hcc_rule.specs.declared.view.View.{View}
use Rattle.hcc_rule.specs.Views.{is_called}
use Rattle.hcc_rule.specs.Records.{record_in}
use Rattle.hcc_shard.specs.declared.seat.ShardSeat.{ShardSeat}
use Rattle.hcc_shard.specs.Callers.{view_of}
use Rattle.hcc_cache.specs.declared.holding.Alone.{Alone}
use Rattle.hcc_cache.specs.declared.holding.Hold.{Hold}
use Rattle.hcc_cache.specs.declared.holding.Kept.TheVariants.{Pinned}
use Rattle.hcc_cache.specs.Clients.{view_by, view_in}
use Rattle.hcc_cache.specs.Known.{AreHeld, count_of, is_pinned, is_standing_at, records_at, standalones_at}
use Rattle.hcc_cache.proofs.Handles.SameHolds.{Stands, freed_is, kept_still, same_alone, stands_if, stood_there}
use Rattle.hcc_cache.proofs.Handles.StandAsBefore.{AreApart}
use Rattle.hcc_cache.proofs.Basics.FoundByName.{dropped_one, find_left}
use Rattle.hcc_cache.proofs.Clients.Seats.{part_same, view_else, view_here}
use Rattle.hcc_cache.proofs.Basics.SlabSums.{count_removed}

-- Of what is found at each shard.

-- a record of another name is found still, once one was dropped
pub other_left : (n m : ℕ) (rs : List Record) → m ≢ n
    → record_in m (dropped (is_called n) rs) ≡ record_in m rs
other_left n m rs ne = find_left (is_called n) (is_called m) apart rs
  where
    apart : (r : Record) → is_called n r ≡ true → is_called m r ≡ false
    apart r is =
        let same : r.name ≡ n = eqb-true r.name n is in
        ne_eqb r.name m (λ e. ne (sym e ∙ same))

-- what is found at all shards, where a member that isn't sought was dropped at one
pub found_left : {T X : Type 0} (f : View T → List X) (p q : X → Bool) (seats : List (ShardSeat T))
    (i j : ℕ) (was is : ShardSeat T) → slice_get seats i ≡ Some was
    → f (view_of is) ≡ dropped p (f (view_of was))
    → ((xs : List X) → find q (dropped p xs) ≡ find q xs)
    → find q (f (view_in (slice_set seats i is) j)) ≡ find q (f (view_in seats j))
found_left f p q seats i j was is at less left = elim (cases_eq j i) [
  | inl same ↦
      let now : f (view_in (slice_set seats i is) j) ≡ dropped p (f (view_of was)) =
      ap (λ k. f (view_in (slice_set seats i is) k)) same
      ∙ (ap f (view_here seats i was is at) ∙ less) in
      let then : f (view_in seats j) ≡ f (view_of was) =
      ap (λ k. f (view_in seats k)) same ∙ ap (λ o. f (view_by o)) at in
      rw (now, then) (left (f (view_of was)))
  | inr other ↦ ap (λ v. find q (f v)) (view_else seats i j is other)
]

-- Of the handles that are left.

-- The handle at this index is gone.
pub record IsLess (handles less : Slab Hold) (index : ℕ) (hold : Hold) : Type 0 where
  pub there : get handles index ≡ Some hold
  pub updates : Updates handles less index None
  pub count : slab_len less + 1 ≡ slab_len handles

module _ (handles less : Slab Hold) (index : ℕ) (hold : Hold)
    (gone : IsLess handles less index hold) where
  -- one that is left stood at another index
  pub left_there : (p : ℕ) (h : Hold) → get less p ≡ Some h
      → (p ≢ index) × (get handles p ≡ Some h)
  left_there p h is =
      let other : p ≢ index = λ same. freed_is handles less index h p gone.updates same is in
      (other, stood_there handles less index None h p gone.updates other is)

  -- how many handles are left that pass
  pub count_less : (test : Option Hold → Bool) → test None ≡ false
      → count_of test less + when (test (Some hold)) 1 ≡ count_of test handles
  count_less test none =
      count_removed test none handles less index hold gone.there gone.updates

  module _ {T : Type 0} (seed used : ℕ) (seats : List (ShardSeat T)) (old : Slab Alone)
      (all : AreHeld seed used seats handles old) where
    -- its serial is of no other,
    pub serial_apart : (p : ℕ) (k : Hold) → p ≢ index → get handles p ≡ Some k
        → k.serial ≢ hold.serial
    serial_apart p k ne is same = ne (all.apart p index k hold is gone.there same)

    -- and the others are kept, each for something of its own, where they stand as they stood
    pub apart_less : (more : List (ShardSeat T)) (new : Slab Alone)
        → length more ≡ length seats
        → ((p : ℕ) (k : Hold) → p ≢ index → get handles p ≡ Some k → Stands seats more old new k)
        → AreApart seed used more less new
    apart_less more new count stand = record {
      each = λ p h is.
          let was = left_there p h is in
          let kept = all.each p h was.1 in
          (kept_still seats more old new seed h count (stand p h was.0 was.1) kept.0, kept.1);
      apart = λ p q h k hp hq same.
          all.apart p q h k (left_there p h hp).1 (left_there q k hq).1 same;
    }

-- Of a handle on an entry of the table.

-- the seat holds what it held, but for the record of this name
pub record IsWithout {T : Type 0} (name : ℕ) (was is : ShardSeat T) : Type 0 where
  pub records : (view_of is).records ≡ dropped (is_called name) (view_of was).records
  pub standalones : (view_of is).work.standalones ≡ (view_of was).work.standalones

-- a hold on an entry of the table counts as one, and for no standalone entry
pub pinned_test : (o : Option Hold) (slot : ℕ) (counting : Bool) (index : ℕ) (hold : Hold)
    → o ≡ Some hold → hold.kept ≡ Pinned slot counting
    → (is_pinned o ≡ true) × (is_standing_at index o ≡ false)
pinned_test o slot counting index hold is kept = rw (is, kept) (refl, refl)

module _ {T : Type 0} (seed used : ℕ) (seats : List (ShardSeat T)) (handles less : Slab Hold)
    (alone : Slab Alone) (index slot : ℕ) (counting : Bool) (hold : Hold) (was is : ShardSeat T)
    (gone : IsLess handles less index hold) (kept : hold.kept ≡ Pinned slot counting)
    (at : slice_get seats hold.shard ≡ Some was) (without : IsWithout hold.serial was is)
    (all : AreHeld seed used seats handles alone) where
  -- the others stand for what they stood for
  pub stand_unpinned : (p : ℕ) (k : Hold) → p ≢ index → get handles p ≡ Some k
      → Stands seats (slice_set seats hold.shard is) alone alone k
  stand_unpinned p k ne there =
      let serial = serial_apart handles less index hold gone seed used seats alone all p k ne there
      in
      stands_if seats (slice_set seats hold.shard is) alone alone seed k (all.each p k there).0
      (λ r found.
      found_left (λ v. v.records) (is_called hold.serial) (is_called k.serial) seats hold.shard
      k.shard was is at without.records (λ rs. other_left hold.serial k.serial rs serial) ∙ found)
      (λ at_place a s standing there known. record {
        entry = a;
        there = there;
        same = same_alone a;
        known =
            ap (find (is_standing a.name))
            (part_same (λ v. v.work.standalones) seats hold.shard k.shard was is at
            without.standalones) ∙ known;
      })

  -- and all are held, where this record was the one of the handle
  pub held_unpinned : (r : Record) → record_in hold.serial (view_of was).records ≡ Some r
      → AreHeld seed used (slice_set seats hold.shard is) less alone
  held_unpinned r found =
      let apart = apart_less handles less index hold gone seed used seats alone all
      (slice_set seats hold.shard is) alone (length-set seats hold.shard is) stand_unpinned in
      let records = total-set records_at seats hold.shard was is at in
      let standalones = total-set standalones_at seats hold.shard was is at in
      let fewer : records_at is + 1 ≡ records_at was =
      ap (λ rs. length rs + 1) without.records
      ∙ dropped_one (is_called hold.serial) (view_of was).records r found in
      let same : standalones_at is ≡ standalones_at was = ap length without.standalones in
      let tests = λ (p : ℕ). pinned_test (Some hold) slot counting p hold refl kept in
      let pinned : when (is_pinned (Some hold)) 1 ≡ 1 = ap (λ b. when b 1) (tests 0).0 in
      let pins = count_less handles less index hold gone is_pinned refl in
      let count = gone.count in
      let held_pins = all.pins in
      let held_entries = all.entries in
      let held_references = all.references in
      record {
        each = apart.each;
        apart = apart.apart;
        pins = omega arith;
        entries = omega arith;
        names_apart = all.names_apart;
        some = λ p a there.
            let had = all.some p a there in
            let standing : when (is_standing_at p (Some hold)) 1 ≡ 0 =
            ap (λ b. when b 1) (tests p).1 in
            let left = count_less handles less index hold gone (is_standing_at p) refl in
            let counted = had.1 in
            (had.0, omega arith, had.2);
        references = omega arith;
      }
