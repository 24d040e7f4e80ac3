-- One reference more, and a handle on it.
use Rattle.std.proofs.Common.{◌≡◌, inl, inr, ℕ, ◌+◌, ◌<◌, Bool, true, false, List, [], ◌∷◌, ◌++◌, Option, Some, None, find, length, slice_get, slice_set, sym, refl, ap, ◌∙◌, length-set, length-append, arith}
use Rattle.std.proofs.lemmas.Bool.{cases_eq, eq-eqb}
use Rattle.slab.specs.Slab.{Slab, get, slab_len, Updates}
use Rattle.hcc_core.specs.Ledgers.{is_standing}
use Rattle.hcc_core.specs.Sums.{when}
use Rattle.hcc_core.proofs.SumLemmas.{total-set}
use Rattle.hcc_rule.specs.declared.view.Record.{Record}
use Rattle.hcc_rule.specs.Views.{Each, is_called}
use Rattle.hcc_rule.specs.Records.{record_in}
use Rattle.hcc_rule.specs.Words.{key_of}
use Rattle.hcc_table.specs.Pins.{IsOf}
use Rattle.hcc_shard.specs.declared.seat.ShardSeat.{ShardSeat}
use Rattle.hcc_shard.specs.Callers.{view_of}
use Rattle.hcc_shard.proofs.Names.{not_held}
use Rattle.hcc_cache.specs.declared.holding.Alone.{Alone}
use Rattle.hcc_cache.specs.declared.holding.Hold.{Hold}
use Rattle.hcc_cache.specs.declared.holding.Kept.TheVariants.{Pinned}
use Rattle.hcc_cache.specs.Clients.{pin_of, records_in, standalones_in, view_by}
use Rattle.hcc_cache.specs.Sharding.{key_to, shard_of}
use Rattle.hcc_cache.specs.Known.{AreHeld, count_of, is_pinned, is_standing_at, IsKept, records_at, standalones_at}
use Rattle.hcc_cache.proofs.Handles.SameHolds.{same_alone, Stands, stands_if}
use Rattle.hcc_cache.proofs.Handles.StandAsBefore.{apart_more}
use Rattle.hcc_cache.proofs.Basics.FoundByName.{find_front, find_last}
use Rattle.hcc_cache.proofs.Clients.Seats.{part_same, view_else, view_here}
use Rattle.hcc_cache.proofs.Basics.SlabSums.{count_updated}

-- Of what is counted, where a handle joined.

-- one more where it passes
pub counted_more : {V : Type 0} (test : Option V → Bool) (old new : Slab V) (index : ℕ) (value : V)
    → test None ≡ false → get old index ≡ None → Updates old new index (Some value)
    → count_of test new ≡ count_of test old + when (test (Some value)) 1
counted_more test old new index value none free updates =
    let was : when (test (get old index)) 1 ≡ 0 =
    ap (λ o. when (test o) 1) free ∙ ap (λ b. when b 1) none in
    let change = count_updated test none old new index (Some value) updates in
    omega arith

-- a handle on an entry of the table is none on a standalone one
not_standing_at : (index : ℕ) (hold : Hold) (slot : ℕ) (counting : Bool)
    → hold.kept ≡ Pinned slot counting → is_standing_at index (Some hold) ≡ false
not_standing_at index hold slot counting kept = rw kept refl

-- What the client has, where a record joined at one shard, and a handle on it.
module _ {T : Type 0} (seed used : ℕ) (seats : List (ShardSeat T)) (handles : Slab Hold)
    (alone : Slab Alone) (all : AreHeld seed used seats handles alone) (i : ℕ)
    (was is : ShardSeat T) (r : Record) (at : slice_get seats i ≡ Some was)
    (joins : (view_of is).records ≡ (view_of was).records ++ r ∷ [])
    (standalones : (view_of is).work.standalones ≡ (view_of was).work.standalones) where
  -- what was found at a shard is found there still
  record_still : (j n : ℕ) (q : Record) → record_in n (records_in seats j) ≡ Some q
      → record_in n (records_in (slice_set seats i is) j) ≡ Some q
  record_still j n q found = elim (cases_eq j i) [
    | inl same ↦
        let now : records_in (slice_set seats i is) j ≡ (view_of was).records ++ r ∷ [] =
        ap (records_in (slice_set seats i is)) same
        ∙ (ap (λ v. v.records) (view_here seats i was is at) ∙ joins) in
        let before : records_in seats j ≡ (view_of was).records =
        ap (records_in seats) same ∙ ap (λ o. (view_by o).records) at in
        rw now (find_front (is_called n) (view_of was).records (r ∷ []) q (rw before at found))
    | inr other ↦ ap (λ v. record_in n v.records) (view_else seats i j is other) ∙ found
  ]

  -- each hold stands as it stood
  pub stands_pinned : (p : ℕ) (k : Hold) → get handles p ≡ Some k
      → Stands seats (slice_set seats i is) alone alone k
  stands_pinned p k there =
      let more = slice_set seats i is in
      let standalones_same : standalones_in more k.shard ≡ standalones_in seats k.shard =
      part_same (λ v. v.work.standalones) seats i k.shard was is at standalones in
      stands_if seats more alone alone seed k (all.each p k there).0
      (record_still k.shard k.serial)
      (λ index a s kept held found. record {
        entry = a;
        there = held;
        same = same_alone a;
        known = ap (find (is_standing a.name)) standalones_same ∙ found;
      })

  module _ (hold : Hold) (slot : ℕ) (counting : Bool) (index : ℕ) (gained : Slab Hold)
      (names : Each (λ (q : Record). q.name < used) (view_of was).records)
      (serial : hold.serial ≡ used) (shard : hold.shard ≡ i)
      (kept : hold.kept ≡ Pinned slot counting) (inside : i < length seats)
      (called : r.name ≡ used) (of : IsOf (pin_of hold.serial slot counting) r)
      (key : key_of r.entry ≡ key_to seed hold.key) where
    -- the new handle stands for the record that joined
    pub there_pinned : record_in hold.serial (records_in (slice_set seats i is) hold.shard)
        ≡ Some r
    there_pinned =
        let now : records_in (slice_set seats i is) hold.shard ≡ (view_of was).records ++ r ∷ [] =
        ap (records_in (slice_set seats i is)) shard
        ∙ (ap (λ v. v.records) (view_here seats i was is at) ∙ joins) in
        let free : record_in hold.serial (view_of was).records ≡ None =
        rw serial (not_held used used (omega arith) (view_of was).records names) in
        rw now
        (find_last (is_called hold.serial) (view_of was).records r free
        (eq-eqb r.name hold.serial (called ∙ sym serial)))

    kept_pinned : i ≡ shard_of (key_to seed hold.key) (length seats)
        → IsKept seed (slice_set seats i is) alone hold
    kept_pinned home = record {
      within = rw (shard, length-set seats i is) inside;
      home = shard ∙ rw (length-set seats i is) home;
      stands = rw kept (record { handled = r; there = there_pinned; of = of; key = key });
    }

    pub held_pinned : i ≡ shard_of (key_to seed hold.key) (length seats)
        → get handles index ≡ None → Updates handles gained index (Some hold)
        → slab_len gained ≡ slab_len handles + 1
        → AreHeld seed (used + 1) (slice_set seats i is) gained alone
    held_pinned home free updates count =
        let apart = apart_more seed used seats (slice_set seats i is) handles alone all index hold
        gained alone (length-set seats i is) serial (kept_pinned home) updates stands_pinned in
        let pinned : is_pinned (Some hold) ≡ true = rw kept refl in
        let pins : count_of is_pinned gained ≡ count_of is_pinned handles + 1 =
        counted_more is_pinned handles gained index hold refl free updates
        ∙ ap (λ b. count_of is_pinned handles + when b 1) pinned in
        let stands : (p : ℕ)
        → count_of (is_standing_at p) gained ≡ count_of (is_standing_at p) handles =
        λ p. (
        let none = not_standing_at p hold slot counting kept in
        let more = counted_more (is_standing_at p) handles gained index hold refl free updates in
        let zero : when (is_standing_at p (Some hold)) 1 ≡ 0 = ap (λ b. when b 1) none in
        omega arith
        ) in
        record {
          each = apart.each;
          apart = apart.apart;
          pins =
              let change = total-set records_at seats i was is at in
              let counts : records_at is ≡ records_at was + 1 =
              ap length joins ∙ length-append (view_of was).records (r ∷ []) in
              let before = all.pins in
              omega arith;
          entries =
              let change = total-set standalones_at seats i was is at in
              let counts : standalones_at is ≡ standalones_at was = ap length standalones in
              let before = all.entries in
              omega arith;
          names_apart = all.names_apart;
          some = λ p a there.
              let some = all.some p a there in
              let below = some.2 in
              (some.0, some.1 ∙ sym (stands p), omega arith);
          references = let before = all.references in omega arith;
        }
