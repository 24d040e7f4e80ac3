-- One standalone entry more, and a handle on it.
use Rattle.std.proofs.Common.{◌≡◌, ◌≢◌, inl, inr, ℕ, suc, ◌+◌, ◌<◌, ◌≤◌, ◌==◌, Bool, true, false, List, [], ◌∷◌, ◌++◌, Option, Some, None, find, get_or, length, slice_get, slice_set, sym, refl, ap, ◌∙◌, length-set, arith}
use Rattle.std.proofs.lemmas.Bool.{cases_eq, eq-eqb, ne_eqb}
use Rattle.slab.specs.Slab.{Slab, get, slab_len, Updates}
use Rattle.hcc_core.specs.declared.client.Standalone.{Standalone}
use Rattle.hcc_core.specs.Ledgers.{is_standing}
use Rattle.hcc_core.specs.Sums.{total, when}
use Rattle.hcc_core.proofs.SumLemmas.{total-set}
use Rattle.hcc_rule.specs.Views.{Each}
use Rattle.hcc_rule.specs.Records.{record_in}
use Rattle.hcc_shard.specs.declared.seat.ShardSeat.{ShardSeat}
use Rattle.hcc_shard.specs.Callers.{view_of}
use Rattle.hcc_shard.proofs.Names.{length_more}
use Rattle.hcc_cache.specs.declared.holding.Alone.{Alone}
use Rattle.hcc_cache.specs.declared.holding.Hold.{Hold}
use Rattle.hcc_cache.specs.declared.holding.Kept.{Kept}
use Rattle.hcc_cache.specs.declared.holding.Kept.TheVariants.{Pinned, Standing}
use Rattle.hcc_cache.specs.Clients.{records_in, standalones_in, view_by}
use Rattle.hcc_cache.specs.Sharding.{key_to, shard_of}
use Rattle.hcc_cache.specs.Known.{AreHeld, IsKept, IsKeptAs, count_of, is_pinned, is_standing_at, records_at, references_of, standalones_at}
use Rattle.hcc_cache.proofs.Handles.SameHolds.{same_alone, Stands, stands_if, stands_there, stood_there, written_is}
use Rattle.hcc_cache.proofs.Handles.StandAsBefore.{apart_more}
use Rattle.hcc_cache.proofs.Handles.OneMoreReference.{counted_more}
use Rattle.hcc_cache.proofs.Basics.FoundByName.{find_front, find_last, unused_standing}
use Rattle.hcc_cache.proofs.Clients.Seats.{part_same, view_else, view_here}
use Rattle.hcc_cache.proofs.Basics.SlabSums.{total_updated}

-- where no value passes, none is counted
count_zero : {V : Type 0} (test : Option V → Bool) → test None ≡ false → (slab : Slab V)
    → ((index : ℕ) (value : V) → get slab index ≡ Some value → test (Some value) ≡ false)
    → count_of test slab ≡ 0
count_zero test none slab fails = all slab.slots (λ k. by k (get slab k) refl)
  where
    by : (k : ℕ) (o : Option _) → get slab k ≡ o → when (test o) 1 ≡ 0
    by k None there = ap (λ b. when b 1) none
    by k (Some value) there = ap (λ b. when b 1) (fails k value there)

    all : (xs : List (Option _)) → ((k : ℕ) → when (test (get_or xs k None)) 1 ≡ 0)
        → total (λ o. when (test o) 1) xs ≡ 0
    all [] each = refl
    all (x ∷ xs) each =
        let first = each 0 in
        let rest = all xs (λ k. each (suc k)) in
        omega arith

-- what the shard of a standalone entry knows of it
abbrev pub known_of : Alone → Standalone
known_of a = record { name = a.name; charge = a.charge }

-- A standalone entry joined: the client keeps it at this index, and its shard knows it.
pub record IsJoined {T : Type 0} (used : ℕ) (was is : ShardSeat T) (old new : Slab Alone)
    (index : ℕ) (a : Alone) : Type 0 where
  pub records : (view_of is).records ≡ (view_of was).records
  pub standalones : (view_of is).work.standalones
      ≡ (view_of was).work.standalones ++ known_of a ∷ []
  pub called : a.name ≡ used
  pub single : a.references ≡ 1
  pub free : get old index ≡ None
  pub updates : Updates old new index (Some a)
  pub count : slab_len new ≡ slab_len old + 1

module _ {T : Type 0} (seed used : ℕ) (seats : List (ShardSeat T)) (handles : Slab Hold)
    (old new : Slab Alone) (all : AreHeld seed used seats handles old) (i : ℕ)
    (was is : ShardSeat T) (index : ℕ) (a : Alone) (at : slice_get seats i ≡ Some was)
    (joined : IsJoined used was is old new index a) where
  -- those that there were stand at other indices,
  index_else : (q : ℕ) (b : Alone) → get old q ≡ Some b → q ≢ index
  index_else q b held same =
      let both : Some b ≡ None = sym held ∙ (ap (get old) same ∙ joined.free) in
      let no : ⊥ = cc in
      no

  -- and their shards know them still
  standing_still : (j n : ℕ) (s : Standalone)
      → find (is_standing n) (standalones_in seats j) ≡ Some s
      → find (is_standing n) (standalones_in (slice_set seats i is) j) ≡ Some s
  standing_still j n s found = elim (cases_eq j i) [
    | inl same ↦
        let now : standalones_in (slice_set seats i is) j
        ≡ (view_of was).work.standalones ++ known_of a ∷ [] =
        ap (standalones_in (slice_set seats i is)) same
        ∙ (ap (λ v. v.work.standalones) (view_here seats i was is at) ∙ joined.standalones) in
        let before : standalones_in seats j ≡ (view_of was).work.standalones =
        ap (standalones_in seats) same ∙ ap (λ o. (view_by o).work.standalones) at in
        rw now
        (find_front (is_standing n) (view_of was).work.standalones (known_of a ∷ []) s
        (rw before at found))
    | inr other ↦
        ap (λ v. find (is_standing n) v.work.standalones) (view_else seats i j is other) ∙ found
  ]

  -- each hold stands as it stood
  pub stands_joined : (p : ℕ) (k : Hold) → get handles p ≡ Some k
      → Stands seats (slice_set seats i is) old new k
  stands_joined p k there =
      let more = slice_set seats i is in
      let same : records_in more k.shard ≡ records_in seats k.shard =
      part_same (λ v. v.records) seats i k.shard was is at joined.records in
      stands_if seats more old new seed k (all.each p k there).0
      (λ r found. ap (record_in k.serial) same ∙ found)
      (λ q b s kept held found. record {
        entry = b;
        there =
            stands_there old new index (Some a) b q joined.updates (index_else q b held) held;
        same = same_alone b;
        known = standing_still k.shard b.name s found;
      })

  -- none was on the index that was free
  none_there : count_of (is_standing_at index) handles ≡ 0
  none_there = count_zero (is_standing_at index) refl handles
      (λ p k there. by p k k.kept refl (all.each p k there).0.stands)
    where
      not_here : (q : ℕ) → q ≢ index → (q == index) ≡ false
      not_here q ne = ne_eqb q index ne

      by : (p : ℕ) (k : Hold) (o : Kept) → k.kept ≡ o → IsKeptAs seed seats old k o
          → is_standing_at index (Some k) ≡ false
      by p k (Pinned slot counting) is pin = rw is refl
      by p k (Standing q) is stand =
          rw is (not_here q (index_else q stand.entry stand.there))

  module _ (hold : Hold) (at_handle : ℕ) (gained : Slab Hold)
      (names : Each (λ (s : Standalone). s.name < used) (view_of was).work.standalones)
      (serial : hold.serial ≡ used) (shard : hold.shard ≡ i) (kept : hold.kept ≡ Standing index)
      (inside : i < length seats) where
    -- the new handle stands for the entry that joined
    known_joined : find (is_standing a.name) (standalones_in (slice_set seats i is) hold.shard)
        ≡ Some (known_of a)
    known_joined =
        let now : standalones_in (slice_set seats i is) hold.shard
        ≡ (view_of was).work.standalones ++ known_of a ∷ [] =
        ap (standalones_in (slice_set seats i is)) shard
        ∙ (ap (λ v. v.work.standalones) (view_here seats i was is at) ∙ joined.standalones) in
        let free : find (is_standing a.name) (view_of was).work.standalones ≡ None =
        rw (joined.called) (unused_standing used (view_of was).work.standalones names) in
        rw now
        (find_last (is_standing a.name) (view_of was).work.standalones (known_of a) free
        (eq-eqb a.name a.name refl))

    kept_joined : i ≡ shard_of (key_to seed hold.key) (length seats)
        → IsKept seed (slice_set seats i is) new hold
    kept_joined home = record {
      within = rw (shard, length-set seats i is) inside;
      home = shard ∙ rw (length-set seats i is) home;
      stands = rw kept (record {
        entry = a;
        there = joined.updates.changed;
        known = known_joined;
      });
    }

    module _ (free : get handles at_handle ≡ None)
        (updates : Updates handles gained at_handle (Some hold)) where
      -- how many handles each standalone entry has
      one_here : count_of (is_standing_at index) gained ≡ 1
      one_here =
          let test : is_standing_at index (Some hold) ≡ true =
          rw kept (eq-eqb index index refl) in
          let more = counted_more (is_standing_at index) handles gained at_handle hold refl free
          updates in
          let one : when (is_standing_at index (Some hold)) 1 ≡ 1 = ap (λ b. when b 1) test in
          let before = none_there in
          omega arith

      as_many : (q : ℕ) → q ≢ index
          → count_of (is_standing_at q) gained ≡ count_of (is_standing_at q) handles
      as_many q ne =
          let test : is_standing_at q (Some hold) ≡ false =
          rw kept (ne_eqb index q (λ e. ne (sym e))) in
          let more = counted_more (is_standing_at q) handles gained at_handle hold refl free
          updates in
          let none : when (is_standing_at q (Some hold)) 1 ≡ 0 = ap (λ b. when b 1) test in
          omega arith

      some_joined : (q : ℕ) (b : Alone) → get new q ≡ Some b
          → (1 ≤ b.references) × (b.references ≡ count_of (is_standing_at q) gained)
          × (b.name < used + 1)
      some_joined q b there = elim (cases_eq q index) [
        | inl same ↦
            let is = written_is old new index a b q joined.updates same there in
            let single : b.references ≡ 1 = ap (λ (x : Alone). x.references) is ∙ joined.single in
            let called : b.name ≡ used = ap (λ (x : Alone). x.name) is ∙ joined.called in
            (omega arith, single ∙ sym (rw same one_here), omega arith)
        | inr ne ↦
            let before = stood_there old new index (Some a) b q joined.updates ne there in
            let some = all.some q b before in
            let below = some.2 in
            (some.0, some.1 ∙ sym (as_many q ne), omega arith)
      ]

      -- its name is of no other
      newer : (p q : ℕ) (x y : Alone) → get new p ≡ Some x → get new q ≡ Some y
          → x.name ≡ y.name → p ≡ index → q ≢ index → ⊥
      newer p q x y hp hq e same ne =
          let is = written_is old new index a x p joined.updates same hp in
          let called : x.name ≡ used = ap (λ (z : Alone). z.name) is ∙ joined.called in
          let before = stood_there old new index (Some a) y q joined.updates ne hq in
          let below = (all.some q y before).2 in
          omega arith

      names_apart : (p q : ℕ) (x y : Alone) → get new p ≡ Some x → get new q ≡ Some y
          → x.name ≡ y.name → p ≡ q
      names_apart p q x y hp hq e = elim (cases_eq p index) [
        | inl same ↦ elim (cases_eq q index) [
          | inl other ↦ same ∙ sym other
          | inr ne ↦ absurd (newer p q x y hp hq e same ne)
        ]
        | inr ne ↦ elim (cases_eq q index) [
          | inl same ↦ absurd (newer q p y x hq hp (sym e) same ne)
          | inr other ↦
              all.names_apart p q x y (stood_there old new index (Some a) x p joined.updates ne hp)
              (stood_there old new index (Some a) y q joined.updates other hq) e
        ]
      ]

      pub held_joined : i ≡ shard_of (key_to seed hold.key) (length seats)
          → slab_len gained ≡ slab_len handles + 1
          → AreHeld seed (used + 1) (slice_set seats i is) gained new
      held_joined home count =
          let apart = apart_more seed used seats (slice_set seats i is) handles old all at_handle
          hold gained new (length-set seats i is) serial (kept_joined home) updates stands_joined in
          let pinned : is_pinned (Some hold) ≡ false = rw kept refl in
          let pins : count_of is_pinned gained ≡ count_of is_pinned handles + 0 =
          counted_more is_pinned handles gained at_handle hold refl free updates
          ∙ ap (λ b. count_of is_pinned handles + when b 1) pinned in
          record {
            each = apart.each;
            apart = apart.apart;
            pins =
                let change = total-set records_at seats i was is at in
                let counts : records_at is ≡ records_at was = ap length joined.records in
                let before = all.pins in
                omega arith;
            entries =
                let change = total-set standalones_at seats i was is at in
                let counts : standalones_at is ≡ standalones_at was + 1 =
                ap length joined.standalones
                ∙ length_more (view_of was).work.standalones (known_of a) in
                let before = all.entries in
                let more = joined.count in
                omega arith;
            names_apart = names_apart;
            some = some_joined;
            references =
                let change = total_updated references_of refl old new index (Some a)
                joined.updates in
                let nothing : references_of (get old index) ≡ 0 =
                ap references_of joined.free in
                let single = joined.single in
                let before = all.references in
                omega arith;
          }
