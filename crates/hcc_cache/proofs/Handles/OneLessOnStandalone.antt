-- The handles of a client, once one on a standalone entry was given back.
use Rattle.std.proofs.Common.{◌≡◌, ◌≢◌, inl, inr, ℕ, ◌+◌, ◌<◌, ◌≤◌, ◌==◌, true, false}
use Rattle.std.proofs.Common.{List, Option, Some, None, find, length, slice_get, slice_set}
use Rattle.std.proofs.Common.{sym, refl, ap, ◌∙◌, length-set, arith}
use Rattle.std.proofs.lemmas.Bool.{cases_eq, eq-eqb, ne_eqb}
use Rattle.slab.specs.Slab.{Slab, get, Updates}
use Rattle.hcc_core.specs.Ledgers.{is_standing}
use Rattle.hcc_core.specs.Outcomes.{dropped}
use Rattle.hcc_core.specs.Sums.{when}
use Rattle.hcc_core.proofs.SumLemmas.{total-set}
use Rattle.hcc_shard.specs.declared.seat.ShardSeat.{ShardSeat}
use Rattle.hcc_shard.specs.Callers.{view_of}
use Rattle.hcc_cache.specs.declared.holding.Alone.{Alone}
use Rattle.hcc_cache.specs.declared.holding.Hold.{Hold}
use Rattle.hcc_cache.specs.declared.holding.Kept.{Kept}
use Rattle.hcc_cache.specs.declared.holding.Kept.TheVariants.{Pinned, Standing}
use Rattle.hcc_cache.specs.Clients.{standalones_in, view_by}
use Rattle.hcc_cache.specs.Known.{AreHeld, IsKeptAs, count_of, is_pinned, is_standing_at, records_at, references_of, standalones_at}
use Rattle.hcc_cache.proofs.Handles.SameHolds.{IsSameAlone, Stands, freed_is, same_alone, stands_if, stands_there, stood_there, written_is}
use Rattle.hcc_cache.proofs.Handles.OneLessOnPinned.{IsLess, apart_less, count_less, found_left}
use Rattle.hcc_cache.proofs.Basics.FoundByName.{dropped_one, standing_left}
use Rattle.hcc_cache.proofs.Clients.Seats.{part_same}
use Rattle.hcc_cache.proofs.Basics.SlabSums.{count_nothing, len_updated, one_of, total_updated}

-- which slots of the handles a hold on a standalone entry counts for
pub standing_test : (o : Option Hold) (at index : ℕ) (hold : Hold) → o ≡ Some hold
    → hold.kept ≡ Standing at
    → (is_pinned o ≡ false) × (is_standing_at index o ≡ (at == index))
standing_test o at index hold is kept = rw (is, kept) (refl, refl)

module _ {T : Type 0} (seed used : ℕ) (seats : List (ShardSeat T)) (handles less : Slab Hold)
    (alone : Slab Alone) (index at : ℕ) (hold : Hold) (a : Alone)
    (gone : IsLess handles less index hold) (kept : hold.kept ≡ Standing at)
    (there : get alone at ≡ Some a) (all : AreHeld seed used seats handles alone) where
  -- the handles on its entry are one less,
  pub standing_less : count_of (is_standing_at at) less + 1 ≡ a.references
  standing_less =
      let test : is_standing_at at (Some hold) ≡ true =
      (standing_test (Some hold) at at hold refl kept).1 ∙ eq-eqb at at refl in
      let one : when (is_standing_at at (Some hold)) 1 ≡ 1 = ap (λ b. when b 1) test in
      let left = count_less handles less index hold gone (is_standing_at at) refl in
      let had = (all.some at a there).1 in
      omega arith

  -- those on other standalone entries as many,
  pub standing_else : (p : ℕ) → p ≢ at
      → count_of (is_standing_at p) less ≡ count_of (is_standing_at p) handles
  standing_else p ne =
      let test : is_standing_at p (Some hold) ≡ false =
      (standing_test (Some hold) at p hold refl kept).1 ∙ ne_eqb at p (λ e. ne (sym e)) in
      let none : when (is_standing_at p (Some hold)) 1 ≡ 0 = ap (λ b. when b 1) test in
      let left = count_less handles less index hold gone (is_standing_at p) refl in
      omega arith

  -- and those on entries of the table too
  pub pinned_else : count_of is_pinned less ≡ count_of is_pinned handles
  pinned_else =
      let test = (standing_test (Some hold) at at hold refl kept).0 in
      let none : when (is_pinned (Some hold)) 1 ≡ 0 = ap (λ b. when b 1) test in
      let left = count_less handles less index hold gone is_pinned refl in
      omega arith

  -- the shard knows its entry
  pub known_there : (was : ShardSeat T) → slice_get seats hold.shard ≡ Some was
      → find (is_standing a.name) (view_of was).work.standalones
      ≡ Some (record { name = a.name; charge = a.charge })
  known_there was sits = by hold.kept kept (all.each index hold gone.there).0.stands
    where
      here : standalones_in seats hold.shard ≡ (view_of was).work.standalones
      here = ap (λ o. (view_by o).work.standalones) sits

      by : (k : Kept) → k ≡ Standing at → IsKeptAs seed seats alone hold k
          → find (is_standing a.name) (view_of was).work.standalones
          ≡ Some (record { name = a.name; charge = a.charge })
      by (Pinned s c) e pin = absurd (let no : ⊥ = cc in no)
      by (Standing q) e stand =
          let index_is : q ≡ at = cc in
          let both : Some stand.entry ≡ Some a =
          sym stand.there ∙ (ap (get alone) index_is ∙ there) in
          let it : stand.entry ≡ a = cc in
          rw (← here, ← it) stand.known

  -- Where other handles are left on the entry: it has a reference less.
  module _ (fewer : Slab Alone) (b : Alone) (same : IsSameAlone a b)
      (reference : b.references + 1 ≡ a.references) (some : 1 ≤ b.references)
      (updates : Updates alone fewer at (Some b)) where
    -- the others stand for what they stood for
    pub stand_fewer : (p : ℕ) (k : Hold) → p ≢ index → get handles p ≡ Some k
        → Stands seats seats alone fewer k
    stand_fewer p k ne is =
        stands_if seats seats alone fewer seed k (all.each p k is).0 (λ r found. found)
        (λ q e s standing stood known. elim (cases_eq q at) [
          | inl here ↦
              let both : Some e ≡ Some a = sym stood ∙ (ap (get alone) here ∙ there) in
              let it : a ≡ e = cc in
              record {
                entry = b;
                there = ap (get fewer) here ∙ updates.changed;
                same = rw (← it) same;
                known = known;
              }
          | inr other ↦ record {
            entry = e;
            there = stands_there alone fewer at (Some b) e q updates other stood;
            same = same_alone e;
            known = known;
          }
        ])

    -- the entry of a index had that name before
    name_was : (p : ℕ) (x : Alone) → get fewer p ≡ Some x
        → (y : Alone) × (get alone p ≡ Some y) × (x.name ≡ y.name)
    name_was p x is = elim (cases_eq p at) [
      | inl here ↦
          let it : x ≡ b = written_is alone fewer at b x p updates here is in
          (a, ap (get alone) here ∙ there, ap (λ (z : Alone). z.name) it ∙ same.name)
      | inr other ↦ (x, stood_there alone fewer at (Some b) x p updates other is, refl)
    ]

    some_at : (p : ℕ) (x : Alone) → p ≡ at → x ≡ b
        → (1 ≤ x.references) × (x.references ≡ count_of (is_standing_at p) less)
        × (x.name < used)
    some_at p x here it =
        let left = standing_less in
        let name = same.name in
        let low = (all.some at a there).2 in
        let found : (1 ≤ b.references) × (b.references ≡ count_of (is_standing_at at) less)
        × (b.name < used) = (some, omega arith, omega arith) in
        rw (here, it) found

    pub held_fewer : AreHeld seed used seats less fewer
    held_fewer =
        let apart = apart_less handles less index hold gone seed used seats alone all seats fewer
        refl stand_fewer in
        let pinned = pinned_else in
        let count = gone.count in
        let length = len_updated alone fewer at (Some b) updates in
        let had : one_of (get alone at) ≡ 1 = ap one_of there in
        let sum = total_updated references_of refl alone fewer at (Some b) updates in
        let had_references : references_of (get alone at) ≡ a.references = ap references_of there in
        let held_pins = all.pins in
        let held_entries = all.entries in
        let held_references = all.references in
        record {
          each = apart.each;
          apart = apart.apart;
          pins = omega arith;
          entries = omega arith;
          names_apart = λ p q x y hp hq e.
              let px = name_was p x hp in
              let qy = name_was q y hq in
              all.names_apart p q px.0 qy.0 px.1 qy.1 (sym px.2 ∙ (e ∙ qy.2));
          some = λ p x is. elim (cases_eq p at) [
            | inl here ↦ some_at p x here (written_is alone fewer at b x p updates here is)
            | inr other ↦
                let stood = all.some p x (stood_there alone fewer at (Some b) x p updates other is)
                in
                (stood.0, stood.1 ∙ sym (standing_else p other), stood.2)
          ];
          references = omega arith;
        }

  -- Where it was the last handle on the entry: the entry is gone, at its shard too.
  module _ (fewer : Slab Alone) (was is : ShardSeat T)
      (sits : slice_get seats hold.shard ≡ Some was)
      (records : (view_of is).records ≡ (view_of was).records)
      (standalones : (view_of is).work.standalones
      ≡ dropped (is_standing a.name) (view_of was).work.standalones)
      (last : a.references ≡ 1) (updates : Updates alone fewer at None) where
    -- no other handle is on it
    none_there : (p : ℕ) (k : Hold) → p ≢ index → get handles p ≡ Some k
        → k.kept ≡ Standing at → ⊥
    none_there p k ne stands on =
        let left = standing_less in
        let none = count_nothing (is_standing_at at) refl less p k (omega arith)
        (gone.updates.others p ne ∙ stands) in
        let one = (standing_test (Some k) at at k refl on).1 ∙ eq-eqb at at refl in
        let both : true ≡ false = sym one ∙ none in
        let no : ⊥ = cc in
        no

    -- the others stand for what they stood for
    pub stand_fallen : (p : ℕ) (k : Hold) → p ≢ index → get handles p ≡ Some k
        → Stands seats (slice_set seats hold.shard is) alone fewer k
    stand_fallen p k ne stands =
        stands_if seats (slice_set seats hold.shard is) alone fewer seed k (all.each p k stands).0
        (λ r found.
        ap (find _) (part_same (λ v. v.records) seats hold.shard k.shard was is sits records)
        ∙ found)
        (λ q e s standing stood known.
        let other : q ≢ at =
        λ here. none_there p k ne stands (standing ∙ ap Standing here) in
        let named : e.name ≢ a.name = λ same. other (all.names_apart q at e a stood there same) in
        record {
          entry = e;
          there = stands_there alone fewer at None e q updates other stood;
          same = same_alone e;
          known =
              found_left (λ v. v.work.standalones) (is_standing a.name) (is_standing e.name)
              seats hold.shard k.shard was is sits standalones
              (λ ss. standing_left a.name e.name ss named) ∙ known;
        })

    pub held_fallen : AreHeld seed used (slice_set seats hold.shard is) less fewer
    held_fallen =
        let apart = apart_less handles less index hold gone seed used seats alone all
        (slice_set seats hold.shard is) fewer (length-set seats hold.shard is) stand_fallen in
        let pinned = pinned_else in
        let count = gone.count in
        let length_is = len_updated alone fewer at None updates in
        let had : one_of (get alone at) ≡ 1 = ap one_of there in
        let sum = total_updated references_of refl alone fewer at None updates in
        let had_references : references_of (get alone at) ≡ a.references = ap references_of there in
        let pins = total-set records_at seats hold.shard was is sits in
        let entries = total-set standalones_at seats hold.shard was is sits in
        let same : records_at is ≡ records_at was = ap length records in
        let dropped_is : standalones_at is + 1 ≡ standalones_at was =
        ap (λ ss. length ss + 1) standalones
        ∙ dropped_one (is_standing a.name) (view_of was).work.standalones _
        (known_there was sits) in
        let held_pins = all.pins in
        let held_entries = all.entries in
        let held_references = all.references in
        let was_there = λ (p : ℕ) (x : Alone) (now : get fewer p ≡ Some x).
        stood_there alone fewer at None x p updates
        (λ here. freed_is alone fewer at x p updates here now) now in
        record {
          each = apart.each;
          apart = apart.apart;
          pins = omega arith;
          entries = omega arith;
          names_apart = λ p q x y hp hq e.
              all.names_apart p q x y (was_there p x hp) (was_there q y hq) e;
          some = λ p x now.
              let other : p ≢ at = λ here. freed_is alone fewer at x p updates here now in
              let stood = all.some p x (was_there p x now) in
              (stood.0, stood.1 ∙ sym (standing_else p other), stood.2);
          references = omega arith;
        }
