-- One reference more on a standalone entry, and a handle on it.
use Rattle.std.proofs.Common.{◌≡◌, inl, inr, ℕ, ◌+◌, ◌==◌, List, Some, None, find, sym, refl, ap, subst, ◌∙◌, arith}
use Rattle.std.proofs.lemmas.Bool.{cases_eq, eq-eqb, ne_eqb}
use Rattle.slab.specs.Slab.{Slab, get, slab_len, Updates}
use Rattle.hcc_core.specs.declared.client.Standalone.{Standalone}
use Rattle.hcc_core.specs.Ledgers.{is_standing}
use Rattle.hcc_core.specs.Sums.{when}
use Rattle.hcc_shard.specs.declared.seat.ShardSeat.{ShardSeat}
use Rattle.hcc_cache.specs.declared.holding.Alone.{Alone}
use Rattle.hcc_cache.specs.declared.holding.Hold.{Hold}
use Rattle.hcc_cache.specs.declared.holding.Kept.TheVariants.{Standing}
use Rattle.hcc_cache.specs.Clients.{standalones_in}
use Rattle.hcc_cache.specs.Known.{AreHeld, count_of, is_pinned, is_standing_at, IsKept, IsKeptAs, IsStand, references_of}
use Rattle.hcc_cache.proofs.Handles.SameHolds.{IsAgain, IsSameAlone, same_alone, Stands, stands_if, stood_there, written_is}
use Rattle.hcc_cache.proofs.Handles.StandAsBefore.{apart_more}
use Rattle.hcc_cache.proofs.Handles.OneMoreReference.{counted_more}
use Rattle.hcc_cache.proofs.Basics.SlabSums.{len_updated, one_of, total_updated}

-- which index of a standalone entry a handle is on
standing_there : (index : ℕ) (hold : Hold) → hold.kept ≡ Standing index → (p : ℕ)
    → is_standing_at p (Some hold) ≡ (index == p)
standing_there index hold kept p = rw kept refl

-- where a standalone entry has one reference more
module _ {T : Type 0} (seed used : ℕ) (seats : List (ShardSeat T)) (handles : Slab Hold)
    (old new : Slab Alone) (all : AreHeld seed used seats handles old) (index : ℕ) (a b : Alone)
    (there : get old index ≡ Some a) (same : IsSameAlone a b)
    (updates : Updates old new index (Some b)) where
  -- each entry is there still
  entry_again : (k : Hold) (q : ℕ) (x : Alone) (s : Standalone) → get old q ≡ Some x
      → find (is_standing x.name) (standalones_in seats k.shard) ≡ Some s
      → IsAgain seats seats old new k q x s
  entry_again k q x s held known = elim (cases_eq q index) [
    | inl here ↦
        let both : Some a ≡ Some x = sym there ∙ (ap (get old) (sym here) ∙ held) in
        let is : a ≡ x = cc in
        record {
          entry = b;
          there = ap (get new) here ∙ updates.changed;
          same = subst (λ w. IsSameAlone w b) is same;
          known = known;
        }
    | inr ne ↦
        record {
          entry = x;
          there = updates.others q ne ∙ held;
          same = same_alone x;
          known = known;
        }
  ]

  -- so each hold stands as it stood
  pub stands_again : (p : ℕ) (k : Hold) → get handles p ≡ Some k → Stands seats seats old new k
  stands_again p k at =
      stands_if seats seats old new seed k (all.each p k at).0 (λ r found. found)
      (λ q x s kept held known. entry_again k q x s held known)

  -- an entry of this index was there under the same name
  named_before : (p : ℕ) (x : Alone) → get new p ≡ Some x
      → (w : Alone) × (get old p ≡ Some w) × (w.name ≡ x.name)
  named_before p x at = elim (cases_eq p index) [
    | inl here ↦
        let is = written_is old new index b x p updates here at in
        (a, ap (get old) here ∙ there, sym same.name ∙ ap (λ (z : Alone). z.name) (sym is))
    | inr ne ↦ (x, stood_there old new index (Some b) x p updates ne at, refl)
  ]

  -- no two have one name
  names_again : (p q : ℕ) (x y : Alone) → get new p ≡ Some x → get new q ≡ Some y
      → x.name ≡ y.name → p ≡ q
  names_again p q x y hp hq e =
      let v = named_before p x hp in
      let w = named_before q y hq in
      all.names_apart p q v.0 w.0 v.1 w.1 (v.2 ∙ (e ∙ sym w.2))

  module _ (first hold : Hold) (from at : ℕ) (gained : Slab Hold)
      (held : get handles from ≡ Some first) (first_kept : first.kept ≡ Standing index)
      (kept : hold.kept ≡ Standing index) (shard : hold.shard ≡ first.shard)
      (serial : hold.serial ≡ used) (key : hold.key ≡ first.key) where
    -- the new handle is kept on the entry of the first
    kept_again : IsKept seed seats new hold
    kept_again =
        let was = (all.each from first held).0 in
        let stand : IsStand seed seats old first index =
        subst (λ k. IsKeptAs seed seats old first k) first_kept was.stands in
        let both : Some stand.entry ≡ Some a = sym stand.there ∙ there in
        let is : stand.entry ≡ a = cc in
        let known : find (is_standing a.name) (standalones_in seats first.shard)
        ≡ Some (record { name = a.name; charge = a.charge }) =
        subst (λ (x : Alone). find (is_standing x.name) (standalones_in seats first.shard)
        ≡ Some (record { name = x.name; charge = x.charge })) is stand.known in
        record {
          within = rw shard was.within;
          home = rw (shard, key) was.home;
          stands =
              rw kept (record {
                entry = b;
                there = updates.changed;
                known = rw (same.name, same.charge, shard) known;
              });
        }

    pub held_again : b.references ≡ a.references + 1 → get handles at ≡ None
        → Updates handles gained at (Some hold) → slab_len gained ≡ slab_len handles + 1
        → AreHeld seed (used + 1) seats gained new
    held_again more free given count =
        let apart = apart_more seed used seats seats handles old all at hold gained new refl serial
        kept_again given stands_again in
        let unpinned : when (is_pinned (Some hold)) 1 ≡ 0 = rw kept refl in
        let pins = counted_more is_pinned handles gained at hold refl free given in
        let size = len_updated old new index (Some b) updates in
        let size_there : one_of (get old index) ≡ 1 = ap one_of there in
        let sum = total_updated references_of refl old new index (Some b) updates in
        let sum_there : references_of (get old index) ≡ a.references = ap references_of there in
        let counts = λ (p : ℕ).
        counted_more (is_standing_at p) handles gained at hold refl free given in
        record {
          each = apart.each;
          apart = apart.apart;
          pins = let before = all.pins in omega arith;
          entries = let before = all.entries in omega arith;
          names_apart = names_again;
          some = λ p x hp. elim (cases_eq p index) [
            | inl here ↦
                let is = written_is old new index b x p updates here hp in
                let before = all.some index a there in
                let one : when (is_standing_at p (Some hold)) 1 ≡ 1 =
                ap (λ t. when t 1)
                (standing_there index hold kept p ∙ eq-eqb index p (sym here)) in
                let counted = counts p in
                let counted_there : count_of (is_standing_at p) handles
                ≡ count_of (is_standing_at index) handles =
                ap (λ q. count_of (is_standing_at q) handles) here in
                let had = before.1 in
                let below = before.2 in
                let name = same.name in
                let xs : x.references ≡ b.references = ap (λ (z : Alone). z.references) is in
                let xn : x.name ≡ b.name = ap (λ (z : Alone). z.name) is in
                (omega arith, omega arith, omega arith)
            | inr ne ↦
                let before = all.some p x (stood_there old new index (Some b) x p updates ne hp) in
                let none : when (is_standing_at p (Some hold)) 1 ≡ 0 =
                ap (λ t. when t 1)
                (standing_there index hold kept p ∙ ne_eqb index p (λ e. ne (sym e))) in
                let counted = counts p in
                let had = before.1 in
                let below = before.2 in
                (before.0, omega arith, omega arith)
          ];
          references = let before = all.references in omega arith;
        }
