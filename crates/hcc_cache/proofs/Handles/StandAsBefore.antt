-- The handles of a client that stand for what they stood for.
use Rattle.std.proofs.Common.{◌≡◌, ◌≢◌, inl, inr, ℕ, ◌+◌, ◌<◌, ◌≤◌, List, Some, find, length, slice_get, slice_set, sym, ap, ◌∙◌, length-set, arith}
use Rattle.std.proofs.lemmas.Bool.{cases_eq}
use Rattle.slab.specs.Slab.{Slab, get, Updates}
use Rattle.hcc_core.specs.Ledgers.{is_standing}
use Rattle.hcc_core.proofs.SumLemmas.{total-set}
use Rattle.hcc_rule.specs.Records.{record_in}
use Rattle.hcc_shard.specs.declared.seat.ShardSeat.{ShardSeat}
use Rattle.hcc_shard.specs.Callers.{view_of}
use Rattle.hcc_cache.specs.declared.holding.Alone.{Alone}
use Rattle.hcc_cache.specs.declared.holding.Hold.{Hold}
use Rattle.hcc_cache.specs.Clients.{records_in, standalones_in}
use Rattle.hcc_cache.specs.Known.{AreHeld, IsKept, records_at, standalones_at}
use Rattle.hcc_cache.proofs.Handles.SameHolds.{kept_still, same_alone, Stands, stands_if, stood_there, written_is}
use Rattle.hcc_cache.proofs.Clients.Seats.{part_same}

-- Each handle stands for something of its own.
pub record AreApart {T : Type 0} (seed used : ℕ) (seats : List (ShardSeat T)) (handles : Slab Hold)
    (alone : Slab Alone) : Type 0 where
  pub each : (index : ℕ) (hold : Hold) → get handles index ≡ Some hold
      → IsKept seed seats alone hold × (hold.serial < used)
  pub apart : (p q : ℕ) (h k : Hold) → get handles p ≡ Some h → get handles q ≡ Some k
      → h.serial ≡ k.serial → p ≡ q

module _ {T : Type 0} (seed used : ℕ) (seats more : List (ShardSeat T)) (handles : Slab Hold)
    (old : Slab Alone) (all : AreHeld seed used seats handles old) where
  -- The handles are apart still, where each stands as it stood.
  pub apart_still : (later : ℕ) (new : Slab Alone) → used ≤ later → length more ≡ length seats
      → ((p : ℕ) (k : Hold) → get handles p ≡ Some k → Stands seats more old new k)
      → AreApart seed later more handles new
  apart_still later new le count stand = record {
    each = λ p k there.
        let was = all.each p k there in
        let below = was.1 in
        (kept_still seats more old new seed k count (stand p k there) was.0, omega arith);
    apart = all.apart;
  }

  -- One handle more has the next serial, and is kept.
  pub apart_more : (index : ℕ) (hold : Hold) (gained : Slab Hold) (new : Slab Alone)
      → length more ≡ length seats → hold.serial ≡ used → IsKept seed more new hold
      → Updates handles gained index (Some hold)
      → ((p : ℕ) (k : Hold) → get handles p ≡ Some k → Stands seats more old new k)
      → AreApart seed (used + 1) more gained new
  apart_more index hold gained new count serial mine updates stand = record {
    each = λ p k there. elim (cases_eq p index) [
      | inl same ↦
          let is = written_is handles gained index hold k p updates same there in
          let next : k.serial ≡ used = ap (λ (x : Hold). x.serial) is ∙ serial in
          (rw is mine, omega arith)
      | inr ne ↦
          let before = stood_there handles gained index (Some hold) k p updates ne there in
          let was = all.each p k before in
          let below = was.1 in
          (kept_still seats more old new seed k count (stand p k before) was.0, omega arith)
    ];
    apart = λ p q h k hp hq e. elim (cases_eq p index) [
      | inl same ↦ elim (cases_eq q index) [
        | inl other ↦ same ∙ sym other
        | inr ne ↦ absurd (newer p q h k hp hq e same ne)
      ]
      | inr ne ↦ elim (cases_eq q index) [
        | inl same ↦ absurd (newer q p k h hq hp (sym e) same ne)
        | inr other ↦
            all.apart p q h k (stood_there handles gained index (Some hold) h p updates ne hp)
            (stood_there handles gained index (Some hold) k q updates other hq) e
      ]
    ];
  }
    where
      newer : (p q : ℕ) (h k : Hold) → get gained p ≡ Some h → get gained q ≡ Some k
          → h.serial ≡ k.serial → p ≡ index → q ≢ index → ⊥
      newer p q h k hp hq e same ne =
          let is = written_is handles gained index hold h p updates same hp in
          let next : h.serial ≡ used = ap (λ (x : Hold). x.serial) is ∙ serial in
          let before = stood_there handles gained index (Some hold) k q updates ne hq in
          let below = (all.each q k before).1 in
          omega arith

-- Where a client worked at one shard, and holds there what it held.
module _ {T : Type 0} (seed used : ℕ) (seats : List (ShardSeat T)) (handles : Slab Hold)
    (alone : Slab Alone) (all : AreHeld seed used seats handles alone) (i : ℕ)
    (was is : ShardSeat T) (at : slice_get seats i ≡ Some was)
    (records : (view_of is).records ≡ (view_of was).records)
    (standalones : (view_of is).work.standalones ≡ (view_of was).work.standalones) where
  -- each hold stands as it stood
  pub stands_rest : (p : ℕ) (k : Hold) → get handles p ≡ Some k
      → Stands seats (slice_set seats i is) alone alone k
  stands_rest p k there =
      let more = slice_set seats i is in
      let records_same : records_in more k.shard ≡ records_in seats k.shard =
      part_same (λ v. v.records) seats i k.shard was is at records in
      let standalones_same : standalones_in more k.shard ≡ standalones_in seats k.shard =
      part_same (λ v. v.work.standalones) seats i k.shard was is at standalones in
      stands_if seats more alone alone seed k (all.each p k there).0
      (λ r found. ap (record_in k.serial) records_same ∙ found)
      (λ index a s kept held found. record {
        entry = a;
        there = held;
        same = same_alone a;
        known = ap (find (is_standing a.name)) standalones_same ∙ found;
      })

  -- and all are held, whatever serials were used
  pub held_rest : (later : ℕ) → used ≤ later
      → AreHeld seed later (slice_set seats i is) handles alone
  held_rest later le =
      let apart = apart_still seed used seats (slice_set seats i is) handles alone all later alone
      le (length-set seats i is) stands_rest in
      record {
        each = apart.each;
        apart = apart.apart;
        pins =
            let change = total-set records_at seats i was is at in
            let counts : records_at is ≡ records_at was = ap length records in
            let before = all.pins in
            omega arith;
        entries =
            let change = total-set standalones_at seats i was is at in
            let counts : standalones_at is ≡ standalones_at was = ap length standalones in
            let before = all.entries in
            omega arith;
        names_apart = all.names_apart;
        some = λ index a there.
            let some = all.some index a there in
            let below = some.2 in
            (some.0, some.1, omega arith);
        references = all.references;
      }
