-- What handles stand for, where what the client keeps of them stays.
use Rattle.std.proofs.Common.{◌≡◌, ◌≢◌, inl, inr, ℕ, ◌==◌, ◌&&◌, Bool, true, false, List, Option, Some, None, find, if◌then◌else◌, length, option_map, sym, refl, ap, ◌∙◌}
use Rattle.std.proofs.lemmas.Bool.{cases_eq, eqb-true, eq-eqb}
use Rattle.slab.specs.Slab.{Slab, get, Updates}
use Rattle.hcc_core.specs.declared.client.Standalone.{Standalone}
use Rattle.hcc_core.specs.Ledgers.{is_standing}
use Rattle.hcc_rule.specs.declared.view.Record.{Record}
use Rattle.hcc_rule.specs.Records.{record_in}
use Rattle.hcc_shard.specs.declared.seat.ShardSeat.{ShardSeat}
use Rattle.hcc_cache.specs.Alones.{bytes_of}
use Rattle.hcc_cache.specs.declared.cache.Cache.{Cache}
use Rattle.hcc_cache.specs.declared.client.Client.{Client}
use Rattle.hcc_cache.specs.declared.handle.Handle.{Handle}
use Rattle.hcc_cache.specs.declared.holding.Alone.{Alone}
use Rattle.hcc_cache.specs.declared.holding.Hold.{Hold}
use Rattle.hcc_cache.specs.declared.holding.Kept.{Kept}
use Rattle.hcc_cache.specs.declared.holding.Kept.TheVariants.{Pinned, Standing}
use Rattle.hcc_cache.specs.Clients.{held_alone, held_as, held_entry, held_of, if_of, is_of, kept_as, records_in, standalones_in}
use Rattle.hcc_cache.specs.Known.{IsKept, IsKeptAs}

-- Of handles.

pub and_both : (a b : Bool) → (a && b) ≡ true → (a ≡ true) × (b ≡ true)
and_both true b h = (refl, h)
and_both false b h = cc

-- The handle of a hold is one.
pub same_handle : (number : ℕ) (h handle : Handle) (hold : Hold) → is_of number h hold ≡ true
    → handle.client ≡ number → h.index ≡ handle.index → handle.serial ≡ hold.serial → h ≡ handle
same_handle number h handle hold is client index serial =
    let both = and_both (h.client == number) (hold.serial == h.serial) is in
    let c : h.client ≡ handle.client = eqb-true h.client number both.0 ∙ sym client in
    let s : h.serial ≡ handle.serial = sym (eqb-true hold.serial h.serial both.1) ∙ sym serial in
    ap (λ x. record h { client = x }) c
    ∙ ap (λ x. record h { client = handle.client; index = x }) index
    ∙ ap (λ x. record handle { serial = x }) s

-- A handle is that of its hold.
pub is_its_own : (number : ℕ) (handle : Handle) (hold : Hold) → handle.client ≡ number
    → handle.serial ≡ hold.serial → is_of number handle hold ≡ true
is_its_own number handle hold client serial =
    rw (eq-eqb handle.client number client) (eq-eqb hold.serial handle.serial (sym serial))

-- a hold of another handle
pub not_its_own : (number : ℕ) (h : Handle) (hold : Hold) → (is_of number h hold ≡ true → ⊥)
    → if_of number h (Some hold) ≡ None
not_its_own number h hold other = by (is_of number h hold) refl
  where
    by : (b : Bool) → is_of number h hold ≡ b → (if b then Some hold else None) ≡ None
    by true is = absurd (other is)
    by false is = refl

-- what a client keeps of a handle stands at its index,
pub hold_there : (number : ℕ) (h : Handle) (o : Option Hold) (hold : Hold)
    → if_of number h o ≡ Some hold → o ≡ Some hold
hold_there number h None hold e = cc
hold_there number h (Some k) hold e = by (is_of number h k) e
  where
    by : (b : Bool) → (if b then Some k else None) ≡ Some hold → Some k ≡ Some hold
    by true e = e
    by false e = cc

-- and is its own
pub hold_is : (number : ℕ) (h : Handle) (o : Option Hold) (hold : Hold)
    → if_of number h o ≡ Some hold → is_of number h hold ≡ true
hold_is number h None hold e = cc
hold_is number h (Some k) hold e = by (is_of number h k) refl e
  where
    by : (b : Bool) → is_of number h k ≡ b → (if b then Some k else None) ≡ Some hold
        → is_of number h hold ≡ true
    by true is e = let same : k ≡ hold = cc in ap (is_of number h) (sym same) ∙ is
    by false is e = cc

-- so it has the client's number and the hold's serial
pub own_parts : (number : ℕ) (h : Handle) (o : Option Hold) (hold : Hold)
    → if_of number h o ≡ Some hold → (h.client ≡ number) × (h.serial ≡ hold.serial)
own_parts number h o hold e =
    let both = and_both (h.client == number) (hold.serial == h.serial)
    (hold_is number h o hold e) in
    (eqb-true h.client number both.0, sym (eqb-true hold.serial h.serial both.1))

-- Of slabs.

module _ {V : Type 0} (old new : Slab V) (index : ℕ) where
  -- what stands at the index that was written,
  pub written_is : (value v : V) (p : ℕ) → Updates old new index (Some value) → p ≡ index
      → get new p ≡ Some v → v ≡ value
  written_is value v p updates same there =
      let both : Some v ≡ Some value = sym there ∙ (ap (get new) same ∙ updates.changed) in
      let is : v ≡ value = cc in
      is

  -- nothing at one that was freed,
  pub freed_is : (v : V) (p : ℕ) → Updates old new index None → p ≡ index → get new p ≡ Some v → ⊥
  freed_is v p updates same there =
      let both : Some v ≡ None = sym there ∙ (ap (get new) same ∙ updates.changed) in
      let no : ⊥ = cc in
      no

  -- and what stood there at the others
  pub stood_there : (slot : Option V) (v : V) (p : ℕ) → Updates old new index slot → p ≢ index
      → get new p ≡ Some v → get old p ≡ Some v
  stood_there slot v p updates ne there = sym (updates.others p ne) ∙ there

  pub stands_there : (slot : Option V) (v : V) (p : ℕ) → Updates old new index slot → p ≢ index
      → get old p ≡ Some v → get new p ≡ Some v
  stands_there slot v p updates ne there = updates.others p ne ∙ there

-- Of what is kept.

-- a standalone entry is the same but for its references
pub record IsSameAlone (a b : Alone) : Type 0 where
  pub name : b.name ≡ a.name
  pub charge : b.charge ≡ a.charge
  pub value : bytes_of b.value ≡ bytes_of a.value

pub same_alone : (a : Alone) → IsSameAlone a a
same_alone a = record { name = refl; charge = refl; value = refl }

pub held_same : (key : _) (a b : Alone) → IsSameAlone a b → held_alone key b ≡ held_alone key a
held_same key a b same = λ i. record {
  insertion = record { key = key; value = same.value i; charge = same.charge i };
  entry = None;
  standing = Some (same.name i);
}

module _ {T : Type 0} (seats more : List (ShardSeat T)) (old new : Slab Alone) where
  -- What a hold stands for stays: the record of its serial, or its standalone entry.
  abbrev pub StandsAs : Hold → Kept → Type 0
  StandsAs hold (Pinned slot counting) =
      record_in hold.serial (records_in more hold.shard)
      ≡ record_in hold.serial (records_in seats hold.shard)
  StandsAs hold (Standing index) =
      (a : Alone) × (b : Alone) × (get old index ≡ Some a) × (get new index ≡ Some b)
      × IsSameAlone a b
      × (find (is_standing a.name) (standalones_in more hold.shard)
      ≡ find (is_standing a.name) (standalones_in seats hold.shard))

  abbrev pub Stands : Hold → Type 0
  Stands hold = StandsAs hold hold.kept

  -- a standalone entry is there still, and the shard knows it as it did
  pub record IsAgain (hold : Hold) (index : ℕ) (a : Alone) (s : Standalone) : Type 0 where
    pub entry : Alone
    pub there : get new index ≡ Some entry
    pub same : IsSameAlone a entry
    pub known : find (is_standing a.name) (standalones_in more hold.shard) ≡ Some s

  -- where its record is found still, or its standalone entry
  pub stands_if : (seed : ℕ) (hold : Hold) → IsKept seed seats old hold
      → ((r : Record) → record_in hold.serial (records_in seats hold.shard) ≡ Some r
      → record_in hold.serial (records_in more hold.shard) ≡ Some r)
      → ((index : ℕ) (a : Alone) (s : Standalone) → hold.kept ≡ Standing index
      → get old index ≡ Some a
      → find (is_standing a.name) (standalones_in seats hold.shard) ≡ Some s
      → IsAgain hold index a s)
      → Stands hold
  stands_if seed hold kept records standalones = by hold.kept refl kept.stands
    where
      by : (k : Kept) → hold.kept ≡ k → IsKeptAs seed seats old hold k → StandsAs hold k
      by (Pinned slot counting) is pin = records pin.handled pin.there ∙ sym pin.there
      by (Standing index) is stand =
          let again = standalones index stand.entry _ is stand.there stand.known in (
            stand.entry,
            again.entry,
            stand.there,
            again.there,
            again.same,
            again.known ∙ sym stand.known,
          )

  -- it stands for the same insertion
  pub kept_same : (seed : ℕ) (hold : Hold) (kept : Kept) → StandsAs hold kept
      → kept_as seed more new hold kept ≡ kept_as seed seats old hold kept
  kept_same seed hold (Pinned slot counting) same =
      ap (option_map (λ (r : Record). held_entry seed r.entry)) same
  kept_same seed hold (Standing index) same =
      rw (same.2, same.3) (ap Some (held_same hold.key same.0 same.1 same.4))

  -- and is kept still
  pub kept_still : (seed : ℕ) (hold : Hold) → length more ≡ length seats → Stands hold
      → IsKept seed seats old hold → IsKept seed more new hold
  kept_still seed hold count same kept = record {
    within = rw count kept.within;
    home = rw count kept.home;
    stands = by hold.kept same kept.stands;
  }
    where
      by : (k : Kept) → StandsAs hold k → IsKeptAs seed seats old hold k
          → IsKeptAs seed more new hold k
      by (Pinned slot counting) same pin = record {
        handled = pin.handled;
        there = same ∙ pin.there;
        of = pin.of;
        key = pin.key;
      }
      by (Standing index) same stand =
          let both : Some same.0 ≡ Some stand.entry = sym same.2 ∙ stand.there in
          let is : same.0 ≡ stand.entry = cc in
          record {
            entry = same.1;
            there = same.3;
            known = rw (same.4.name, same.4.charge, same.5, is) stand.known;
          }

  -- where the slot at its index stands as it stood, a handle stands for what it stood for
  pub stands_by : (seed number : ℕ) (h : Handle) (o : Option Hold)
      → ((k : Hold) → o ≡ Some k → Stands k)
      → held_as seed more new (if_of number h o) ≡ held_as seed seats old (if_of number h o)
  stands_by seed number h None f = refl
  stands_by seed number h (Some k) f = by (is_of number h k)
    where
      by : (b : Bool) → held_as seed more new (if b then Some k else None)
          ≡ held_as seed seats old (if b then Some k else None)
      by true = kept_same seed k k.kept (f k refl)
      by false = refl

-- Of clients.

module _ {T : Type 0} (cache : Cache T) (old new : Client T) where
  -- what each hold of the client stands for stays, but for the one of this index
  abbrev pub StandBut : (index : ℕ) → Type 0
  StandBut index =
      (p : ℕ) (k : Hold) → p ≢ index → get old.handles p ≡ Some k
      → Stands old.seats.items new.seats.items old.alone new.alone k

  -- all of them
  abbrev pub StandAll : Type 0
  StandAll =
      (p : ℕ) (k : Hold) → get old.handles p ≡ Some k
      → Stands old.seats.items new.seats.items old.alone new.alone k

  pub keeps_all : new.number ≡ old.number → new.handles ≡ old.handles → StandAll
      → (h : Handle) → held_of cache new h ≡ held_of cache old h
  keeps_all number handles stand h =
      rw (number, handles)
      (stands_by old.seats.items new.seats.items old.alone new.alone cache.seed old.number h
      (get old.handles h.index) (λ k there. stand h.index k there))

  -- a handle at another index stands for what it stood for
  pub keeps_else : (index : ℕ) (slot : Option Hold) (h : Handle) → new.number ≡ old.number
      → Updates old.handles new.handles index slot → h.index ≢ index → StandBut index
      → held_of cache new h ≡ held_of cache old h
  keeps_else index slot h number updates ne stand =
      rw (number, updates.others h.index ne)
      (stands_by old.seats.items new.seats.items old.alone new.alone cache.seed old.number h
      (get old.handles h.index) (λ k there. stand h.index k ne there))

  -- Others than the new handle stand for what they stood for.
  pub keeps_more : (handle : Handle) (hold : Hold) → new.number ≡ old.number
      → handle.client ≡ old.number → handle.serial ≡ hold.serial
      → get old.handles handle.index ≡ None
      → Updates old.handles new.handles handle.index (Some hold) → StandBut handle.index
      → (h : Handle) → ¬ (h ≡ handle) → held_of cache new h ≡ held_of cache old h
  keeps_more handle hold number client serial free updates stand h ne =
      elim (cases_eq h.index handle.index) [
        | inl same ↦
            let now : get new.handles h.index ≡ Some hold =
            ap (get new.handles) same ∙ updates.changed in
            let was : get old.handles h.index ≡ None = ap (get old.handles) same ∙ free in
            rw (number, now, was)
            (ap (held_as cache.seed new.seats.items new.alone)
            (not_its_own old.number h hold
            (λ is. ne (same_handle old.number h handle hold is client same serial))))
        | inr other ↦
            keeps_else handle.index (Some hold) h number updates other stand
      ]

  -- Others than the one that is gone stand for what they stood for.
  pub keeps_less : (handle : Handle) (hold : Hold) → new.number ≡ old.number
      → handle.client ≡ old.number → handle.serial ≡ hold.serial
      → get old.handles handle.index ≡ Some hold
      → Updates old.handles new.handles handle.index None → StandBut handle.index
      → (h : Handle) → ¬ (h ≡ handle) → held_of cache new h ≡ held_of cache old h
  keeps_less handle hold number client serial there updates stand h ne =
      elim (cases_eq h.index handle.index) [
        | inl same ↦
            let now : get new.handles h.index ≡ None =
            ap (get new.handles) same ∙ updates.changed in
            let was : get old.handles h.index ≡ Some hold = ap (get old.handles) same ∙ there in
            rw (number, now, was)
            (sym (ap (held_as cache.seed old.seats.items old.alone)
            (not_its_own old.number h hold
            (λ is. ne (same_handle old.number h handle hold is client same serial)))))
        | inr other ↦ keeps_else handle.index None h number updates other stand
      ]
