-- One handle more on an entry of the table that is held.
use Rattle.std.proofs.Common.{◌≡◌, ℕ, ◌^◌, ◌<◌, List, [], ◌∷◌, ◌++◌, Some, IfSome, IsSome, get_or, length, option_map, sym, refl, ap, subst, ◌∙◌, arith}
use Rattle.slab.specs.Slab.{get}
use Rattle.hcc_rule.specs.declared.view.Record.{Record}
use Rattle.hcc_rule.specs.Views.{is_called}
use Rattle.hcc_rule.specs.Records.{record_in}
use Rattle.hcc_rule.specs.Words.{key_of}
use Rattle.hcc_rule.proofs.Basics.Findings.{find_each}
use Rattle.hcc_table.specs.declared.pins.Pin.{Pin}
use Rattle.hcc_table.specs.Pins.{IsOf, IsPinned}
use Rattle.hcc_table.specs.Searched.{Searched}
use Rattle.hcc_shard.specs.declared.seat.ShardSeat.{ShardSeat}
use Rattle.hcc_shard.specs.declared.shard.Shard.{Shard}
use Rattle.hcc_shard.specs.Callers.{geometry_of, view_of}
use Rattle.hcc_shard.specs.Seated.{IsKept as IsKeptIn}
use Rattle.hcc_cache.specs.declared.cache.Cache.{Cache}
use Rattle.hcc_cache.specs.declared.client.Client.{Client}
use Rattle.hcc_cache.specs.declared.handle.Handle.{Handle}
use Rattle.hcc_cache.specs.declared.holding.Hold.{Hold}
use Rattle.hcc_cache.specs.declared.holding.Kept.TheVariants.{Standing}
use Rattle.hcc_cache.specs.declared.seeded.Seeded.{Seeded}
use Rattle.hcc_cache.specs.Calls.{Gains, Rerefs}
use Rattle.hcc_cache.specs.Clients.{IsPinOf, held_entry, held_of, hold_of, records_in, view_by}
use Rattle.hcc_cache.specs.Sharding.{key_to}
use Rattle.hcc_cache.specs.Known.{IsKeptAs, IsPin, IsStand, Knows}
use Rattle.hcc_cache.proofs.Clients.AtOneShard.{ChangesAt, IsAt, is_at, works_at}
use Rattle.hcc_cache.proofs.Handles.SameHolds.{hold_there}

module _ {T : Type 0} (cache : Cache T) (client : Client T) (hold : Hold) where
  -- what is kept of a handle is at one of the shards
  pub hold_within : (index : ℕ) → Knows cache client → get client.handles index ≡ Some hold
      → (hold.shard < length client.seats.items) × (hold.shard < length cache.shards.items)
  hold_within index knows there =
      let within = (knows.holds.each index hold there).0.within in
      let count = knows.seated.count in
      (within, omega arith)

  -- the record that a handle on an entry of the table stands for, in the view of its shard
  pub record IsPinAt (pin : Pin) (slots : ℕ) (was : ShardSeat (Seeded T)) : Type 0 where
    pub handled : Record
    pub there : record_in hold.serial (view_of was).records ≡ Some handled
    pub known : record_in hold.serial (records_in client.seats.items hold.shard) ≡ Some handled
    pub of : IsOf pin handled
    pub key : key_of handled.entry ≡ key_to cache.seed hold.key
    pub small : handled.entry.charge < 2 ^ 32
    pub within : pin.slot < slots

-- Of a handle that is held.
module _ {T : Type 0} {cache : Cache T} {client : Client T} {hold : Hold} (handle : Handle)
    (knows : Knows cache client) (held : hold_of client handle ≡ Some hold) where
  -- what is kept of it is there
  pub kept_there : get client.handles handle.index ≡ Some hold
  kept_there = hold_there client.number handle (get client.handles handle.index) hold held

  -- and at one of the shards
  pub held_within : (hold.shard < length client.seats.items)
      × (hold.shard < length cache.shards.items)
  held_within = hold_within cache client hold handle.index knows kept_there

  -- the standalone entry that it is on is there
  pub stand_there : {index : ℕ} → hold.kept ≡ Standing index → IsSome (get client.alone index)
  stand_there {index} kept =
      let stand : IsStand cache.seed client.seats.items client.alone hold index =
      subst (λ k. IsKeptAs cache.seed client.seats.items client.alone hold k) kept
      (knows.holds.each handle.index hold kept_there).0.stands in
      rw (stand.there) refl

  -- its shard is at work
  pub at_hold : {shard : Shard (Seeded T) _} {was : ShardSeat (Seeded T)}
      → shard ≡ get_or cache.shards.items hold.shard shard
      → was ≡ get_or client.seats.items hold.shard was → IsAt cache client hold.shard shard was
  at_hold {shard} {was} = is_at cache client hold.shard shard was knows held_within.1

-- Of one on an entry of the table, by its pin.
module _ {T : Type 0} {cache : Cache T} {client : Client T} {hold : Hold} {pin : Pin}
    {shard : Shard (Seeded T) _} {was : ShardSeat (Seeded T)} (handle : Handle)
    (at : IsAt cache client hold.shard shard was) (held : hold_of client handle ≡ Some hold)
    (pinned : IsPinOf hold pin) where
  -- its record is in the view of its shard
  pub pin_at : IsPinAt cache client hold pin (geometry_of shard).slots was
  pin_at =
      let it : IsPin cache.seed client.seats.items client.alone hold pin.slot pin.counting =
      subst (λ k. IsKeptAs cache.seed client.seats.items client.alone hold k) pinned.kept
      (at.knows.holds.each handle.index hold (kept_there handle at.knows held)).0.stands in
      let here : record_in hold.serial (view_of was).records ≡ Some it.handled =
      ap (λ o. record_in hold.serial (view_by o).records) (sym at.seat_is) ∙ it.there in
      let seated = at.knows.seated.each hold.shard shard was at.shard_is at.seat_is in
      let good = find_each (is_called hold.serial) (IsKeptIn (geometry_of shard))
      (view_of was).records it.handled seated.rests.quiet.kept here in
      let on = good.on in
      let slot_is = it.of.0 in
      record {
        handled = it.handled;
        there = here;
        known = it.there;
        of = it.of;
        key = it.key;
        small =
            find_each (is_called hold.serial) (λ (r : Record). r.entry.charge < 2 ^ 32)
            (view_of was).records it.handled seated.charged.records here;
        within = omega arith;
      }

  -- as a shard asks for it
  pub pinned_at : IsPinned pin (view_of was)
  pinned_at = rw (pinned.name, pin_at.there) pin_at.of

  -- another record on the entry of it
  pub entry_at : (r : Record)
      → IfSome (record_in pin.name (view_of was).records) (λ q. r.entry ≡ q.entry)
      → r.entry ≡ pin_at.handled.entry
  entry_at r told = rw (pinned.name, pin_at.there) at told

  -- what the handle stands for, by that record
  pub held_at : (r : Record) → r.entry ≡ pin_at.handled.entry
      → held_of cache client handle ≡ Some (held_entry cache.seed r.entry)
  held_at r same =
      rw (held, pinned.kept)
      (ap (option_map (λ (q : Record). held_entry cache.seed q.entry)) pin_at.known
      ∙ ap (λ e. Some (held_entry cache.seed e)) (sym same))

  -- what is told of its record's value and charge is told of its own
  pub told_of_both : (P : (value : List ℕ) → (charge : ℕ) → Type 0)
      → IfSome (record_in pin.name (view_of was).records) (λ r. P r.entry.value r.entry.charge)
      → IfSome (held_of cache client handle) (λ h. P h.insertion.value h.insertion.charge)
  told_of_both P told =
      let here : P pin_at.handled.entry.value pin_at.handled.entry.charge =
      rw (pinned.name, pin_at.there) at told in
      rw (held_at pin_at.handled refl) here

  pub told_of : (P : List ℕ → Type 0)
      → IfSome (record_in pin.name (view_of was).records) (λ r. P r.entry.value)
      → IfSome (held_of cache client handle) (λ h. P h.insertion.value)
  told_of P told = told_of_both (λ value charge. P value) told

  -- and back
  pub told_back : (P : List ℕ → Type 0)
      → IfSome (held_of cache client handle) (λ h. P h.insertion.value)
      → IfSome (record_in pin.name (view_of was).records) (λ r. P r.entry.value)
  told_back P told =
      let here : P pin_at.handled.entry.value = rw (held_at pin_at.handled refl) at told in
      rw (pinned.name, pin_at.there) here

module _ {T : Type 0} (cache : Cache T) (old new : Client T) (i : ℕ) (shard : Shard (Seeded T) _)
    (was is : ShardSeat (Seeded T)) (at : IsAt cache old i shard was)
    (change : ChangesAt old new i is) where
  -- One handle more on an entry of the table.
  pub rerefs_pinned : (handle more : Handle) (r : Record) → Searched (view_of was) (view_of is)
      → (view_of is).records ≡ (view_of was).records ++ r ∷ [] → r.name ≡ more.serial
      → r.weight ≡ 1 → held_of cache old handle ≡ Some (held_entry cache.seed r.entry)
      → Gains cache more (held_entry cache.seed r.entry) old new
      → Rerefs cache handle more old new
  rerefs_pinned handle more r searched joins called weight held gains = record {
    held = held_entry cache.seed r.entry;
    was = held;
    shard = i;
    v = view_of was;
    w = view_of is;
    works = works_at cache old new i shard was is at change;
    searched = searched;
    added = r ∷ [];
    adds = (r, refl, refl, called, weight);
    records = joins;
    gains = gains;
  }
