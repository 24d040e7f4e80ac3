-- What a client knows once it has one handle more on a standalone entry.
use Rattle.std.proofs.Common.{◌≡◌, ℕ, ◌+◌, ◌<◌, [], Some, Global, sym, refl, ap, ◌∙◌, arith}
use Rattle.std.proofs.lemmas.List.{append-nil}
use Rattle.slab.specs.Slab.{get, Updates}
use Rattle.hcc_core.specs.declared.limits.TheConstants.{MOST_HANDLES}
use Rattle.hcc_core.proofs.ListLemmas.{set_same}
use Rattle.hcc_rule.proofs.Basics.Lists.{there}
use Rattle.hcc_table.proofs.Searches.{searched_refl}
use Rattle.hcc_shard.specs.declared.seat.ShardSeat.{ShardSeat}
use Rattle.hcc_shard.specs.declared.shard.Shard.{Shard}
use Rattle.hcc_shard.specs.Callers.{view_of}
use Rattle.hcc_cache.specs.declared.cache.Cache.{Cache}
use Rattle.hcc_cache.specs.declared.client.Client.{Client}
use Rattle.hcc_cache.specs.declared.handle.Handle.{Handle}
use Rattle.hcc_cache.specs.declared.holding.Alone.{Alone}
use Rattle.hcc_cache.specs.declared.holding.Hold.{Hold}
use Rattle.hcc_cache.specs.declared.holding.Kept.TheVariants.{Standing}
use Rattle.hcc_cache.specs.declared.seeded.Seeded.{Seeded}
use Rattle.hcc_cache.specs.Calls.{Rerefs, TakesAtMost, capacities_of}
use Rattle.hcc_cache.specs.Clients.{held_alone, hold_of}
use Rattle.hcc_cache.specs.Known.{Knows, is_standing_at}
use Rattle.hcc_cache.proofs.Handles.OneMoreOnPinned.{hold_within}
use Rattle.hcc_cache.proofs.Clients.AtOneShard.{ChangesAt, IsAt, home_kept, knows_at, seated_at, takes_at, works_at}
use Rattle.hcc_cache.proofs.Handles.SameHolds.{held_same, IsSameAlone}
use Rattle.hcc_cache.proofs.Handles.OneMore.{gains, IsGiven}
use Rattle.hcc_cache.proofs.Clients.Seats.{seated_later}
use Rattle.hcc_cache.proofs.Basics.SlabSums.{count_within}
use Rattle.hcc_cache.proofs.Handles.OneMoreOnStandalone.{held_again, stands_again}

module _ {T : Type 0} (cache : Cache T) (old : Client T) (first : Hold) (from : ℕ)
    (knows : Knows cache old) (held : get old.handles from ≡ Some first) where
  -- the shard of a hold, and the client's seat there
  pub record IsSomewhere : Type 0 where
    pub shard : Shard (Seeded T) Global
    pub seat : ShardSeat (Seeded T)
    pub at : IsAt cache old first.shard shard seat

  pub somewhere : IsSomewhere
  somewhere =
      let within = hold_within cache old first from knows held in
      let shard = there cache.shards.items first.shard within.1 in
      let seat = there old.seats.items first.shard within.0 in
      record {
        shard = shard.0;
        seat = seat.0;
        at = record { knows = knows; shard_is = shard.1; seat_is = seat.1 };
      }

  -- a standalone entry has fewer references than a client may hold handles, where one is free
  pub few_references : (index : ℕ) (a : Alone) → get old.alone index ≡ Some a
      → old.held < old.most → a.references < MOST_HANDLES
  few_references index a stands free =
      let counted = (knows.holds.some index a stands).1 in
      let within = count_within (is_standing_at index) refl old.handles in
      let count = knows.count in
      let most = knows.most in
      omega arith

  -- One handle more on a standalone entry.
  module _ (new : Client T) (handle more : Handle) (hold : Hold) (index : ℕ) (a b : Alone)
      (holds : hold_of old handle ≡ Some first) (first_kept : first.kept ≡ Standing index)
      (kept : hold.kept ≡ Standing index) (shard : hold.shard ≡ first.shard)
      (key : hold.key ≡ first.key) (stands : get old.alone index ≡ Some a)
      (same : IsSameAlone a b) (references : b.references ≡ a.references + 1)
      (updates : Updates old.alone new.alone index (Some b))
      (given : IsGiven old new more hold) (seats : new.seats.items ≡ old.seats.items)
      (most : new.most ≡ old.most) (seed : new.seed ≡ old.seed)
      (capacities : capacities_of new ≡ capacities_of old) where
    changes : ChangesAt old new first.shard somewhere.seat
    changes = record {
      seats =
          seats ∙ sym (set_same old.seats.items first.shard somewhere.seat somewhere.at.seat_is);
      number = given.number;
      most = most;
      seed = seed;
      capacities = capacities;
    }

    pub knows_standing : old.held < old.most → Knows cache new
    knows_standing few =
        let at = somewhere.at in
        let seat = somewhere.seat in
        let used = given.uses.0 in
        let left = given.uses.1 in
        let held_more = given.held in
        let count = given.count in
        let counted = knows.count in
        let serials = knows.serials in
        knows_at cache old new first.shard somewhere.shard seat seat at changes (omega arith)
        (rw used
        (seated_later somewhere.shard old.number old.used (old.used + 1) seat (omega arith)
        (seated_at cache old new first.shard somewhere.shard seat seat at)))
        (home_kept cache old new first.shard somewhere.shard seat seat at refl)
        (rw (seats, used)
        (held_again cache.seed old.used old.seats.items old.handles old.alone new.alone knows.holds
        index a b stands same updates first hold from more.index new.handles held first_kept kept
        shard given.named key references given.free given.updates given.count))
        (omega arith) (omega arith) (omega arith)

    pub rerefs_standing : Rerefs cache handle more old new
    rerefs_standing =
        let v = view_of somewhere.seat in
        let sought = searched_refl v in
        record {
          held = held_alone first.key a;
          was = rw (holds, first_kept, stands) refl;
          shard = first.shard;
          v = v;
          w = v;
          works =
              works_at cache old new first.shard somewhere.shard somewhere.seat somewhere.seat
              somewhere.at changes;
          searched = sought.searched;
          added = [];
          adds = refl;
          records = sym (append-nil v.records);
          gains =
              gains cache old new more hold given (held_alone first.key a)
              (rw (kept, updates.changed, key) (ap Some (held_same first.key a b same)))
              (λ p k ne at_p. rw seats
              (stands_again cache.seed old.used old.seats.items old.handles old.alone new.alone
              knows.holds index a b stands same updates p k at_p));
        }

    pub takes_standing : TakesAtMost 0 old new
    takes_standing =
        takes_at cache old new first.shard somewhere.shard somewhere.seat somewhere.seat
        somewhere.at changes 0 (omega arith)
