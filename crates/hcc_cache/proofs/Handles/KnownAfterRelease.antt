-- What a client knows once it gave a handle back.
use Rattle.std.proofs.Common.{◌≡◌, ℕ, ◌+◌, ◌-◌, ◌^◌, ◌<◌, ◌≤◌, Bool, true, false}
use Rattle.std.proofs.Common.{Some, None, find, length}
use Rattle.std.proofs.Common.{sym, refl, ap, subst, ◌∙◌, arith}
use Rattle.slab.specs.Slab.{get, Updates}
use Rattle.hcc_core.specs.declared.client.Standalone.{Standalone}
use Rattle.hcc_core.specs.Ledgers.{is_standing}
use Rattle.hcc_core.specs.Outcomes.{dropped}
use Rattle.hcc_rule.specs.declared.view.Record.{Record}
use Rattle.hcc_rule.specs.declared.view.View.{View}
use Rattle.hcc_rule.specs.Views.{is_called}
use Rattle.hcc_rule.proofs.Basics.Findings.{dropped_each}
use Rattle.hcc_charge.specs.Settled.{fallen}
use Rattle.hcc_table.specs.declared.pins.Pin.{Pin}
use Rattle.hcc_shard.specs.declared.seat.ShardSeat.{ShardSeat}
use Rattle.hcc_shard.specs.declared.shard.Shard.{Shard}
use Rattle.hcc_shard.specs.Callers.{geometry_of, view_of}
use Rattle.hcc_shard.specs.Referred.{IsReleased}
use Rattle.hcc_shard.specs.Seated.{Rests}
use Rattle.hcc_cache.specs.declared.cache.Cache.{Cache}
use Rattle.hcc_cache.specs.declared.client.Client.{Client}
use Rattle.hcc_cache.specs.declared.handle.Handle.{Handle}
use Rattle.hcc_cache.specs.declared.holding.Alone.{Alone}
use Rattle.hcc_cache.specs.declared.holding.Hold.{Hold}
use Rattle.hcc_cache.specs.declared.holding.Kept.TheVariants.{Standing}
use Rattle.hcc_cache.specs.declared.seeded.Seeded.{Seeded}
use Rattle.hcc_cache.specs.Calls.{Capacities, Loses, Releases, UsesNone, capacities_of}
use Rattle.hcc_cache.specs.Clients.{IsPinOf, held_alone, held_entry, held_of, hold_of, view_at, view_in}
use Rattle.hcc_cache.specs.Known.{IsSeated, Knows}
use Rattle.hcc_cache.proofs.Handles.OneMoreOnPinned.{IsPinAt, held_at, pin_at}
use Rattle.hcc_cache.proofs.Clients.AtOneShard.{ChangesAt, IsAt, home_kept, knows_at, seated_at, works_at}
use Rattle.hcc_cache.proofs.Handles.SameHolds.{IsSameAlone, StandBut, keeps_less, own_parts}
use Rattle.hcc_cache.proofs.Handles.OneLessOnPinned.{IsLess, IsWithout, held_unpinned, stand_unpinned}
use Rattle.hcc_cache.proofs.Clients.Seats.{seated_by}
use Rattle.hcc_cache.proofs.Handles.OneLessOnStandalone.{held_fallen, held_fewer, known_there, stand_fallen, stand_fewer}

-- Of a seat.

module _ {T A : Type 0} (shard : Shard T A) (number used : ℕ) (was is : ShardSeat T)
    (seated : IsSeated shard number used was) (rests : Rests shard is) where
  -- it is one of its client still, once a reference was given back
  pub seated_released : (name : ℕ) (erase freed : Bool)
      → IsReleased name erase freed (view_of was) (view_of is) → IsSeated shard number used is
  seated_released name erase freed released =
      let same = released.same in
      let made_same = ap (λ (v : View T). length v.made) same in
      let made = seated.made in
      seated_by shard number used used was is seated rests (ap (λ (v : View T). v.client) same)
      (ap (λ (v : View T). v.others) same)
      (rw (ap (λ (v : View T). v.records) same)
      (dropped_each (is_called name) (λ (r : Record). r.name < used) (view_of was).records
      seated.records))
      (rw (ap (λ (v : View T). v.work.standalones) same) seated.standalones)
      (omega arith) (rw (ap (λ (v : View T). v.made) same) seated.above)
      (record {
        records =
            rw (ap (λ (v : View T). v.records) same)
            (dropped_each (is_called name) (λ (r : Record). r.entry.charge < 2 ^ 32)
            (view_of was).records seated.charged.records);
        standalones =
            rw (ap (λ (v : View T). v.work.standalones) same) seated.charged.standalones;
      })

  -- or a standalone entry was let go
  pub seated_fallen : (name : ℕ) → view_of is ≡ fallen name (view_of was)
      → IsSeated shard number used is
  seated_fallen name fell =
      let made_same = ap (λ (v : View T). length v.made) fell in
      let made = seated.made in
      seated_by shard number used used was is seated rests (ap (λ (v : View T). v.client) fell)
      (ap (λ (v : View T). v.others) fell)
      (rw (ap (λ (v : View T). v.records) fell) seated.records)
      (rw (ap (λ (v : View T). v.work.standalones) fell)
      (dropped_each (is_standing name) (λ (s : Standalone). s.name < used)
      (view_of was).work.standalones seated.standalones))
      (omega arith) (rw (ap (λ (v : View T). v.made) fell) seated.above)
      (record {
        records = rw (ap (λ (v : View T). v.records) fell) seated.charged.records;
        standalones =
            rw (ap (λ (v : View T). v.work.standalones) fell)
            (dropped_each (is_standing name) (λ (s : Standalone). s.charge < 2 ^ 32)
            (view_of was).work.standalones seated.charged.standalones);
      })

-- what a release leaves of a seat
pub without_released : {T : Type 0} (name : ℕ) (erase freed : Bool) (was is : ShardSeat T)
    → IsReleased name erase freed (view_of was) (view_of is) → IsWithout name was is
without_released name erase freed was is released = record {
  records = ap (λ (v : View _). v.records) released.same;
  standalones = ap (λ (v : View _). v.work.standalones) released.same;
}

-- Of a client.

-- It let go of this handle.
pub record LetsGo {T : Type 0} (old new : Client T) (handle : Handle) (hold : Hold) : Type 0 where
  pub was : hold_of old handle ≡ Some hold
  pub gone : IsLess old.handles new.handles handle.index hold
  pub number : new.number ≡ old.number
  pub most : new.most ≡ old.most
  pub seed : new.seed ≡ old.seed
  pub held : new.held + 1 ≡ old.held
  pub uses : UsesNone old new

module _ {T : Type 0} (cache : Cache T) (old new : Client T) (handle : Handle) (hold : Hold) where
  -- by what was left between, where its seats and standalone entries may have changed since
  pub lets_go : (mid : Client T) → Knows cache old → hold_of old handle ≡ Some hold
      → IsLess old.handles mid.handles handle.index hold
      → mid ≡ record old { handles = mid.handles; held = old.held - 1 }
      → mid ≡ record new { seats = mid.seats; alone = mid.alone }
      → LetsGo old new handle hold
  lets_go mid knows was gone rest same =
      let whole = sym same ∙ rest in
      let held : new.held ≡ old.held - 1 = ap (λ (x : Client T). x.held) whole in
      let count = knows.count in
      let less = gone.count in
      record {
        was = was;
        gone =
            subst (λ hs. IsLess old.handles hs handle.index hold)
            (ap (λ (x : Client T). x.handles) same) gone;
        number = ap (λ (x : Client T). x.number) whole;
        most = ap (λ (x : Client T). x.most) whole;
        seed = ap (λ (x : Client T). x.seed) whole;
        held = omega arith;
        uses = (ap (λ (x : Client T). x.used) whole, ap (λ (x : Client T). x.left) whole);
      }

  module _ (lets : LetsGo old new handle hold) where
    -- so it has that handle less
    pub loses : StandBut cache old new handle.index → Loses cache handle old new
    loses stand =
        let own = own_parts old.number handle (get old.handles handle.index) hold lets.was in
        record {
          gone = rw (lets.gone.updates.changed) refl;
          others =
              keeps_less cache old new handle hold lets.number own.0 own.1 lets.gone.there
              lets.gone.updates stand;
          count = lets.held;
          serials = lets.uses;
        }

    -- The handle was on an entry of the table.
    module _ {pin : Pin} (pinned : IsPinOf hold pin) (shard : Shard (Seeded T) _)
        (was is : ShardSeat (Seeded T)) (at : IsAt cache old hold.shard shard was)
        (change : ChangesAt old new hold.shard is) (alone : new.alone ≡ old.alone)
        (erase freed : Bool)
        (released : IsReleased hold.serial erase freed (view_of was) (view_of is)) where
      abbrev without : IsWithout hold.serial was is
      without = without_released hold.serial erase freed was is released

      abbrev found : IsPinAt cache old hold pin (geometry_of shard).slots was
      found = pin_at handle at lets.was pinned

      -- the client is known still
      pub knows_unpinned : Rests shard is → Knows cache new
      knows_unpinned rests =
          let count = at.knows.count in
          let few = at.knows.few in
          let held = lets.held in
          let less = lets.gone.count in
          knows_at cache old new hold.shard shard was is at change (rw (lets.uses.0) (omega arith))
          (rw (lets.uses.0)
          (seated_released shard old.number old.used was is
          (seated_at cache old new hold.shard shard was is at) rests hold.serial erase freed
          released))
          (home_kept cache old new hold.shard shard was is at
          (ap (λ (v : View (Seeded T)). v.made) released.same))
          (rw (change.seats, alone, lets.uses.0)
          (held_unpinned cache.seed old.used old.seats.items old.handles new.handles old.alone
          handle.index pin.slot pin.counting hold was is lets.gone pinned.kept at.seat_is without
          at.knows.holds found.handled found.there))
          (omega arith) (omega arith)
          (rw (lets.uses.0, lets.uses.1) at.knows.serials)

      -- and released it
      pub releases_unpinned : Releases cache handle erase freed old new
      releases_unpinned =
          let own = own_parts old.number handle (get old.handles handle.index) hold lets.was in
          record {
            held = held_entry cache.seed found.handled.entry;
            was = held_at handle at lets.was pinned found.handled refl;
            shard = hold.shard;
            v = view_of was;
            w = view_of is;
            works = works_at cache old new hold.shard shard was is at change;
            released = rw (own.1) released;
            loses =
                loses
                (λ p k ne there. rw (change.seats, alone)
                (stand_unpinned cache.seed old.used old.seats.items old.handles new.handles
                old.alone handle.index pin.slot pin.counting hold was is lets.gone pinned.kept
                at.seat_is without at.knows.holds p k ne there));
          }

    -- The handle was on a standalone entry.
    module _ (index : ℕ) (a : Alone) (kept : hold.kept ≡ Standing index)
        (there : get old.alone index ≡ Some a) where
      -- what it stood for
      pub stood_for : held_of cache old handle ≡ Some (held_alone hold.key a)
      stood_for = rw (lets.was, kept, there) refl

      -- Others are on it: it has a reference less.
      module _ (knows : Knows cache old) (b : Alone) (same : IsSameAlone a b)
          (reference : b.references + 1 ≡ a.references) (some : 1 ≤ b.references)
          (updates : Updates old.alone new.alone index (Some b))
          (seats : new.seats.items ≡ old.seats.items)
          (capacities : capacities_of new ≡ capacities_of old) where
        pub knows_fewer : Knows cache new
        knows_fewer =
            let count = knows.count in
            let few = knows.few in
            let held = lets.held in
            let less = lets.gone.count in
            let most = lets.most in
            record {
              alike = knows.alike;
              seed = lets.seed ∙ knows.seed;
              seated = rw (seats, lets.number, lets.uses.0) knows.seated;
              homes = rw seats knows.homes;
              holds =
                  rw (seats, lets.uses.0)
                  (held_fewer cache.seed old.used old.seats.items old.handles new.handles old.alone
                  handle.index index hold a lets.gone kept there knows.holds new.alone b same
                  reference some updates);
              count = omega arith;
              few = omega arith;
              most = rw (lets.most) knows.most;
              room = rw (
                lets.most,
                ap (λ (c : Capacities). c.handles) capacities,
                ap (λ (c : Capacities). c.alone) capacities,
              )
                  knows.room;
              serials = rw (lets.uses.0, lets.uses.1) knows.serials;
            }

        pub releases_fewer : (erase : Bool) → Releases cache handle erase false old new
        releases_fewer erase = record {
          held = held_alone hold.key a;
          was = stood_for;
          shard = hold.shard;
          v = view_at hold.shard old;
          w = view_at hold.shard old;
          works = record {
            before = refl;
            after = ap (λ xs. view_in xs hold.shard) seats;
            others = λ s ne. ap (λ xs. view_in xs s) seats;
            self = (lets.number, lets.most, capacities);
          };
          released = refl;
          loses =
              loses
              (λ p k ne stands. rw seats
              (stand_fewer cache.seed old.used old.seats.items old.handles new.handles old.alone
              handle.index index hold a lets.gone kept there knows.holds new.alone b same reference
              some updates p k ne stands));
        }

      -- It was the last: the entry is gone.
      module _ (shard : Shard (Seeded T) _) (was is : ShardSeat (Seeded T))
          (at : IsAt cache old hold.shard shard was) (change : ChangesAt old new hold.shard is)
          (fell : view_of is ≡ fallen a.name (view_of was)) (last : a.references ≡ 1)
          (updates : Updates old.alone new.alone index None) where
        records : (view_of is).records ≡ (view_of was).records
        records = ap (λ (v : View (Seeded T)). v.records) fell

        standalones : (view_of is).work.standalones
            ≡ dropped (is_standing a.name) (view_of was).work.standalones
        standalones = ap (λ (v : View (Seeded T)). v.work.standalones) fell

        -- its shard knew it
        stood : find (is_standing a.name) (view_of was).work.standalones
            ≡ Some (record { name = a.name; charge = a.charge })
        stood =
            known_there cache.seed old.used old.seats.items old.handles new.handles old.alone
            handle.index index hold a lets.gone kept there at.knows.holds was at.seat_is

        pub knows_fallen : Rests shard is → Knows cache new
        knows_fallen rests =
            let count = at.knows.count in
            let few = at.knows.few in
            let held = lets.held in
            let less = lets.gone.count in
            knows_at cache old new hold.shard shard was is at change
            (rw (lets.uses.0) (omega arith))
            (rw (lets.uses.0)
            (seated_fallen shard old.number old.used was is
            (seated_at cache old new hold.shard shard was is at) rests a.name fell))
            (home_kept cache old new hold.shard shard was is at
            (ap (λ (v : View (Seeded T)). v.made) fell))
            (rw (change.seats, lets.uses.0)
            (held_fallen cache.seed old.used old.seats.items old.handles new.handles old.alone
            handle.index index hold a lets.gone kept there at.knows.holds new.alone was is
            at.seat_is records standalones last updates))
            (omega arith) (omega arith)
            (rw (lets.uses.0, lets.uses.1) at.knows.serials)

        pub releases_fallen : (erase : Bool) → Releases cache handle erase true old new
        releases_fallen erase = record {
          held = held_alone hold.key a;
          was = stood_for;
          shard = hold.shard;
          v = view_of was;
          w = view_of is;
          works = works_at cache old new hold.shard shard was is at change;
          released = (rw stood refl, fell);
          loses =
              loses
              (λ p k ne stands. rw (change.seats)
              (stand_fallen cache.seed old.used old.seats.items old.handles new.handles old.alone
              handle.index index hold a lets.gone kept there at.knows.holds new.alone was is
              at.seat_is records standalones last updates p k ne stands));
        }
