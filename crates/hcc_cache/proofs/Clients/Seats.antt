-- The seats of a client, once one of them was worked with.
use mathlib.Core.HLevel.{is_prop→PathP}
use native.Mathlib.Bridge.{le_prop}
use native.Mathlib.Nat.{ℕ_set}
use Rattle.std.proofs.Common.{◌≡◌, ℕ, ◌+◌, ◌<◌, ◌≤◌, List, Some, length, slice_get, slice_set, sym, ap, ◌∙◌, length-set, arith}
use Rattle.hcc_core.specs.declared.client.Standalone.{Standalone}
use Rattle.hcc_core.specs.Sums.{total}
use Rattle.std.specs.Vec.{with_item}
use Rattle.hcc_core.proofs.ListLemmas.{read_here, read_other, read_same, set_same}
use Rattle.hcc_core.proofs.SumLemmas.{total-set}
use Rattle.hcc_rule.specs.declared.view.Record.{Record}
use Rattle.hcc_rule.specs.declared.view.View.{View}
use Rattle.hcc_rule.specs.Rule.{IsAbove}
use Rattle.hcc_rule.specs.Views.{Each}
use Rattle.hcc_rule.proofs.Basics.Lists.{each_set}
use Rattle.hcc_shard.specs.declared.seat.ShardSeat.{ShardSeat}
use Rattle.hcc_shard.specs.declared.shard.Shard.{Shard}
use Rattle.hcc_shard.specs.Callers.{steps_of, view_of}
use Rattle.hcc_shard.specs.Seated.{Rests}
use Rattle.hcc_shard.proofs.Names.{above_later}
use Rattle.hcc_cache.specs.declared.client.Client.{Client}
use Rattle.hcc_cache.specs.declared.seeded.Seeded.{Seeded}
use Rattle.hcc_cache.specs.Clients.{view_by, view_in}
use Rattle.hcc_cache.specs.Known.{AreCharged, AreHome, AreSeated, IsHome, IsSeated}
use Rattle.hcc_cache.proofs.Basics.FoundByName.{names_later, standings_later}

-- Of views.

module _ {T : Type 0} where
  -- the view at that shard, and at the others
  pub view_here : (seats : List (ShardSeat T)) (i : ℕ) (old new : ShardSeat T)
      → slice_get seats i ≡ Some old → view_in (slice_set seats i new) i ≡ view_of new
  view_here seats i old new at = ap view_by (read_here seats i old new at)

  pub view_else : (seats : List (ShardSeat T)) (i j : ℕ) (new : ShardSeat T) → ((j ≡ i) → ⊥)
      → view_in (slice_set seats i new) j ≡ view_in seats j
  view_else seats i j new ne = ap view_by (read_other seats i j new ne)

  -- where a part of the view stays, it stays at all shards
  pub part_same : {A : Type 0} (f : View T → A) (seats : List (ShardSeat T)) (i j : ℕ)
      (old new : ShardSeat T) → slice_get seats i ≡ Some old → f (view_of new) ≡ f (view_of old)
      → f (view_in (slice_set seats i new) j) ≡ f (view_in seats j)
  part_same f seats i j old new at same =
      read_same (λ o. f (view_by o)) seats i j old new at same

  -- a client whose seat at a shard is written over itself is the same
  pub seat_over : (client : Client T) (i : ℕ) (seat : ShardSeat (Seeded T))
      → slice_get client.seats.items i ≡ Some seat
      → record client { seats = with_item client.seats i seat } ≡ client
  seat_over client i seat at =
      let same = set_same client.seats.items i seat at in
      λ k. record client {
        seats = record client.seats {
          items = same k;
          ok = is_prop→PathP (λ j. (client.seats.len ≡ length (same j))
              × (client.seats.len ≤ client.seats.cap))
              (λ j x y l. (ℕ_set _ _ x.0 y.0 l, le_prop x.1 y.1 l))
              (with_item client.seats i seat).ok client.seats.ok k;
        };
      }

  -- the steps of a client that worked at one shard
  pub steps_set : (seats : List (ShardSeat T)) (i most : ℕ) (old new : ShardSeat T)
      → slice_get seats i ≡ Some old → steps_of new ≤ steps_of old + most
      → total steps_of (slice_set seats i new) ≤ total steps_of seats + most
  steps_set seats i most old new at few =
      let change = total-set steps_of seats i old new at in
      omega arith

-- Of seats.

module _ {T A : Type 0} where
  -- A seat is one of its client still, where its view names the same clients, and its names and the
  -- serials of its entries are among the serials that are used now.
  pub seated_by : (shard : Shard T A) (number used more : ℕ) (was is : ShardSeat T)
      → IsSeated shard number used was → Rests shard is
      → (view_of is).client ≡ (view_of was).client → (view_of is).others ≡ (view_of was).others
      → Each (λ (r : Record). r.name < more) (view_of is).records
      → Each (λ (s : Standalone). s.name < more) (view_of is).work.standalones
      → length (view_of is).made ≤ more → IsAbove more (view_of is).made
      → AreCharged (view_of is) → IsSeated shard number more is
  seated_by shard number used more was is seated rests client others records standalones made
      above charged =
      record {
        rests = rests;
        number_is = sym rests.own ∙ (client ∙ (seated.rests.own ∙ seated.number_is));
        single = others ∙ seated.single;
        records = records;
        standalones = standalones;
        made = made;
        above = above;
        charged = charged;
      }

  -- more serials were used
  pub seated_later : (shard : Shard T A) (number used more : ℕ) (seat : ShardSeat T) → used ≤ more
      → IsSeated shard number used seat → IsSeated shard number more seat
  seated_later shard number used more seat le h =
      let made = h.made in
      record {
        rests = h.rests;
        number_is = h.number_is;
        single = h.single;
        records = names_later used more (view_of seat).records le h.records;
        standalones = standings_later used more (view_of seat).work.standalones le h.standalones;
        made = omega arith;
        above = above_later used more (view_of seat).made le h.above;
        charged = h.charged;
      }

  -- all seats, where one was worked with
  pub seated_set : (shards : List (Shard T A)) (number used more : ℕ) (seats : List (ShardSeat T))
      (i : ℕ) (shard : Shard T A) (new : ShardSeat T) → used ≤ more
      → AreSeated shards number used seats
      → slice_get shards i ≡ Some shard → IsSeated shard number more new
      → AreSeated shards number more (slice_set seats i new)
  seated_set shards number used more seats i shard new le all at mine = record {
    count = length-set seats i new ∙ all.count;
    each = λ s d seat hd hs.
        each_set (λ j x. (d : Shard T A) → slice_get shards j ≡ Some d
        → IsSeated d number more x) seats i new
        (λ d h. let same : shard ≡ d = cc in rw (← same) mine)
        (λ j x ne h d hd. seated_later d number used more x le (all.each j d x hd h))
        s seat hs d hd;
  }

module _ {T : Type 0} where
  -- each entry that was made is of its shard, where those are that were made there
  pub home_set : (seed : ℕ) (seats : List (ShardSeat T)) (i : ℕ) (new : ShardSeat T)
      → AreHome seed seats → Each (IsHome seed (length seats) i) (view_of new).made
      → AreHome seed (slice_set seats i new)
  home_set seed seats i new all mine =
      rw (length-set seats i new)
      (each_set (λ j x. Each (IsHome seed (length seats) j) (view_of x).made) seats i new mine
      (λ j x ne h. all j x h))
