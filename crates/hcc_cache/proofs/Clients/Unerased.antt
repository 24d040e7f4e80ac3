-- A release that doesn't ask to erase takes nothing away that a cache of one client shows.
use Rattle.std.proofs.Common.{◌≡◌, ℕ, ◌&&◌, Bool, false, Option, Some, None, is_some, slice_get, sym, refl, ap, ◌∙◌, subst, true}
use Rattle.std.specs.Prelude.{IsSome, IsSomeAnd}
use Rattle.std.specs.declared.alloc.Global.{Global}
use Rattle.std.proofs.lemmas.Option.{same_Some}
use Rattle.hcc_core.specs.declared.slot.Entry.{Entry}
use Rattle.hcc_rule.specs.declared.key.Key.{Key}
use Rattle.hcc_rule.specs.Callers.{clients_of, world_at}
use Rattle.hcc_rule.specs.Words.{key_of}
use Rattle.hcc_table.specs.Standing.{ShowsKey, shown_at}
use Rattle.hcc_table.specs.Still.{ReleasesBy}
use Rattle.hcc_table.proofs.Unerased.{unerased_hidden}
use Rattle.hcc_shard.specs.declared.seat.ShardSeat.{ShardSeat}
use Rattle.hcc_shard.specs.declared.shard.Shard.{Shard}
use Rattle.hcc_shard.specs.Stays.{ReleasesAt}
use Rattle.hcc_cache.specs.declared.cache.Cache.{Cache}
use Rattle.hcc_cache.specs.declared.client.Client.{Client}
use Rattle.hcc_cache.specs.declared.handle.Handle.{Handle}
use Rattle.hcc_cache.specs.declared.holding.Hold.{Hold}
use Rattle.hcc_cache.specs.declared.holding.Kept.{Kept}
use Rattle.hcc_cache.specs.declared.holding.Kept.TheVariants.{Pinned, Standing}
use Rattle.hcc_cache.specs.declared.seeded.Seeded.{Seeded}
use Rattle.hcc_cache.specs.Calls.{shard_in}
use Rattle.hcc_cache.specs.Clients.{Holds, hold_of}
use Rattle.hcc_cache.specs.Moments.{KnowsShown}
use Rattle.hcc_cache.specs.Sharding.{key_to}
use Rattle.hcc_cache.specs.Stays.{ReleasesIn, ReleasesPin, StaysWhereStanding}
use Rattle.hcc_cache.proofs.Clients.ShownAfterwards.{knows_released, knows_still}

module _ {T A : Type 0} (shard : Shard T A) (one : clients_of shard.table ≡ 1) where
  -- So one whose slot shows an entry frees nothing.
  shown_unfreed : (slot name : ℕ) (used freed : Bool) (old new : ShardSeat T) (entry : Entry)
      → ReleasesAt shard slot name true used false freed old new
      → shown_at (world_at shard.table old.seat) slot ≡ Some entry → freed ≡ false
  shown_unfreed slot name used freed old new entry h shown = h.freed_is ∙ by h.charge h.releases
    where
      by : (o : Option ℕ) → ReleasesBy shard.table slot name true used false o old.seat h.mid
          → is_some o ≡ false
      by None r = refl
      by (Some charge) r =
          let none = unerased_hidden shard.table one slot name charge true used old.seat h.mid r in
          cc

module _ {T : Type 0} (cache : Cache T) (key : Key) (old new : Client T)
    (k : KnowsShown cache key old) (one : clients_of k.shard.table ≡ 1) where
  -- A release of a pin that doesn't ask to erase takes nothing away.
  pub knows_unerased : (hold : Hold) (slot : ℕ) (used freed : Bool)
      → ReleasesPin cache hold slot true used false freed old new → KnowsShown cache key new
  knows_unerased hold slot used freed h =
      knows_released cache key old new k one hold slot used false freed h unfreed
    where
      unfreed : shard_in cache key ≡ hold.shard → k.slot ≡ slot → freed ≡ false
      unfreed here same =
          by (shown_at (world_at h.0.shard.table h.0.was.seat) slot) refl shows
        where
          shard : k.shard ≡ h.0.shard
          shard =
              same_Some _ _ (sym k.shard_is ∙ ap (slice_get cache.shards.items) here
              ∙ h.0.shard_is)

          seat : k.seat ≡ h.0.was
          seat =
              same_Some _ _ (sym k.seat_is ∙ ap (slice_get old.seats.items) here
              ∙ h.0.seat_was)

          single : clients_of h.0.shard.table ≡ 1
          single =
              subst (λ (z : Shard (Seeded T) Global). clients_of z.table ≡ 1) shard one

          shows : ShowsKey (world_at h.0.shard.table h.0.was.seat) (key_to cache.seed key) slot
          shows =
              subst (ShowsKey (world_at h.0.shard.table h.0.was.seat) (key_to cache.seed key)) same
              (subst (λ (q : ShardSeat (Seeded T)).
              ShowsKey (world_at h.0.shard.table q.seat) (key_to cache.seed key) k.slot) seat
              (subst (λ (z : Shard (Seeded T) Global).
              ShowsKey (world_at z.table k.seat.seat) (key_to cache.seed key) k.slot) shard
              k.shows))

          by : (o : Option Entry) → shown_at (world_at h.0.shard.table h.0.was.seat) slot ≡ o
              → IsSomeAnd o (λ e. key_of e ≡ key_to cache.seed key) → freed ≡ false
          by None is none = absurd none
          by (Some entry) is asked =
              shown_unfreed h.0.shard single slot hold.serial used freed h.0.was h.0.is entry
              h.0.did is

  -- So does one of a handle, whatever it is on.
  pub knows_let_go : (handle : Handle) (useful freed : Bool) → Holds old handle
      → ReleasesIn cache handle useful false freed old new
      → StaysWhereStanding cache handle old new → KnowsShown cache key new
  knows_let_go handle useful freed holds pinned standing =
      by (hold_of old handle) refl holds
    where
      by : (o : Option Hold) → hold_of old handle ≡ o → IsSome o → KnowsShown cache key new
      by None is none = cc
      by (Some hold) is some = kept hold.kept refl
        where
          kept : (what : Kept) → hold.kept ≡ what → KnowsShown cache key new
          kept (Pinned slot counting) on =
              knows_unerased hold slot (useful && counting) freed
              (pinned hold slot counting is on)
          kept (Standing index) on =
              knows_still cache key old new k one (standing hold index is on)
