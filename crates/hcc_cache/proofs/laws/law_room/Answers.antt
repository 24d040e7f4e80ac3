use Rattle.std.proofs.Common.{◌≡◌, ℕ, ◌+◌, ◌-◌, ◌*◌, ◌/◌, ◌<◌, ◌≤◌, None, Some, length, ap, sym, subst, ◌∙◌}
use Rattle.std.specs.declared.alloc.Global.{Global}
use Rattle.hcc_core.specs.declared.limits.TheConstants.{OCCUPANCY_PERCENT}
use Rattle.hcc_core.specs.World.{State, limit_of, occupancy_of, standing_of, usage_of}
use Rattle.hcc_rule.specs.declared.geometry.Geometry.{Geometry}
use Rattle.hcc_rule.specs.declared.view.View.{View}
use Rattle.hcc_rule.specs.Callers.{capacity_of, clients_of, plan_of}
use Rattle.hcc_rule.specs.Rule.{setup_of}
use Rattle.hcc_rule.specs.Views.{charge_made}
use Rattle.hcc_shard.specs.declared.shard.Shard.{Shard}
use Rattle.hcc_cache.specs.declared.config.Config.{Config}
use Rattle.hcc_cache.specs.declared.seeded.Seeded.{Seeded}
use Rattle.hcc_cache.specs.Calls.{shard_in}
use Rattle.hcc_cache.specs.Clients.{view_by}
use Rattle.hcc_cache.specs.Inserts.{draft_of}
use Rattle.hcc_cache.specs.Moments.{KnowsShown}
use Rattle.hcc_cache.specs.Opened.{IsConfigured}
use Rattle.hcc_cache.specs.Room.{HasRoom, HasRoomBeside}
use Rattle.hcc_cache.proofs.Insertions.WithoutEviction.{found_beside, found_idles, found_idles_pinned, found_room, inserts_keep, keeps_as, keeps_keys, keeps_pinned_as, keeps_pinned_keys, knows_over, leaves_alone}
use Rattle.hcc_cache.proofs.laws.law_room.Goals as goal

module _ {T : Type 0} (config : Config) (tag : T) (shard : Shard (Seeded T) Global) {number : ℕ}
    (made : IsConfigured config tag number shard) where
  alone : config.clients ≡ 1 → clients_of shard.table ≡ 1
  alone one = ap (λ (x : Geometry). x.clients) made.geometry ∙ one

  -- The limits of the shard are those that the cache was made with:
  slots_in : (plan_of shard.table).geometry.slots ≡ config.slots
  slots_in = ap (λ (x : Geometry). x.slots) (shard.table.planned.0 ∙ made.geometry)

  module _ (charge : ℕ) where
    -- in a world
    module _ (world : State) (room : HasRoom config charge world) where
      place_in : occupancy_of world < limit_of (setup_of (plan_of shard.table))
      place_in =
          subst (λ n. occupancy_of world < n * OCCUPANCY_PERCENT / 100) (sym slots_in) room.place

      room_in : usage_of world + charge ≤ capacity_of shard.table
      room_in = subst (λ n. usage_of world + charge ≤ n) (sym made.capacity) room.within

    -- and beside what the client made.
    module _ (v : View (Seeded T)) (room : HasRoomBeside config charge v) where
      place_beside : length v.made - v.takings < limit_of (setup_of (plan_of shard.table))
      place_beside =
          subst (λ n. length v.made - v.takings < n * OCCUPANCY_PERCENT / 100) (sym slots_in)
          room.place

      room_beside : standing_of v.work + charge_made v + charge ≤ capacity_of shard.table
      room_beside =
          subst (λ n. standing_of v.work + charge_made v + charge ≤ n) (sym made.capacity)
          room.within

pub returns-clause-room : goal.returns-clause-room
returns-clause-room g c = λ config tag cache is_of one key charge priority answer old new h room.
    let made = is_of.shards _ h.shard h.shard_is in
    let draft = draft_of cache key charge priority (λ c. None) old in
    found_idles g.T.Tag.fits h.shard draft h.was h.is
    (found_room g.T.Tag.fits h.shard draft h.was h.is (alone config tag h.shard made one)
    (place_in config tag h.shard made charge _ room)
    (room_in config tag h.shard made charge _ room)) answer h.did

pub returns-clause-room_pinned : goal.returns-clause-room_pinned
returns-clause-room_pinned g c = λ config tag cache is_of one key charge priority answer old new h
    room.
    let made = is_of.shards _ h.shard h.shard_is in
    let draft = draft_of cache key charge priority (λ c. Some c.used) old in
    found_idles_pinned g.T.Tag.fits h.shard draft h.was h.is
    (found_room g.T.Tag.fits h.shard draft h.was h.is (alone config tag h.shard made one)
    (place_in config tag h.shard made charge _ room)
    (room_in config tag h.shard made charge _ room)) answer h.did

pub returns-clause-fits : goal.returns-clause-fits
returns-clause-fits g c = λ config tag cache is_of one key charge priority answer old new h room.
    let made = is_of.shards _ h.shard h.shard_is in
    let draft = draft_of cache key charge priority (λ c. None) old in
    found_idles g.T.Tag.fits h.shard draft h.was h.is
    (found_beside g.T.Tag.fits h.shard draft h.was h.is (alone config tag h.shard made one)
    (place_beside config tag h.shard made charge _ room)
    (room_beside config tag h.shard made charge _ room)) answer h.did

pub returns-clause-fits_pinned : goal.returns-clause-fits_pinned
returns-clause-fits_pinned g c = λ config tag cache is_of one key charge priority answer old new h
    room.
    let made = is_of.shards _ h.shard h.shard_is in
    let draft = draft_of cache key charge priority (λ c. Some c.used) old in
    found_idles_pinned g.T.Tag.fits h.shard draft h.was h.is
    (found_beside g.T.Tag.fits h.shard draft h.was h.is (alone config tag h.shard made one)
    (place_beside config tag h.shard made charge _ room)
    (room_beside config tag h.shard made charge _ room)) answer h.did

pub returns-clause-stores : goal.returns-clause-stores
returns-clause-stores g c = λ config tag cache is_of one key charge priority answer old new h same.
    let made = is_of.shards _ h.shard h.shard_is in
    let single = alone config tag h.shard made one in
    let draft = draft_of cache key charge priority (λ c. None) old in
    keeps_as g.T.Tag.fits h.shard draft h.was h.is
    (leaves_alone g.T.Tag.fits h.shard draft h.was h.is single
    (λ told before after was is did. c.law_inserted_alone.ensures h.shard.table draft.key
    draft.serial draft.countdown told before after was is single did))
    same answer h.did

pub returns-clause-pins : goal.returns-clause-pins
returns-clause-pins g c = λ config tag cache is_of one key charge priority answer old new h same.
    let made = is_of.shards _ h.shard h.shard_is in
    let single = alone config tag h.shard made one in
    let draft = draft_of cache key charge priority (λ c. Some c.used) old in
    keeps_pinned_as g.T.Tag.fits h.shard draft h.was h.is
    (leaves_alone g.T.Tag.fits h.shard draft h.was h.is single
    (λ told before after was is did. c.law_inserted_alone.ensures h.shard.table draft.key
    draft.serial draft.countdown told before after was is single did))
    same answer h.did

pub returns-clause-kept : goal.returns-clause-kept
returns-clause-kept g c = λ config tag cache is_of one key charge priority answer old new h same
    only other.
    knows_over cache (shard_in cache key) other old new h.shard h.was h.is h.shard_is h.seat_was
    h.seat_is only
    (keeps_keys g.T.Tag.fits h.shard (draft_of cache key charge priority (λ c. None) old) h.was
    h.is answer h.did
    (returns-clause-stores g c config tag cache is_of one key charge priority answer old new h
    same))

pub returns-clause-kept_pinned : goal.returns-clause-kept_pinned
returns-clause-kept_pinned g c = λ config tag cache is_of one key charge priority answer old new h
    same only other.
    knows_over cache (shard_in cache key) other old new h.shard h.was h.is h.shard_is h.seat_was
    h.seat_is only
    (keeps_pinned_keys g.T.Tag.fits h.shard
    (draft_of cache key charge priority (λ c. Some c.used) old) h.was h.is answer h.did
    (returns-clause-pins g c config tag cache is_of one key charge priority answer old new h
    same))

pub returns-clause-inserted : goal.returns-clause-inserted
returns-clause-inserted g c = λ config tag cache is_of one key charge priority answer old new did
    room only other before.
    inserts_keep cache g.T.Tag.fits key charge priority (λ z. KnowsShown cache other z) old new
    before
    (λ told h.
    let idle = returns-clause-fits g c config tag cache is_of one key charge priority told old new h
    (subst (HasRoomBeside config charge) (ap view_by h.seat_was) room) in
    returns-clause-kept g c config tag cache is_of one key charge priority told old new h idle.1
    only other before)
    answer did
