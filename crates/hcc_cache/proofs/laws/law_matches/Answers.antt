use Rattle.std.proofs.Common.{◌≡◌, ℕ, Bool, true, false, List, refl, None, Some, Result, Ok, Err, ap, ◌∙◌}
use Rattle.std.specs.declared.alloc.Global.{Global}
use Rattle.hcc_rule.specs.declared.geometry.Geometry.{Geometry}
use Rattle.hcc_rule.specs.declared.key.Key.{Key}
use Rattle.hcc_rule.specs.declared.steps.shows.Draft.{Draft}
use Rattle.hcc_rule.specs.Callers.{clients_of, slots_of, world_at}
use Rattle.hcc_rule.specs.Seats.{SeatOf}
use Rattle.hcc_table.specs.declared.efforts.Effort.{Effort}
use Rattle.hcc_table.specs.declared.inserting.Insertion.{Insertion}
use Rattle.hcc_table.specs.declared.inserting.Insertion.TheVariants.{NoSlot}
use Rattle.hcc_table.specs.Standing.{InsertsShown}
use Rattle.hcc_table.specs.Tries.{Inserts}
use Rattle.hcc_charge.specs.declared.reserving.Refused.{Refused}
use Rattle.hcc_charge.specs.declared.reserving.Reservation.{Reservation}
use Rattle.hcc_charge.specs.declared.reserving.Reservation.TheVariants.{Reserved, NoPlace}
use Rattle.hcc_shard.specs.declared.inserting.Inserted.{Inserted}
use Rattle.hcc_shard.specs.declared.inserting.Inserted.TheVariants as stored
use Rattle.hcc_shard.specs.declared.inserting.Pinned.{Pinned}
use Rattle.hcc_shard.specs.declared.inserting.Pinned.TheVariants as pinned
use Rattle.hcc_shard.specs.declared.seat.ShardSeat.{ShardSeat}
use Rattle.hcc_shard.specs.declared.shard.Shard.{Shard}
use Rattle.hcc_shard.specs.Reserving.{InsertedAs, PinnedAs, TriesFrom, TriesWhere, left_out}
use Rattle.hcc_cache.specs.declared.seeded.Seeded.{Seeded}
use Rattle.hcc_cache.specs.Inserts.{ShowsAs, ShowsFrom, ShowsPinnedAs, ShowsWhere, draft_of}
use Rattle.hcc_cache.specs.Keys.{fits_seeded}
use Rattle.hcc_cache.proofs.laws.law_matches.Goals as goal

-- What the table's law tells of an insertion of a draft tells it of the shard's.
module _ {T : Type 0} (fits : T → Key → List ℕ → Type 0) (shard : Shard (Seeded T) Global)
    (draft : Draft)
    (tells : (answer : Insertion) (before after : Effort) (old new : SeatOf (Seeded T))
    → Inserts (fits_seeded fits) shard.table draft.key draft.serial draft.countdown answer before
    after old new
    → InsertsShown (slots_of shard.table) draft.key answer (world_at shard.table old)
    (world_at shard.table new)) where
  shows_from : (reserved : SeatOf (Seeded T)) (counted : Effort) (answer : Insertion)
      (new : ShardSeat (Seeded T))
      (t : TriesFrom (fits_seeded fits) shard draft reserved counted answer new)
      → ShowsFrom fits shard draft reserved t.done answer
  shows_from reserved counted answer new t =
      tells answer counted new.effort reserved t.done t.inserts

  shows_where : (told : Reservation) (reserved : SeatOf (Seeded T)) (counted : Effort)
      (answer : Insertion) (new : ShardSeat (Seeded T))
      (t : TriesWhere (fits_seeded fits) shard draft told reserved counted answer new)
      → ShowsWhere fits shard draft told reserved counted answer new t
  shows_where Reserved reserved counted answer new t = shows_from reserved counted answer new t
  shows_where NoPlace reserved counted answer new t = tt

  shows_as : (answer : Result Inserted Refused) (old new : ShardSeat (Seeded T))
      (did : InsertedAs (fits_seeded fits) shard draft true true answer old new)
      → ShowsAs fits shard draft answer old new did
  shows_as (Ok stored.Placed) old new did =
      shows_from did.1.reserves.reserved did.1.reserves.counted _ new did.1.tries
  shows_as (Ok stored.Dropped) old new did =
      shows_where did.told did.reserves.reserved did.reserves.counted _ new did.tries
  shows_as (Err why) old new did = tt

  shows_pinned : (answer : Result Pinned Refused) (old new : ShardSeat (Seeded T))
      (did : PinnedAs (fits_seeded fits) shard draft true true answer old new)
      → ShowsPinnedAs fits shard draft answer old new did
  shows_pinned (Ok (pinned.Placed pin)) old new did =
      shows_from did.reserves.reserved did.reserves.counted _ new did.tries
  shows_pinned (Ok pinned.Standalone) old new did =
      shows_where did.told did.reserves.reserved did.reserves.counted _ new did.tries
  shows_pinned (Err why) old new did = tt

pub returns-clause-stores : goal.returns-clause-stores
returns-clause-stores g c = λ config tag cache is_of one key charge priority answer old
    new h.
    let made = is_of.shards _ h.shard h.shard_is in
    let alone : clients_of h.shard.table ≡ 1 =
    ap (λ (x : Geometry). x.clients) made.geometry ∙ one in
    let draft = draft_of cache key charge priority (λ c. None) old in
    shows_as g.T.Tag.fits h.shard draft
    (λ told before after was is did. c.law_inserted_alone.ensures h.shard.table draft.key
    draft.serial draft.countdown told before after was is alone did)
    answer h.was h.is h.did

pub returns-clause-pins : goal.returns-clause-pins
returns-clause-pins g c = λ config tag cache is_of one key charge priority answer old new
    h.
    let made = is_of.shards _ h.shard h.shard_is in
    let alone : clients_of h.shard.table ≡ 1 =
    ap (λ (x : Geometry). x.clients) made.geometry ∙ one in
    let draft = draft_of cache key charge priority (λ c. Some c.used) old in
    shows_pinned g.T.Tag.fits h.shard draft
    (λ told before after was is did. c.law_inserted_alone.ensures h.shard.table draft.key
    draft.serial draft.countdown told before after was is alone did)
    answer h.was h.is h.did

-- Where a place was reserved and not all slots were found taken, the key was met.
met_where : {T : Type 0} (fits : T → Key → List ℕ → Type 0) (shard : Shard (Seeded T) Global)
    (draft : Draft)
    → ((before after : Effort) (old new : SeatOf (Seeded T))
    → Inserts (fits_seeded fits) shard.table draft.key draft.serial draft.countdown NoSlot before
    after old new → ⊥)
    → (told : Reservation) (matched : Bool) (reserved : SeatOf (Seeded T)) (counted : Effort)
    (new : ShardSeat (Seeded T))
    → TriesWhere (fits_seeded fits) shard draft told reserved counted (left_out matched) new
    → told ≡ Reserved → matched ≡ true
met_where fits shard draft never told true reserved counted new tries is = refl
met_where fits shard draft never Reserved false reserved counted new tries is =
    absurd (never counted new.effort reserved tries.done tries.inserts)
met_where fits shard draft never NoPlace false reserved counted new tries is = cc

pub returns-clause-met : goal.returns-clause-met
returns-clause-met g c = λ config tag cache is_of one began key charge priority old new h.
    let made = is_of.shards _ h.shard h.shard_is in
    let alone : clients_of h.shard.table ≡ 1 =
    ap (λ (x : Geometry). x.clients) made.geometry ∙ one in
    let draft = draft_of cache key charge priority (λ c. None) old in
    met_where g.T.Tag.fits h.shard draft
    (λ before after was is did. c.law_room_alone.ensures h.shard.table draft.key draft.serial
    draft.countdown before after was is alone (began _ h.shard h.shard_is) did)
    h.did.told h.did.matched h.did.reserves.reserved h.did.reserves.counted h.is h.did.tries

pub returns-clause-met_pinned : goal.returns-clause-met_pinned
returns-clause-met_pinned g c = λ config tag cache is_of one began key charge priority old new h.
    let made = is_of.shards _ h.shard h.shard_is in
    let alone : clients_of h.shard.table ≡ 1 =
    ap (λ (x : Geometry). x.clients) made.geometry ∙ one in
    let draft = draft_of cache key charge priority (λ c. Some c.used) old in
    met_where g.T.Tag.fits h.shard draft
    (λ before after was is did. c.law_room_alone.ensures h.shard.table draft.key draft.serial
    draft.countdown before after was is alone (began _ h.shard h.shard_is) did)
    h.did.told h.did.matched h.did.reserves.reserved h.did.reserves.counted h.is h.did.tries
