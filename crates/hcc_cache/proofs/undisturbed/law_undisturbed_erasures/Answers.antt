use Rattle.std.proofs.Common.{◌≡◌, ap, subst}
use Rattle.hcc_rule.specs.declared.geometry.Geometry.{Geometry}
use Rattle.hcc_rule.specs.Callers.{slots_of, world_at}
use Rattle.hcc_table.specs.Standing.{HidesShown}
use Rattle.hcc_shard.specs.declared.erasing.TheConstants.{IN_FLIGHT}
use Rattle.hcc_cache.specs.Keys.{fits_seeded}
use Rattle.hcc_cache.specs.Sharding.{key_to}
use Rattle.hcc_cache.proofs.Calm.Stretches.{calm_of}
use Rattle.hcc_cache.proofs.Calm.Finds.{seat_named}
use Rattle.hcc_cache.proofs.Calm.Hides.{hides_quiet}
use Rattle.hcc_cache.proofs.undisturbed.law_undisturbed_erasures.Goals as goal

pub returns : goal.returns
returns g c cache began key room hidden old new knows h quiet =
    let few : slots_of h.shard.table ≡ cache.geometry.slots =
    ap (λ (x : Geometry). x.slots) (knows.alike.plans _ h.shard h.shard_is).0 in
    let seeded = key_to cache.seed key in
    let was = world_at h.shard.table h.was.seat in
    let is = world_at h.shard.table h.is.seat in
    subst (λ n. HidesShown n seeded hidden was is) few
    (subst (λ n. HidesShown (slots_of h.shard.table) seeded n was is) h.did.hidden_is
    (hides_quiet (fits_seeded g.T.Tag.fits) h.shard.table (began _ h.shard h.shard_is) old.number
    seeded IN_FLIGHT room h.did.all h.was.effort h.is.effort h.was.seat h.did.mid h.is.seat
    h.did.hides h.did.settles
    (seat_named cache old knows _ h.shard h.was h.shard_is h.seat_was)
    (calm_of old.number quiet)))
