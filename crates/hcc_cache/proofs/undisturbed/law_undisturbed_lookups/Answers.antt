use Rattle.std.proofs.Common.{◌≡◌, ◌<◌, Option, None, Some, IsNone, IsSome, refl, ap, subst, sym, ◌∙◌}
use Rattle.std.proofs.lemmas.Option.{same_Some}
use Rattle.hcc_rule.specs.declared.geometry.Geometry.{Geometry}
use Rattle.hcc_rule.specs.Callers.{slots_of, world_at}
use Rattle.hcc_table.specs.Standing.{ShowsKey}
use Rattle.hcc_table.proofs.Lasting.{misses_exactly, searches_seek}
use Rattle.hcc_shard.specs.declared.seat.ShardSeat.{ShardSeat}
use Rattle.hcc_shard.proofs.Gettings.{gets_lasting}
use Rattle.hcc_cache.specs.Keys.{fits_seeded}
use Rattle.hcc_cache.specs.Sharding.{key_to}
use Rattle.hcc_cache.proofs.Calm.Stretches.{calm_first, calm_of}
use Rattle.hcc_cache.proofs.Calm.Finds.{finds_quiet, misses_quiet, seat_named}
use Rattle.hcc_cache.proofs.Within.Begun.{on_seeks}
use Rattle.hcc_cache.proofs.undisturbed.law_undisturbed_lookups.Goals as goal

found_some : {A : Type 0} (o : Option A) → (IsNone o → ⊥) → IsSome o
found_some None never = absurd (never refl)
found_some (Some x) never = refl

pub returns-clause-first : goal.returns-clause-first
returns-clause-first g c = λ cache began key found old new knows h quiet.
    finds_quiet (fits_seeded g.T.Tag.fits) h.shard.table (began _ h.shard h.shard_is) old.number
    (key_to cache.seed key) (seat_named cache old knows _ h.shard h.was h.shard_is h.seat_was)
    (calm_of old.number quiet) old.used h.did.0
    (c.law_lasting.ensures h.shard.table (key_to cache.seed key) old.used h.shard.marks h.did.0
    h.was.effort h.is.effort h.was.seat h.is.seat h.did.2)

pub returns-clause-misses : goal.returns-clause-misses
returns-clause-misses g c = λ cache began key found old new knows h quiet.
    let few : slots_of h.shard.table ≡ cache.geometry.slots =
    ap (λ (x : Geometry). x.slots) (knows.alike.plans _ h.shard h.shard_is).0 in
    let exactly = misses_exactly h.shard.table (key_to cache.seed key)
    (world_at h.shard.table h.was.seat) h.did.0
    (returns-clause-first g c cache began key found old new knows h quiet) in (
      λ none slot near. exactly.0 (h.did.1 ∙ none) slot (subst (λ n. slot < n) (sym few) near),
      λ never. sym h.did.1 ∙ exactly.1 (λ slot near. never slot (subst (λ n. slot < n) few near)),
    )

pub returns-clause-first_read : goal.returns-clause-first_read
returns-clause-first_read g c = λ cache began key found old new knows h quiet.
    let table = h.shard.table in
    let asked = key_to cache.seed key in
    let looked = h.did.1 in
    let searched = on_seeks table (searches_seek (fits_seeded g.T.Tag.fits) table asked old.used
    h.shard.marks h.did.0 h.was.effort looked.effort h.was.seat looked.seat h.did.3) in
    finds_quiet (fits_seeded g.T.Tag.fits) table (began _ h.shard h.shard_is) old.number asked
    (seat_named cache old knows _ h.shard h.was h.shard_is h.seat_was)
    (calm_first old.number table (calm_of old.number quiet) searched (on_seeks table h.did.4))
    old.used h.did.0
    (c.law_lasting.ensures table asked old.used h.shard.marks h.did.0 h.was.effort looked.effort
    h.was.seat looked.seat h.did.3)

pub returns-clause-misses_read : goal.returns-clause-misses_read
returns-clause-misses_read g c = λ cache began key found old new knows h quiet.
    let few : slots_of h.shard.table ≡ cache.geometry.slots =
    ap (λ (x : Geometry). x.slots) (knows.alike.plans _ h.shard h.shard_is).0 in
    let exactly = misses_exactly h.shard.table (key_to cache.seed key)
    (world_at h.shard.table h.was.seat) h.did.0
    (returns-clause-first_read g c cache began key found old new knows h quiet) in (
      λ none slot near. exactly.0 (h.did.2 ∙ none) slot (subst (λ n. slot < n) (sym few) near),
      λ never. sym h.did.2 ∙ exactly.1 (λ slot near. never slot (subst (λ n. slot < n) few near)),
    )

pub returns-clause-unread : goal.returns-clause-unread
returns-clause-unread g c = λ cache began key useful got before after old new knows h quiet.
    let few : slots_of h.shard.table ≡ cache.geometry.slots =
    ap (λ (x : Geometry). x.slots) (knows.alike.plans _ h.shard h.shard_is).0 in
    let exactly = misses_quiet (fits_seeded g.T.Tag.fits) h.shard (began _ h.shard h.shard_is)
    old.number (key_to cache.seed key) before after h.was h.is
    (seat_named cache old knows _ h.shard h.was h.shard_is h.seat_was) (calm_of old.number quiet)
    got
    (gets_lasting _ h.shard (key_to cache.seed key) useful got before after h.was h.is h.did) in (
      λ missed slot near. exactly.0 missed slot (subst (λ n. slot < n) (sym few) near),
      λ never. exactly.1 (λ slot near. never slot (subst (λ n. slot < n) few near)),
    )

pub returns-clause-there : goal.returns-clause-there
returns-clause-there g c = λ cache began key found old new knows h quiet k.
    let exactly = returns-clause-misses g c cache began key found old new knows h quiet in
    let shard : k.shard ≡ h.shard = same_Some _ _ (sym k.shard_is ∙ h.shard_is) in
    let was : k.seat ≡ h.was = same_Some _ _ (sym k.seat_is ∙ h.seat_was) in
    found_some found (λ none.
    exactly.0 none k.slot k.within
    (subst (λ s. ShowsKey (world_at s.table h.was.seat) (key_to cache.seed key) k.slot) shard
    (subst (λ (q : ShardSeat _). ShowsKey (world_at k.shard.table q.seat) (key_to cache.seed key)
    k.slot) was k.shows)))
