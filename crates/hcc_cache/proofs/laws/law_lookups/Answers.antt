use Rattle.std.proofs.Common.{◌≡◌, ◌↔◌, ℕ, ◌<◌, Option, None, Some, IsNone, IsSome, List, refl, ap, subst, sym, ◌∙◌}
use Rattle.std.proofs.lemmas.Option.{same_Some}
use Rattle.hcc_rule.specs.declared.geometry.Geometry.{Geometry}
use Rattle.hcc_rule.specs.declared.key.Key.{Key}
use Rattle.hcc_rule.specs.Callers.{clients_of, slots_of, world_at}
use Rattle.hcc_rule.specs.Probes.{probe_slot}
use Rattle.hcc_rule.proofs.Probes.ProbeLaws.{probe_inside, some_slots}
use Rattle.hcc_table.specs.declared.optimistic.Got.{Got}
use Rattle.hcc_table.specs.declared.optimistic.Got.TheVariants.{Hit, Miss, Short}
use Rattle.hcc_table.specs.Standing.{ShowsKey}
use Rattle.hcc_table.proofs.Lasting.{lacks_alone, shows_alone}
use Rattle.hcc_shard.specs.declared.seat.ShardSeat.{ShardSeat}
use Rattle.hcc_shard.specs.declared.shard.Shard.{Shard}
use Rattle.hcc_shard.specs.Gets.{GotLasting, GotShown}
use Rattle.hcc_shard.proofs.Gettings.{gets_lasting}
use Rattle.hcc_cache.specs.Sharding.{key_to}
use Rattle.hcc_cache.proofs.Clients.ShownSince.{missed_taken, none_taken, read_taken}
use Rattle.hcc_cache.proofs.Searches.FoundAsMade.{handle_made}
use Rattle.hcc_cache.proofs.Within.Taken.{hidden_by_other}
use Rattle.hcc_cache.proofs.laws.law_lookups.Goals as goal

-- With one client a read by a key misses exactly where no slot shows the key when it begins.
module _ {T A : Type 0} (shard : Shard T A) (key : Key) (alone : clients_of shard.table ≡ 1)
    (before after : List ℕ) (was is : ShardSeat T) where
  abbrev Lacks : Type 0
  Lacks =
      (slot : ℕ) → slot < slots_of shard.table
      → ¬ ShowsKey (world_at shard.table was.seat) key slot

  shown_there : (got : Got) → GotShown shard key got before after was is → ¬ Lacks
  shown_there got r lacks =
      lacks (probe_slot (slots_of shard.table) key r.probe)
      (probe_inside (slots_of shard.table) key r.probe
      (some_slots (slots_of shard.table) shard.table.limits.power))
      (shows_alone shard.table key (probe_slot (slots_of shard.table) key r.probe) was.seat r.last
      alone r.entry r.asked r.shown)

  misses_there : (got : Got) → GotLasting shard key got before after was is
      → (got ≡ Miss) ↔ Lacks
  misses_there Miss h = (
    λ same slot near. lacks_alone shard.table key slot was.seat is.seat alone (h slot near),
    λ lacks. refl,
  )
  misses_there (Hit count) h =
      (λ same. cc, λ lacks. absurd (shown_there (Hit count) h lacks))
  misses_there (Short count) h =
      (λ same. cc, λ lacks. absurd (shown_there (Short count) h lacks))

found_some : {A : Type 0} (o : Option A) → (IsNone o → ⊥) → IsSome o
found_some None never = absurd (never refl)
found_some (Some x) never = refl

pub returns-clause-lasting : goal.returns-clause-lasting
returns-clause-lasting g c = λ cache key found old new h.
    c.law_lasting.ensures h.shard.table (key_to cache.seed key) old.used h.shard.marks h.did.0
    h.was.effort h.is.effort h.was.seat h.is.seat h.did.2

pub returns-clause-gets : goal.returns-clause-gets
returns-clause-gets g c = λ cache key useful got before after old new h.
    gets_lasting _ h.shard (key_to cache.seed key) useful got before after h.was h.is h.did

pub returns-clause-first : goal.returns-clause-first
returns-clause-first g c = λ config tag cache is_of one key found old new h.
    let made = is_of.shards _ h.shard h.shard_is in
    let alone : clients_of h.shard.table ≡ 1 =
    ap (λ (x : Geometry). x.clients) made.geometry ∙ one in
    c.law_found_alone.ensures.first h.shard.table (key_to cache.seed key) old.used h.shard.marks
    h.did.0 h.was.effort h.is.effort h.was.seat h.is.seat alone h.did.2

pub returns-clause-misses : goal.returns-clause-misses
returns-clause-misses g c = λ config tag cache is_of one key found old new h.
    let made = is_of.shards _ h.shard h.shard_is in
    let alone : clients_of h.shard.table ≡ 1 =
    ap (λ (x : Geometry). x.clients) made.geometry ∙ one in
    let few : slots_of h.shard.table ≡ config.slots =
    ap (λ (x : Geometry). x.slots) made.geometry in
    let exactly = c.law_found_alone.ensures.misses h.shard.table (key_to cache.seed key) old.used
    h.shard.marks h.did.0 h.was.effort h.is.effort h.was.seat h.is.seat alone h.did.2 in (
      λ none slot near. exactly.0 (h.did.1 ∙ none) slot (subst (λ n. slot < n) (sym few) near),
      λ never. sym h.did.1 ∙ exactly.1 (λ slot near. never slot (subst (λ n. slot < n) few near)),
    )

pub returns-clause-unread : goal.returns-clause-unread
returns-clause-unread g c = λ config tag cache is_of one key useful got before after old
    new h.
    let made = is_of.shards _ h.shard h.shard_is in
    let alone : clients_of h.shard.table ≡ 1 =
    ap (λ (x : Geometry). x.clients) made.geometry ∙ one in
    let few : slots_of h.shard.table ≡ config.slots =
    ap (λ (x : Geometry). x.slots) made.geometry in
    let exactly =
    misses_there h.shard (key_to cache.seed key) alone before after h.was h.is got
    (gets_lasting _ h.shard (key_to cache.seed key) useful got before after h.was h.is h.did) in (
      λ missed slot near. exactly.0 missed slot (subst (λ n. slot < n) (sym few) near),
      λ never. exactly.1 (λ slot near. never slot (subst (λ n. slot < n) few near)),
    )

pub returns-clause-there : goal.returns-clause-there
returns-clause-there g c = λ config tag cache is_of one key found old new h k.
    let exactly = returns-clause-misses g c config tag cache is_of one key found old new h
    in
    let shard : k.shard ≡ h.shard = same_Some _ _ (sym k.shard_is ∙ h.shard_is) in
    let was : k.seat ≡ h.was = same_Some _ _ (sym k.seat_is ∙ h.seat_was) in
    let slots : cache.geometry.slots ≡ config.slots =
    ap (λ (x : Geometry). x.slots) is_of.geometry in
    found_some found (λ none.
    exactly.0 none k.slot (subst (λ n. k.slot < n) slots k.within)
    (subst (λ s. ShowsKey (world_at s.table h.was.seat) (key_to cache.seed key) k.slot) shard
    (subst (λ (q : ShardSeat _). ShowsKey (world_at k.shard.table q.seat) (key_to cache.seed key)
    k.slot) was k.shows)))

pub returns-clause-made : goal.returns-clause-made
returns-clause-made g c = λ cache key handle old new h.
    handle_made h.shard (key_to cache.seed key) old.used h.did.0 h.was h.is h.did.1
    (c.law_lasting.ensures h.shard.table (key_to cache.seed key) old.used h.shard.marks h.did.0
    h.was.effort h.is.effort h.was.seat h.is.seat h.did.2)

pub returns-clause-taken : goal.returns-clause-taken
returns-clause-taken g c = λ cache began key old new knows h k.
    none_taken g.T.Tag.fits cache began key old k new knows h.shard h.was h.is h.shard_is
    h.seat_was h.seat_is old.used h.did.0 h.did.1
    (c.law_lasting.ensures h.shard.table (key_to cache.seed key) old.used h.shard.marks h.did.0
    h.was.effort h.is.effort h.was.seat h.is.seat h.did.2)

pub returns-clause-untold : goal.returns-clause-untold
returns-clause-untold g c = λ cache began key useful before after old new knows h k.
    missed_taken g.T.Tag.fits cache began key old k new knows h.shard h.was h.is h.shard_is
    h.seat_was h.seat_is
    (gets_lasting _ h.shard (key_to cache.seed key) useful Miss before after h.was h.is h.did)

pub returns-clause-lasting_read : goal.returns-clause-lasting_read
returns-clause-lasting_read g c = λ cache key found old new h.
    c.law_lasting.ensures h.shard.table (key_to cache.seed key) old.used h.shard.marks h.did.0
    h.was.effort h.did.1.effort h.was.seat h.did.1.seat h.did.3

pub returns-clause-taken_read : goal.returns-clause-taken_read
returns-clause-taken_read g c = λ cache began key old new knows h k.
    read_taken g.T.Tag.fits cache began key old k new knows h.shard h.was h.is h.shard_is
    h.seat_was h.seat_is old.used h.did.0 h.did.1 h.did.2
    (returns-clause-lasting_read g c cache key None old new h) h.did.4

pub returns-clause-pinned_read : goal.returns-clause-pinned_read
returns-clause-pinned_read g c = λ cache began key old new knows h k goes held.
    hidden_by_other g.T.Tag.fits cache began key old new k
    (returns-clause-taken_read g c cache began key old new knows h k) goes held

pub returns-clause-pinned : goal.returns-clause-pinned
returns-clause-pinned g c = λ cache began key old new knows h k goes held.
    hidden_by_other g.T.Tag.fits cache began key old new k
    (returns-clause-taken g c cache began key old new knows h k) goes held

pub returns-clause-pinned_unread : goal.returns-clause-pinned_unread
returns-clause-pinned_unread g c = λ cache began key useful before after old new knows h k goes
    held.
    hidden_by_other g.T.Tag.fits cache began key old new k
    (returns-clause-untold g c cache began key useful before after old new knows h k) goes held
