-- What a look-up found its client knows to be shown, and holds there, until another client takes it
-- away.
use Rattle.std.proofs.Common.{◌≡◌, ◌⊎◌, ℕ, ◌<◌, ◌≤◌, Bool, true, List, [], ◌∷◌, Option, Some, None, inl, inr, is_some, slice_get, sym, ap, ◌∙◌, subst}
use Rattle.std.specs.Prelude.{IsSomeAnd}
use Rattle.std.specs.declared.alloc.Global.{Global}
use Rattle.hcc_core.specs.declared.slot.Entry.{Entry}
use Rattle.hcc_core.specs.Runs.{held_at}
use Rattle.hcc_rule.specs.declared.geometry.Geometry.{Geometry}
use Rattle.hcc_rule.specs.declared.key.Key.{Key}
use Rattle.hcc_rule.specs.declared.table.RuleTable.{RuleTable}
use Rattle.hcc_rule.specs.declared.view.Done.{Done}
use Rattle.hcc_rule.specs.Acts.{RecordsStand}
use Rattle.hcc_rule.specs.Callers.{plan_of, slots_of, world_at}
use Rattle.hcc_rule.specs.Records.{record_in}
use Rattle.hcc_rule.specs.Seats.{SeatOf, view}
use Rattle.hcc_rule.specs.Views.{names}
use Rattle.hcc_rule.specs.Words.{key_of}
use Rattle.hcc_rule.proofs.Parts.ViewParts.{names_own}
use Rattle.hcc_rule.proofs.Probes.ProbeLaws.{probe_inside, some_slots}
use Rattle.hcc_rule.proofs.Seats.StaysShown.{knows_still, others_took}
use Rattle.hcc_table.specs.declared.efforts.Effort.{Effort}
use Rattle.hcc_table.specs.declared.pins.Pin.{Pin}
use Rattle.hcc_table.specs.Probed.{Searches}
use Rattle.hcc_table.specs.Seeking.{Does, Seeks}
use Rattle.hcc_table.specs.Standing.{FindsLasting, IsMomentOf, ShowsOnce}
use Rattle.hcc_table.proofs.Moments.{some_and}
use Rattle.hcc_table.proofs.Seeking.{seeks_one, seeks_then}
use Rattle.hcc_table.proofs.Still.{seeks_still}
use Rattle.hcc_shard.specs.declared.seat.ShardSeat.{ShardSeat}
use Rattle.hcc_shard.specs.declared.shard.Shard.{Shard}
use Rattle.hcc_shard.specs.Callers.{view_of}
use Rattle.hcc_cache.specs.declared.cache.Cache.{Cache}
use Rattle.hcc_cache.specs.declared.client.Client.{Client}
use Rattle.hcc_cache.specs.declared.seeded.Seeded.{Seeded}
use Rattle.hcc_cache.specs.Calls.{shard_in}
use Rattle.hcc_cache.specs.Keys.{fits_seeded}
use Rattle.hcc_cache.specs.Known.{Knows}
use Rattle.hcc_cache.specs.Moments.{KnowsHeld}
use Rattle.hcc_cache.specs.Sharding.{key_to}
use Rattle.hcc_cache.specs.Since.{IsLostBehind}
use Rattle.hcc_cache.specs.Stays.{BeganEachWithin}
use Rattle.hcc_cache.proofs.Clients.ShownSince.{moment_on, own_takes}

module _ {T A : Type 0} (table : RuleTable T A) where
  -- what was shown at a moment was so at one of a call that read on behind it
  shows_on : (slot : ℕ) (entry : Entry) (a b c : SeatOf T) → ShowsOnce table slot entry a b
      → Seeks table b c → ShowsOnce table slot entry a c
  shows_on slot entry a b c once reads =
      (once.0, moment_on table once.0 a b c once.1 reads, once.2)

  -- what a client holds stands in the world behind each of its events
  stand_on : (own : List Done) (a b : SeatOf T) → Does table own a b
      → RecordsStand (plan_of table) a.me.0 → RecordsStand (plan_of table) b.me.0
  stand_on [] a b same stands =
      subst (λ (s : SeatOf T). RecordsStand (plan_of table) s.me.0) (sym same) stands
  stand_on (done ∷ rest) a b does stands = stand_on rest does.0 b does.2 does.1.0.stand

module _ {T : Type 0} (fits : T → Key → List ℕ → Type 0) (cache : Cache T)
    (began : BeganEachWithin cache fits) (key : Key) (old new : Client T) (knows : Knows cache old)
    (shard : Shard (Seeded T) Global) (was is : ShardSeat (Seeded T))
    (shard_is : slice_get cache.shards.items (shard_in cache key) ≡ Some shard)
    (seat_was : slice_get old.seats.items (shard_in cache key) ≡ Some was)
    (seat_is : slice_get new.seats.items (shard_in cache key) ≡ Some is) where
  -- the seat at a moment of the call names the client
  named : (moment : SeatOf (Seeded T)) → IsMomentOf shard.table moment was.seat is.seat
      → 1 ≤ names old.number (view moment)
  named moment m =
      let seated = knows.seated.each (shard_in cache key) shard was shard_is seat_was in
      let own = subst (λ n. 1 ≤ names n (view was.seat)) (seated.rests.own ∙ seated.number_is)
      (names_own (view was.seat) (ap is_some seated.rests.at.tagged)) in
      let led = seeks_still shard.table was.seat moment
      (seeks_then shard.table was.seat m.before moment m.began
      (seeks_one shard.table m.done m.before moment m.step m.seeking)) in
      subst (λ n. 1 ≤ n) (sym (led.named old.number)) own

  -- What was shown once, and is held at the end, the client knows to be shown, or another took it
  -- away behind that.
  held_behind : (name slot : ℕ) → slot < slots_of shard.table → (entry held : Entry)
      → key_of entry ≡ key_to cache.seed key
      → ShowsOnce shard.table slot entry was.seat is.seat
      → held_at (world_at shard.table is.seat) (view_of is).client name slot ≡ Some held
      → KnowsHeld cache key name new ⊎ IsLostBehind cache key old new
  held_behind name slot near entry held asked once holds =
      let moment = once.0 in
      let on = seeks_still shard.table moment is.seat once.1.rest in
      elim (knows_still (fits_seeded fits) shard.table (began (shard_in cache key) shard shard_is)
      moment is.seat on.more on.goes_on slot entry once.2) [
        | inl left ↦ inl (record {
          shown = record {
            shard = shard;
            seat = is;
            shard_is = shard_is;
            seat_is = seat_is;
            slot = slot;
            within = subst (λ n. slot < n) sized near;
            shows = subst (λ o. IsSomeAnd o (λ e. key_of e ≡ key_to cache.seed key)) (sym left)
                asked;
          };
          entry = held;
          held = holds;
        })
        | inr took ↦ inr (record {
          shard = shard;
          was = was;
          is = is;
          shard_is = shard_is;
          seat_was = seat_was;
          seat_is = seat_is;
          did = record {
            slot = slot;
            entry = entry;
            asked = asked;
            moment = moment;
            at = once.1;
            shown = once.2;
            more = on.more;
            goes_on = on.goes_on;
            taken = took;
            other = others_took old.number slot entry (world_at shard.table moment) on.more
                (own_takes old.number on.more (on.own old.number (named moment once.1))) took;
          };
        })
      ]
    where
      sized : slots_of shard.table ≡ cache.geometry.slots
      sized =
          ap (λ (x : Geometry). x.slots) (knows.alike.plans (shard_in cache key) shard shard_is).0

  -- So it is of what a search found, which may have read on then.
  pub found_held : (name : ℕ) (pin : Option Pin) (looked : ShardSeat (Seeded T))
      → is_some pin ≡ true → (marks : Bool) (before after : Effort)
      → Searches (fits_seeded fits) shard.table (key_to cache.seed key) name marks pin before after
      was.seat looked.seat
      → FindsLasting shard.table (key_to cache.seed key) name pin was.seat looked.seat
      → Seeks shard.table looked.seat is.seat → view_of is ≡ view_of looked
      → KnowsHeld cache key name new ⊎ IsLostBehind cache key old new
  found_held name None looked some marks before after searches found reads same = cc
  found_held name (Some pin) looked some marks before after searches found reads same =
      let finds = searches.1 in
      let slot : ℕ = pin.slot in
      let shown = some_and (record_in name (view looked.seat).records) _ found.2 in
      let once = shown.2.1 in
      let kept = some_and (record_in name (view finds.catches.mid).records) _ finds.catches.same in
      let there : record_in name (view_of is).records ≡ Some kept.0 =
      ap (λ v. record_in name v.records) same
      ∙ (ap (record_in name) (finds.kept.records ∙ finds.catches.kept.records) ∙ kept.1) in
      let stands =
      stand_on shard.table reads.own looked.seat is.seat reads.does
      (stand_on shard.table once.1.rest.own once.0 looked.seat once.1.rest.does
      once.1.step.0.stand) in
      let held : held_at (world_at shard.table is.seat) (view_of is).client name slot
      ≡ Some kept.0.entry =
      subst (λ s. held_at (world_at shard.table is.seat) (view_of is).client name s
      ≡ Some kept.0.entry) kept.2.0 (stands name kept.0 there) in
      let near = probe_inside (slots_of shard.table) (key_to cache.seed key) found.0
      (some_slots (slots_of shard.table) shard.table.limits.power) in
      held_behind name slot (subst (λ s. s < slots_of shard.table) (sym found.1) near) shown.0.entry
      kept.0.entry shown.2.0
      (shows_on shard.table slot shown.0.entry was.seat looked.seat is.seat once reads) held
