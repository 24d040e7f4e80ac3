-- What a client holds of a key that it looked for in vain, or erased.
use Rattle.std.proofs.Common.{◌≡◌, ℕ, ◌+◌, ◌%◌, ◌^◌, true, Option, Some, None, length, sym, refl, ap, ◌∙◌, arith}
use Rattle.slab.specs.Slab.{get}
use Rattle.hcc_core.specs.declared.slot.Entry.{Entry}
use Rattle.hcc_core.specs.Lawful.{is_in}
use Rattle.hcc_word.specs.Seeding.{mixture}
use Rattle.hcc_word.proofs.SeedLaws.{seeded_key-unseeded_key}
use Rattle.hcc_rule.specs.declared.key.Key.{Key}
use Rattle.hcc_rule.specs.declared.view.Record.{Record}
use Rattle.hcc_rule.specs.declared.view.View.{View}
use Rattle.hcc_rule.specs.Views.{is_called}
use Rattle.hcc_rule.specs.Records.{record_in}
use Rattle.hcc_rule.specs.Words.{key_of}
use Rattle.hcc_rule.proofs.Basics.Findings.{find_each}
use Rattle.hcc_table.specs.Searched.{AllDead}
use Rattle.hcc_cache.specs.declared.cache.Cache.{Cache}
use Rattle.hcc_cache.specs.declared.client.Client.{Client}
use Rattle.hcc_cache.specs.declared.holding.Hold.{Hold}
use Rattle.hcc_cache.specs.declared.holding.Kept.{Kept}
use Rattle.hcc_cache.specs.declared.holding.Kept.TheVariants.{Pinned, Standing}
use Rattle.hcc_cache.specs.declared.seeded.Seeded.{Seeded}
use Rattle.hcc_cache.specs.Calls.{AllHeldDead, Works, shard_in}
use Rattle.hcc_cache.specs.Clients.{Held, held_alone, held_as, held_entry, hold_of, kept_as, records_in, view_at}
use Rattle.hcc_cache.specs.Keys.{key_from}
use Rattle.hcc_cache.specs.Sharding.{key_of_words, key_to, shard_of}
use Rattle.hcc_cache.specs.Known.{IsKept, IsKeptAs, Knows}
use Rattle.hcc_cache.proofs.Handles.SameHolds.{hold_there}

-- a seeded key is the seeded one of the caller's key that it gives
pub seeded_back : (seed : ℕ) (key : Key)
    → key_to seed (key_from seed (key_to seed key)) ≡ key_to seed key
seeded_back seed key =
    let h1 : ℕ = (key.w1 + mixture seed key.w0) % 2 ^ 64 in
    let h0 : ℕ = (key.w0 + mixture seed h1) % 2 ^ 64 in
    ap key_of_words (seeded_key-unseeded_key seed h0 h1 (omega arith) (omega arith))

module _ {T : Type 0} (cache : Cache T) (old new : Client T) (key : Key) (v w : View (Seeded T))
  where
    -- Where all records of the key at its shard are dead, so is what each handle stands for.
    pub all_held_dead : Knows cache old → Works (shard_in cache key) old new v w
        → AllDead (key_to cache.seed key) v w → AllHeldDead cache key old new
    all_held_dead knows works dead h held e stands asked on = by (hold_of old h) refl stands
      where
        IsDead : Type 0
        IsDead = is_in e.stamp (view_at (shard_in cache key) new).work.dead ≡ true

        kept_dead : (hold : Hold) → IsKept cache.seed old.seats.items old.alone hold → (k : Kept)
            → IsKeptAs cache.seed old.seats.items old.alone hold k
            → kept_as cache.seed old.seats.items old.alone hold k ≡ Some held → IsDead
        kept_dead hold kept (Standing index) stand told =
            let now : Some (held_alone hold.key stand.entry) ≡ Some held =
            rw (stand.there) at told in
            let is : held_alone hold.key stand.entry ≡ held = cc in
            let none : None ≡ Some e = ap (λ (x : Held). x.entry) is ∙ on in
            absurd (let no : ⊥ = cc in no)
        kept_dead hold kept (Pinned slot counting) pin told =
            let now : Some (held_entry cache.seed pin.handled.entry) ≡ Some held =
            rw (pin.there) at told in
            let is : held_entry cache.seed pin.handled.entry ≡ held = cc in
            let entry : Some pin.handled.entry ≡ Some e = ap (λ (x : Held). x.entry) is ∙ on in
            let it : pin.handled.entry ≡ e = cc in
            let caller : key_from cache.seed (key_of pin.handled.entry) ≡ key =
            ap (λ (x : Held). x.insertion.key) is ∙ asked in
            let same : key_to cache.seed key ≡ key_to cache.seed hold.key =
            ap (key_to cache.seed) (sym caller ∙ ap (key_from cache.seed) pin.key)
            ∙ seeded_back cache.seed hold.key in
            let shards : ℕ = length cache.shards.items in
            let here : hold.shard ≡ shard_in cache key =
            kept.home ∙ (ap (shard_of (key_to cache.seed hold.key)) knows.seated.count
            ∙ ap (λ k. shard_of k shards) (sym same)) in
            let found : record_in hold.serial v.records ≡ Some pin.handled =
            ap (λ (x : View (Seeded T)). record_in hold.serial x.records) (sym works.before)
            ∙ (ap (λ s. record_in hold.serial (records_in old.seats.items s)) (sym here)
            ∙ pin.there) in
            let gone : is_in pin.handled.entry.stamp w.work.dead ≡ true =
            find_each (is_called hold.serial)
            (λ (r : Record). key_of r.entry ≡ key_to cache.seed key
            → is_in r.entry.stamp w.work.dead ≡ true) v.records pin.handled dead found
            (pin.key ∙ sym same) in
            ap (λ (x : View (Seeded T)). is_in e.stamp x.work.dead) works.after
            ∙ (ap (λ (x : Entry). is_in x.stamp w.work.dead) (sym it) ∙ gone)

        by : (o : Option Hold) → hold_of old h ≡ o
            → held_as cache.seed old.seats.items old.alone o ≡ Some held → IsDead
        by None is told = absurd (let no : ⊥ = cc in no)
        by (Some hold) is told =
            let there = hold_there old.number h (get old.handles h.index) hold is in
            let kept = (knows.holds.each h.index hold there).0 in
            kept_dead hold kept hold.kept kept.stands told
