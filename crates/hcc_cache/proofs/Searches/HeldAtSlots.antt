-- What a walk holds at a slot is what a look-up of its key finds.
use Rattle.std.proofs.Common.{◌≡◌, ℕ, ◌≤◌, List, [], ◌∷◌, ◌++◌, cond, None, Some, length, refl, ap, subst, ◌∙◌, append_assoc, arith}
use Rattle.std.proofs.lemmas.Bool.{eq-eqb}
use Rattle.hcc_core.specs.Sums.{when}
use Rattle.hcc_core.proofs.SumLemmas.{total-append}
use Rattle.hcc_rule.specs.declared.key.Key.{Key}
use Rattle.hcc_rule.specs.declared.layout.TheConstants.{KEY1}
use Rattle.hcc_rule.specs.declared.view.Record.{Record}
use Rattle.hcc_rule.specs.declared.view.View.{View}
use Rattle.hcc_rule.specs.Records.{record_in}
use Rattle.hcc_rule.specs.ToldOwners.{after_read, with_met}
use Rattle.hcc_rule.specs.Views.{is_called}
use Rattle.hcc_rule.specs.Words.{key_of}
use Rattle.hcc_table.specs.declared.pins.Pin.{Pin}
use Rattle.hcc_table.specs.Pins.{IsOf, IsPinned}
use Rattle.hcc_table.specs.Searched.{IsFound, IsFoundOn, Sought, is_key, times_met}
use Rattle.hcc_table.proofs.Keepings.{found_of}
use Rattle.hcc_table.proofs.Reaches.{find_last}
use Rattle.hcc_table.proofs.Searches.{read_there, searched_then}
use Rattle.hcc_shard.specs.declared.seat.ShardSeat.{ShardSeat}
use Rattle.hcc_shard.specs.declared.seat.Stats.{Stats}
use Rattle.hcc_shard.specs.declared.shard.Shard.{Shard}
use Rattle.hcc_shard.specs.Callers.{geometry_of, view_of}
use Rattle.hcc_shard.specs.Counted.{SameCounts, SameEvictions}
use Rattle.hcc_shard.specs.Kept.{IsPassed}
use Rattle.std.specs.declared.alloc.Global.{Global}
use Rattle.hcc_cache.specs.declared.cache.Cache.{Cache}
use Rattle.hcc_cache.specs.declared.client.Client.{Client}
use Rattle.hcc_cache.specs.declared.seeded.Seeded.{Seeded}
use Rattle.hcc_cache.specs.Keys.{FitsIn, fits_seeded, tag_at}
use Rattle.hcc_cache.specs.Sharding.{shard_of}
use Rattle.hcc_cache.proofs.Clients.AtOneShard.{IsAt, seated_at}
use Rattle.hcc_cache.proofs.Clients.HoldsTheSame.{Same}

-- a key is met once where it stands behind others
met_once : (key : Key) (before : List Key) → 1 ≤ times_met key (before ++ key ∷ [])
met_once key before =
    let all = total-append (λ k. when (is_key key k) 1) before (key ∷ []) in
    let one : when (is_key key key) 1 ≡ 1 =
    rw (eq-eqb key.w0 key.w0 refl, eq-eqb key.w1 key.w1 refl) refl in
    omega arith

module _ {T : Type 0} where
  -- A walk that passed a slot leaves what the client holds and made.
  pub same_passed : {slot : ℕ} (v w : View T) → IsPassed slot v w → Same v w
  same_passed v w p = record {
    client = ap (λ (z : View T). z.client) p.same;
    others = ap (λ (z : View T). z.others) p.same;
    records = ap (λ (z : View T). z.records) p.same;
    standalones = ap (λ (z : View T). z.work.standalones) p.same;
    made = ap (λ (z : View T). z.made) p.same;
  }

  module _ (fits : T → Key → List ℕ → Type 0) (room slot name : ℕ) (v m : View T) (r : Record)
      (fresh : record_in name v.records ≡ None) (found : IsFoundOn fits room slot name v m r) where
    -- it is on record,
    pub there : record_in name m.records ≡ Some r
    there =
        ap (record_in name) found.records
        ∙ find_last (is_called name) v.records r fresh (eq-eqb r.name name found.called)

    pub pinned_there : (pin : Pin) → pin.name ≡ name → IsOf pin r → IsPinned pin m
    pinned_there pin called of = rw (called, there) of

    -- It is found still once more was searched.
    pub found_on : (w : View T) → Sought m w → IsFoundOn fits room slot name v w r
    found_on w sought = record {
      searched = searched_then v m w found.searched sought.searched;
      records = sought.records ∙ found.records;
      on = found.on;
      called = found.called;
      single = found.single;
      shown = found.shown;
      right = found.right;
      short = found.short;
      bytes = found.bytes;
      small = found.small;
      alive = found.alive;
      one = found.one;
    }

    module _ (w : View T) (read : w ≡ after_read name KEY1 m) where
      sought : Sought m w
      sought = read_there name KEY1 m w read

      -- and stays so while its key is read
      pub there_still : record_in name w.records ≡ Some r
      there_still = ap (record_in name) sought.records ∙ there

      pub pinned_still : (pin : Pin) → pin.name ≡ name → IsOf pin r → IsPinned pin w
      pinned_still pin called of = rw (called, there_still) of

      -- nothing is freed then
      pub gone_still : w.gone ≡ m.gone
      gone_still = ap (λ (z : View T). z.gone) sought.searched.same

      met_last : (more : List Key) × (w.met ≡ v.met ++ more)
          × (1 ≤ times_met (key_of r.entry) more)
      met_last =
          let before = found.searched.met in (
            before.0 ++ key_of r.entry ∷ [],
            ap (λ (z : View T). z.met) read
                ∙ (ap (λ o. with_met o m.met) there
                ∙ (ap (λ s. cond s (m.met ++ key_of r.entry ∷ []) m.met) found.shown
                ∙ (ap (λ keys. keys ++ key_of r.entry ∷ []) before.1
                ∙ append_assoc v.met before.0 (key_of r.entry ∷ [])))),
            met_once (key_of r.entry) before.0,
          )

      found_still : IsFoundOn fits room slot name v w r
      found_still = found_on w sought

      -- It is what a look-up finds.
      pub found_read : (key : Key) → key_of r.entry ≡ key
          → IsFound fits room slot name key v w r
      found_read key is =
          found_of found_still is
          (subst (λ k. (more : List Key) × (w.met ≡ v.met ++ more) × (1 ≤ times_met k more)) is
          met_last)

-- Where no eviction was counted, none is by loads behind it.
pub counts_still : {T : Type 0} (a b c : ShardSeat T) → SameEvictions a b → SameCounts b c
    → SameEvictions a c
counts_still a b c same none = (
  ap (λ (s : Stats). record {
    evicted = s.evicted;
    evicted_hit = s.evicted_hit;
    freed = s.freed;
    turns = s.turns;
  }) none ∙ same.0,
  ap (λ (s : Stats). s.boosts) none ∙ same.1,
)

-- What is found at a shard has a key of it.
pub found_home : {T : Type 0} (cache : Cache T) (old : Client T) (i : ℕ)
    (shard : Shard (Seeded T) Global) (was : ShardSeat (Seeded T)) → IsAt cache old i shard was
    → (fits : T → Key → List ℕ → Type 0) (slot name : ℕ) (w : View (Seeded T)) (r : Record)
    → IsFoundOn (fits_seeded fits) (geometry_of shard).room slot name (view_of was) w r
    → shard_of (key_of r.entry) (length cache.shards.items) ≡ i
found_home cache old i shard was at fits slot name w r found =
    let seated = seated_at cache old old i shard was was at in
    let tag : (view_of was).tag ≡ Some (tag_at cache i) =
    seated.rests.at.tagged ∙ ap Some (at.knows.alike.plans i shard at.shard_is).3 in
    let fitting : FitsIn fits (tag_at cache i) (key_of r.entry) r.entry.value =
    rw tag at found.right in
    fitting.home
