-- What a client reads by a handle.
use Rattle.std.proofs.Common.{◌≡◌, ℕ, ◌^◌, ◌<◌, Some, IfSome, length, sym, refl, ap, ◌∙◌, arith}
use Rattle.slab.specs.Slab.{get}
use Rattle.hcc_word.proofs.SeedLaws.{unseeded_key-seeded_key}
use Rattle.hcc_rule.specs.declared.key.Key.{Key}
use Rattle.hcc_rule.specs.declared.view.View.{View}
use Rattle.hcc_shard.specs.declared.seat.ShardSeat.{ShardSeat}
use Rattle.hcc_shard.specs.declared.shard.Shard.{Shard}
use Rattle.hcc_shard.specs.Callers.{view_of}
use Rattle.hcc_shard.specs.Counted.{SameCounts}
use Rattle.hcc_shard.specs.Seated.{Rests}
use Rattle.hcc_cache.specs.declared.cache.Cache.{Cache}
use Rattle.hcc_cache.specs.declared.client.Client.{Client}
use Rattle.hcc_cache.specs.declared.handle.Handle.{Handle}
use Rattle.hcc_cache.specs.declared.holding.Hold.{Hold}
use Rattle.hcc_cache.specs.declared.holding.Kept.{Kept}
use Rattle.hcc_cache.specs.declared.holding.Kept.TheVariants.{Pinned, Standing}
use Rattle.hcc_cache.specs.declared.seeded.Seeded.{Seeded}
use Rattle.hcc_cache.specs.Calls.{Reads}
use Rattle.hcc_cache.specs.Clients.{held_of, hold_of, kept_as}
use Rattle.hcc_cache.specs.Keys.{key_from}
use Rattle.hcc_cache.specs.Sharding.{key_of_words, key_to}
use Rattle.hcc_cache.specs.Known.{IsKeptAs, IsSeated, Knows}
use Rattle.hcc_cache.proofs.Clients.AtOneShard.{ChangesAt, IsAt, counts_none, seated_at}
use Rattle.hcc_cache.proofs.Searches.KnownAfterLookup.{IsLeft, keeps_left, knows_left}
use Rattle.hcc_cache.proofs.Clients.Seats.{part_same, seated_by}

-- a seat whose view stays is one of its client still
pub seated_read : {T A : Type 0} (shard : Shard T A) (number used : ℕ) (was is : ShardSeat T)
    → IsSeated shard number used was → Rests shard is → view_of is ≡ view_of was
    → IsSeated shard number used is
seated_read shard number used was is seated rests same =
    let made_same = ap (λ (v : View _). length v.made) same in
    let made = seated.made in
    seated_by shard number used used was is seated rests (ap (λ (v : View _). v.client) same)
    (ap (λ (v : View _). v.others) same)
    (rw (ap (λ (v : View _). v.records) same) seated.records)
    (rw (ap (λ (v : View _). v.work.standalones) same) seated.standalones)
    (omega arith) (rw (ap (λ (v : View _). v.made) same) seated.above) (rw same seated.charged)

module _ {T : Type 0} (cache : Cache T) (old new : Client T) (i : ℕ) (shard : Shard (Seeded T) _)
    (was is : ShardSeat (Seeded T)) (at : IsAt cache old i shard was)
    (change : ChangesAt old new i is) (left : IsLeft old new) (same : view_of is ≡ view_of was)
  where
    records : (view_of is).records ≡ (view_of was).records
    records = ap (λ (v : View (Seeded T)). v.records) same

    standalones : (view_of is).work.standalones ≡ (view_of was).work.standalones
    standalones = ap (λ (v : View (Seeded T)). v.work.standalones) same

    -- the client that read is known still
    pub knows_read : Rests shard is → Knows cache new
    knows_read rests =
        knows_left cache old new i shard was is at change left records standalones
        (seated_read shard old.number old.used was is
        (seated_at cache old new i shard was is at) rests same)
        (ap (λ (v : View (Seeded T)). v.made) same)

    -- and knows and holds what it did
    pub reads_at : SameCounts was is → Reads cache old new
    reads_at counted = record {
      rests = record {
        all = λ s. rw (change.seats)
            (part_same (λ v. v) old.seats.items i s was is at.seat_is same);
        self = (change.number, change.most, change.capacities);
        counts = counts_none cache old new i shard was is at change counted;
      };
      keeps = keeps_left cache old new i shard was is at change left records standalones;
    }

-- a key of words is given back by its seeded key
pub key_back : (seed : ℕ) (key : Key) → key.w0 < 2 ^ 64 → key.w1 < 2 ^ 64
    → key_from seed (key_to seed key) ≡ key
key_back seed key first second =
    ap key_of_words (unseeded_key-seeded_key seed key.w0 key.w1 first second)

-- what a handle stands for has the key that is kept of it
pub key_kept : {T : Type 0} (cache : Cache T) (client : Client T) (handle : Handle) (hold : Hold)
    → Knows cache client → hold_of client handle ≡ Some hold
    → get client.handles handle.index ≡ Some hold → hold.key.w0 < 2 ^ 64 → hold.key.w1 < 2 ^ 64
    → IfSome (held_of cache client handle) (λ h. hold.key ≡ h.insertion.key)
key_kept {T} cache client handle hold knows held there first second =
    rw held (by hold.kept (knows.holds.each handle.index hold there).0.stands)
  where
    by : (k : Kept) → IsKeptAs cache.seed client.seats.items client.alone hold k
        → IfSome (kept_as cache.seed client.seats.items client.alone hold k)
        (λ h. hold.key ≡ h.insertion.key)
    by (Pinned slot counting) pin =
        let back : key_from cache.seed (key_to cache.seed hold.key) ≡ hold.key =
        key_back cache.seed hold.key first second in
        rw (pin.there) (sym (ap (key_from cache.seed) pin.key ∙ back))
    by (Standing index) stand = rw (stand.there) refl

-- two readings are one
pub reads_twice : {T : Type 0} (cache : Cache T) (a b c : Client T)
    → Reads cache a b → Reads cache b c → Reads cache a c
reads_twice cache a b c first next = record {
  rests = record {
    all = λ s. next.rests.all s ∙ first.rests.all s;
    self = (
      next.rests.self.0 ∙ first.rests.self.0,
      next.rests.self.1 ∙ first.rests.self.1,
      next.rests.self.2 ∙ first.rests.self.2,
    );
    counts = λ s. next.rests.counts s ∙ first.rests.counts s;
  };
  keeps = record {
    all = λ h. next.keeps.all h ∙ first.keeps.all h;
    count = next.keeps.count ∙ first.keeps.count;
    serials = (
      next.keeps.serials.0 ∙ first.keeps.serials.0,
      next.keeps.serials.1 ∙ first.keeps.serials.1,
    );
  };
}
