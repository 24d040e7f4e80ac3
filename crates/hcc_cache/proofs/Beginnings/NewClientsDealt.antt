-- New clients, as each is dealt a seat at each shard.
use Rattle.std.proofs.Common.{◌≡◌, ◌≢◌, ◌⊎◌, inl, inr, ℕ, zero, suc, ◌+◌, ◌≤◌, List, [], ◌∷◌, ◌++◌, Some, None, get_or, length, slice_get, slice_set, sym, refl, ap, ◌∙◌, length-set, length-append, arith}
use Rattle.std.proofs.lemmas.Bool.{cases_eq}
use Rattle.slab.specs.Slab.{Slab, get}
use Rattle.hcc_core.specs.Sums.{total}
use Rattle.hcc_core.proofs.ListLemmas.{read_here, read_other}
use Rattle.hcc_rule.specs.declared.view.View.{View}
use Rattle.hcc_rule.proofs.Basics.Lists.{there, within}
use Rattle.hcc_shard.specs.declared.seat.ShardSeat.{ShardSeat}
use Rattle.hcc_shard.specs.declared.shard.Shard.{Shard}
use Rattle.hcc_shard.specs.Callers.{view_of}
use Rattle.hcc_shard.specs.Seated.{AreNew, IsNew}
use Rattle.hcc_cache.specs.declared.cache.Cache.{Cache}
use Rattle.hcc_cache.specs.declared.client.Client.{Client}
use Rattle.hcc_cache.specs.declared.config.Config.{Config}
use Rattle.hcc_cache.specs.declared.seeded.Seeded.{Seeded}
use Rattle.hcc_cache.specs.Configs.{IsAllowed}
use Rattle.hcc_cache.specs.Ended.{KnowNothing}
use Rattle.hcc_cache.specs.Known.{AreAlike, AreHeld, IsSeated, Knows, records_at, standalones_at}
use Rattle.hcc_cache.specs.Opened.{AreDealt, AreGiven, AreUnseated, Gains, IsCacheOf, IsDealt, IsOpened, IsUnused}
use Rattle.hcc_cache.specs.Reopened.{image_of}
use Rattle.hcc_cache.proofs.Beginnings.KnowingNothing.{none_shown}

-- a list with one more member has that one, or what was there
pub get_push : {X : Type 0} (xs : List X) (x y : X) (k : ℕ) → slice_get (xs ++ x ∷ []) k ≡ Some y
    → (slice_get xs k ≡ Some y) ⊎ ((k ≡ length xs) × (x ≡ y))
get_push [] x y zero h = inr (refl, cc)
get_push [] x y (suc k) h = cc
get_push (z ∷ zs) x y zero h = inl h
get_push (z ∷ zs) x y (suc k) h = elim (get_push zs x y k h) [
  | inl e ↦ inl e
  | inr e ↦ inr (ap suc e.0, e.1)
]

-- a sum of nothing but zeros
pub total_of_zeros : {X : Type 0} (f : X → ℕ) (xs : List X)
    → ((k : ℕ) (x : X) → slice_get xs k ≡ Some x → f x ≡ 0)
    → total f xs ≡ 0
total_of_zeros f [] h = refl
total_of_zeros f (x ∷ xs) h =
    let first = h 0 x refl in
    let rest = total_of_zeros f xs (λ k y e. h (suc k) y e) in
    omega arith

-- a slab with no slots has no values
pub nothing_kept : {X : Type 0} (slab : Slab X) (key : ℕ) (x : X) → slab.slots ≡ []
    → get slab key ≡ Some x → ⊥
nothing_kept slab key x empty h =
    let none : get slab key ≡ None = ap (λ xs. get_or xs key None) empty in
    let both : Some x ≡ None = sym h ∙ none in
    cc

module _ {T A : Type 0} where
  -- each of the new seats is that of its client
  pub new_at : (shard : Shard T A) (first : ℕ) (seats : List (ShardSeat T)) (k : ℕ)
      (seat : ShardSeat T) → AreNew shard first seats → slice_get seats k ≡ Some seat
      → IsNew shard (first + k) seat
  new_at shard first [] k seat all h = cc
  new_at shard first (s ∷ seats) zero seat all h =
      let same : s ≡ seat = cc in
      let number : first + 0 ≡ first = omega arith in
      rw (← same) (rw number all.0)
  new_at shard first (s ∷ seats) (suc k) seat all h =
      let number : first + suc k ≡ first + 1 + k = omega arith in
      rw number (new_at shard (first + 1) seats k seat all.1 h)

  -- nothing is held in a new seat
  pub new_records : (shard : Shard T A) (k : ℕ) (seat : ShardSeat T) → IsNew shard k seat
      → (view_of seat).records ≡ []
  new_records shard k seat new = ap (λ (v : View T). v.records) new.fresh

  -- and nothing stands alone
  pub new_standalones : (shard : Shard T A) (k : ℕ) (seat : ShardSeat T) → IsNew shard k seat
      → (view_of seat).work.standalones ≡ []
  new_standalones shard k seat new = ap (λ (v : View T). v.work.standalones) new.fresh

  -- a new seat is known as its client's, whichever serials that used
  pub new_seated : (shard : Shard T A) (k used : ℕ) (seat : ShardSeat T) → IsNew shard k seat
      → IsSeated shard k used seat
  new_seated shard k used seat new = record {
    rests = new.rests;
    number_is = new.number;
    single = ap (λ (v : View T). v.others) new.fresh;
    records = rw (new_records shard k seat new) tt;
    standalones = rw (new_standalones shard k seat new) tt;
    made =
        let none : length (view_of seat).made ≡ 0 = ap (λ (v : View T). length v.made) new.fresh in
        omega arith;
    above = rw (ap (λ (v : View T). v.made) new.fresh) tt;
    charged = record {
      records = rw (new_records shard k seat new) tt;
      standalones = rw (new_standalones shard k seat new) tt;
    };
  }

-- The seats of one shard are dealt, from the last client's on.
module _ {T : Type 0} where
  -- at first no client has its seat
  pub given_none : (clients : List (Client T)) (seats : List (ShardSeat (Seeded T)))
      → length seats ≡ length clients → AreGiven (length seats) clients seats clients
  given_none clients seats count = record {
    count = refl;
    same = λ k client below h. h;
    given = λ k client above h. let inside = within clients k client h in absurd (omega arith);
  }

  -- the next client gets its seat, where those after it have theirs
  pub given_more : (old now : List (Client T)) (seats : List (ShardSeat (Seeded T))) (n : ℕ)
      (was is : Client T) (seat : ShardSeat (Seeded T)) → AreGiven (n + 1) old seats now
      → slice_get now n ≡ Some was → slice_get seats n ≡ Some seat → Gains was seat is
      → AreGiven n old seats (slice_set now n is)
  given_more old now seats n was is seat all at from gains = record {
    count = length-set now n is ∙ all.count;
    same = λ k client below h.
        let before : k ≢ n = λ e. absurd (omega arith) in
        all.same k client (omega arith) (sym (read_other now n k is before) ∙ h);
    given = λ k client above h. elim (cases_eq k n) [
      | inl e ↦
          let here : slice_get (slice_set now n is) k ≡ Some is =
          ap (slice_get (slice_set now n is)) e ∙ read_here now n was is at in
          let both : Some client ≡ Some is = sym h ∙ here in
          let same : client ≡ is = cc in
          let stood = ap (slice_get old) e ∙ all.same n was (omega arith) at in
          let dealt = ap (slice_get seats) e ∙ from in
          (was, seat, stood, dealt, rw same gains)
      | inr after ↦
          let later : n + 1 ≤ k = omega arith in
          all.given k client later (sym (read_other now n k is after) ∙ h)
    ];
  }

  -- a client that got a seat did nothing still
  pub unused_still : (config : Config) (k : ℕ) (was client : Client T) (seat : ShardSeat (Seeded T))
      → IsUnused config k was → Gains was seat client → IsUnused config k client
  unused_still config k was client seat unused gains = record {
    number_is = ap (λ (x : Client T). x.number) gains.same ∙ unused.number_is;
    seed = ap (λ (x : Client T). x.seed) gains.same ∙ unused.seed;
    most = ap (λ (x : Client T). x.most) gains.same ∙ unused.most;
    held = ap (λ (x : Client T). x.held) gains.same ∙ unused.held;
    used = ap (λ (x : Client T). x.used) gains.same ∙ unused.used;
    left = ap (λ (x : Client T). x.left) gains.same ∙ unused.left;
    handles = ap (λ (x : Client T). x.handles.slots) gains.same ∙ unused.handles;
    alone = ap (λ (x : Client T). x.alone.slots) gains.same ∙ unused.alone;
    room = (
      rw (ap (λ (x : Client T). x.handles.capacity) gains.same) unused.room.0,
      rw (ap (λ (x : Client T). x.alone.capacity) gains.same) unused.room.1,
    );
  }

-- Shard by shard, all clients are dealt their seats.
module _ {T A : Type 0} where
  -- at first there is no shard
  pub dealt_none : (config : Config) (clients : List (Client T)) → AreUnseated config clients
      → AreDealt {T = T} {A = A} config [] clients
  dealt_none config clients all = record {
    count = all.count;
    each = λ k client h. record {
      unused = (all.each k client h).0;
      count = ap length (all.each k client h).1;
      seats = λ s shard seat hd hs. cc;
    };
  }

  -- one more shard is dealt to a client
  seated_more : (config : Config) (shards : List (Shard (Seeded T) A)) (k : ℕ)
      (was client : Client T) (shard : Shard (Seeded T) A) (seat : ShardSeat (Seeded T))
      → IsDealt config shards k was → Gains was seat client → IsNew shard k seat
      → IsDealt config (shards ++ shard ∷ []) k client
  seated_more config shards k was client shard seat dealt gains new = record {
    unused = unused_still config k was client seat dealt.unused gains;
    count =
        let more = ap length gains.gained ∙ length-append was.seats.items (seat ∷ []) in
        let shards_more = length-append shards (shard ∷ []) in
        let count = dealt.count in
        omega arith;
    seats = λ s d t hd ht.
        let seated : slice_get (was.seats.items ++ seat ∷ []) s ≡ Some t =
        ap (λ xs. slice_get xs s) (sym gains.gained) ∙ ht in
        let count = dealt.count in
        elim (get_push shards shard d s hd) [
          | inl stood ↦
              let inside = within shards s d stood in
              elim (get_push was.seats.items seat t s seated) [
                | inl sat ↦ dealt.seats s d t stood sat
                | inr last ↦ let e = last.0 in absurd (omega arith)
              ]
          | inr last ↦
              let e = last.0 in
              elim (get_push was.seats.items seat t s seated) [
                | inl sat ↦
                    let inside = within was.seats.items s t sat in
                    absurd (omega arith)
                | inr sat ↦ rw (← last.1, ← sat.1) new
              ]
        ];
  }

  -- one more shard is dealt to all clients
  pub dealt_more : (config : Config) (shards : List (Shard (Seeded T) A))
      (old now : List (Client T)) (shard : Shard (Seeded T) A)
      (seats : List (ShardSeat (Seeded T)))
      → AreDealt config shards old → AreGiven 0 old seats now → AreNew shard 0 seats
      → AreDealt config (shards ++ shard ∷ []) now
  dealt_more config shards old now shard seats all given new = record {
    count = given.count ∙ all.count;
    each = λ k client h.
        let g = given.given k client (omega arith) h in
        let number : 0 + k ≡ k = omega arith in
        let one = rw number at (new_at shard 0 seats k g.1 new g.3) in
        seated_more config shards k g.0 client shard g.1 (all.each k g.0 g.2) g.4 one;
  }

module _ {T A : Type 0} where
  -- each seat of a client that was dealt its seats is a new one of some shard
  new_of : (config : Config) (shards : List (Shard (Seeded T) A)) (k : ℕ) (client : Client T)
      (s : ℕ) (seat : ShardSeat (Seeded T)) → IsDealt config shards k client
      → slice_get client.seats.items s ≡ Some seat
      → (shard : Shard (Seeded T) A) × IsNew shard k seat
  new_of config shards k client s seat dealt at =
      let inside = within client.seats.items s seat at in
      let count = dealt.count in
      let found = there shards s (omega arith) in
      (found.0, dealt.seats s found.0 seat found.1 at)

  -- Such a client holds nothing.
  dealt_holds : (config : Config) (shards : List (Shard (Seeded T) A)) (seed k : ℕ)
      (client : Client T) → IsDealt config shards k client
      → AreHeld seed client.used client.seats.items client.handles client.alone
  dealt_holds config shards seed k client dealt =
      let handles = dealt.unused.handles in
      let alone = dealt.unused.alone in
      let no_records : total records_at client.seats.items ≡ 0 =
      total_of_zeros records_at client.seats.items (λ s seat at.
      let new = new_of config shards k client s seat dealt at in
      ap length (new_records new.0 k seat new.1)) in
      let no_standalones : total standalones_at client.seats.items ≡ 0 =
      total_of_zeros standalones_at client.seats.items (λ s seat at.
      let new = new_of config shards k client s seat dealt at in
      ap length (new_standalones new.0 k seat new.1)) in
      record {
        each = λ index hold h. absurd (nothing_kept client.handles index hold handles h);
        apart = λ p q h j hp hq e. absurd (nothing_kept client.handles p h handles hp);
        pins = no_records ∙ rw handles refl;
        entries = no_standalones ∙ rw alone refl;
        names_apart = λ p q a b hp hq e. absurd (nothing_kept client.alone p a alone hp);
        some = λ index a h. absurd (nothing_kept client.alone index a alone h);
        references = rw (handles, alone) refl;
      }

module _ {T : Type 0} where
  -- Such a client is known to the cache.
  dealt_known : (config : Config) (cache : Cache T) (k : ℕ) (client : Client T)
      → IsAllowed config → AreAlike cache → cache.seed ≡ config.seed
      → IsDealt config cache.shards.items k client → Knows cache client
  dealt_known config cache k client allowed alike seed dealt =
      let unused = dealt.unused in
      let held = unused.held in
      let most = unused.most in
      let used = unused.used in
      let left = unused.left in
      let handles = allowed.handles in
      let serials = allowed.serials in
      record {
        alike = alike;
        seed = unused.seed ∙ sym seed;
        seated = record {
          count = dealt.count;
          each = λ s shard seat hd hs.
              rw unused.number_is
              (new_seated shard k client.used seat (dealt.seats s shard seat hd hs));
        };
        homes = λ s seat at.
            let new = new_of config cache.shards.items k client s seat dealt at in
            let none : (view_of seat).made ≡ [] =
            ap (λ (v : View (Seeded T)). v.made) new.1.fresh in
            rw none tt;
        holds = dealt_holds config cache.shards.items cache.seed k client dealt;
        count = held ∙ rw unused.handles refl;
        few = omega arith;
        most = omega arith;
        room = (rw most unused.room.0, rw most unused.room.1);
        serials = omega arith;
      }

  -- the shards of a cache are alike
  pub made_alike : (config : Config) (tag : T) (cache : Cache T) → IsAllowed config
      → IsCacheOf config tag cache → AreAlike cache
  made_alike config tag cache allowed made = record {
    some = rw made.count allowed.some_shard;
    few = rw made.count allowed.shards;
    power = rw made.count allowed.shards_power;
    plans = λ s shard h.
        let one = made.shards s shard h in (
          one.geometry ∙ sym made.geometry,
          one.capacity ∙ sym made.capacity,
          one.strict ∙ sym made.strict,
          rw (made.tag_is, made.seed, made.count) one.tag_is,
        );
  }

  -- Of shards without entries, with clients that were dealt their seats, it is a new cache.
  pub opened : (config : Config) (tag : T) (cache : Cache T) (clients : List (Client T))
      → IsAllowed config → IsCacheOf config tag cache → AreDealt config cache.shards.items clients
      → ((s : ℕ) (shard : Shard (Seeded T) _) → slice_get cache.shards.items s ≡ Some shard
      → image_of shard ≡ []) → KnowNothing clients → IsOpened config tag cache clients
  opened config tag cache clients allowed made dealt images nothing =
      let alike = made_alike config tag cache allowed made in
      record {
        cache_is = made;
        dealt = dealt;
        known = λ k client h.
            dealt_known config cache k client allowed alike made.seed (dealt.each k client h);
        empty = none_shown cache clients images nothing;
      }
